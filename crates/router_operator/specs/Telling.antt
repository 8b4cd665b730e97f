-- Who listens is told of what an operator's call entered. (This project's own choice.)
use Rattle.std.specs.Prelude.{◌≡◌, ◌⊎◌, ℕ, Option, None, Some}
use Rattle.netchange_core.specs.declared.event.Event.{Event}
use Rattle.netchange_core.specs.declared.event.Event.TheVariants as event
use Rattle.slot_lock.specs.Calls.{Answered}
use Rattle.slot_lock.specs.Passes.{PassView, RouterView}
use Rattle.slot_lock.specs.declared.answer.Answer.{Answer}

-- the node whose export filter an event sets, if it sets one
abbrev pub exported_by : Event → Option ℕ
exported_by (event.SetExport node filter) = Some node
exported_by _ = None

-- nothing was entered; or the event was, and who listens was told of its answer, and of the node whose export filter it set
abbrev pub IsNotified : (Option ℕ → Answer → Type 0) → RouterView → PassView → Event → PassView → Type 0
IsNotified is_notified r old happened new = (new.fragment.mine ≡ old.fragment.mine)
    ⊎ ((answer : Answer) × Answered r old happened answer new × is_notified (exported_by happened) answer)
