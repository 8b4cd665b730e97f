-- How the filters that a plan uses are set. (This project's own choice.)
use Rattle.std.specs.Prelude.{◌≡◌, ℕ, List, [], ◌∷◌, Option, Some, None, string_bytes}
use Rattle.std.specs.declared.sync.Arc.{Arc}
use Rattle.std.specs.declared.alloc.Global.{Global}
use Rattle.filter_verifier.specs.VerifiedView.{VerifiedView}
use Rattle.operator_cmds.specs.Script.{setting}
use Rattle.operator_cmds.specs.declared.event.Direction.{Direction}
use Rattle.operator_cmds.specs.declared.event.Direction.TheVariants as direction
use Rattle.router_operator.specs.OperatorView.{Names, filter_of}
use Rattle.router_options.specs.PlanView.{PlanView}
use Rattle.router_options.specs.declared.parts.FilterUse.{FilterUse}
use Rattle.slot_lock.specs.Calls.{Answered}
use Rattle.slot_lock.specs.Passes.{IsNew, PassView, RouterView}
use Rattle.slot_lock.specs.declared.answer.Answer.{Answer}

-- The filter of a name is set at a neighbour, in a direction, by one call. Where nothing has the name, nothing is called.
abbrev pub SetsOne : RouterView → Direction → Option VerifiedView → ℕ → PassView → PassView → Type 0
SetsOne r way None node old new = new ≡ old
SetsOne r way (Some f) node old new =
    (filter : Arc VerifiedView Global) × (filter.value ≡ f) × (a : Answer) × Answered r old (setting way node filter) a new

-- the filters of these uses are set in a direction, in order
abbrev pub SetsEach : RouterView → Direction → Names → List FilterUse → PassView → PassView → Type 0
SetsEach r way names [] old new = new ≡ old
SetsEach r way names (used ∷ uses) old new = (mid : PassView)
    × SetsOne r way (filter_of names (string_bytes used.name)) used.node old mid × SetsEach r way names uses mid new

-- first the import filters of a plan are set, and then its export filters
abbrev pub SetsFilters : RouterView → PlanView → Names → PassView → PassView → Type 0
SetsFilters r plan names old new = (mid : PassView)
    × SetsEach r direction.Import names plan.imports old mid × SetsEach r direction.Export names plan.exports mid new

-- nothing was called before, and who does it has all shares but the one that the right to forget has, whose holder enters nothing
abbrev pub BeginsWithFilters : RouterView → PlanView → Names → PassView → Type 0
BeginsWithFilters r plan names new = (first : PassView) × IsNew r 65535 first × SetsFilters r plan names first new
