-- What who serves a session does where the history has no room. (This project's own choice.)
use Rattle.std.specs.Prelude.{◌≡◌, ℕ, ◌+◌, Bool, true, false, [], ◌∷◌, Option, length}
use Rattle.netchange_core.specs.declared.message.Message.{Message}
use Rattle.route_history.specs.declared.entry.Entry.{Entry}
use Rattle.route_session.specs.Calls.{Gained, IsFresh, stale}
use Rattle.route_session.specs.Reads.{IsReadBy, Receives}
use Rattle.route_session.specs.LinkTrace.{LinkTrace}
use Rattle.route_session.specs.declared.ends.Cause.{Cause}
use Rattle.route_session.specs.declared.ends.Cause.TheVariants as cause
use Rattle.slot_lock.specs.Passes.{Fragment, RouterView}
use Rattle.neighbour_session.specs.declared.ends.SessionEnd.{SessionEnd}
use Rattle.neighbour_session.specs.declared.ends.SessionEnd.TheVariants as end

-- why a session is over that met a full history: for that; or, where who serves it waits until there is room, because somebody ended it
abbrev pub full_end : Bool → SessionEnd
full_end false = end.Full
full_end true = end.Closed

-- and who waits was told that the session is not there
abbrev pub IsFullEnd : Bool → (Bool → Type 0) → SessionEnd → Type 0
IsFullEnd waits may_be_present why = (why ≡ full_end waits) × (waits ≡ true → may_be_present false)

-- the history that a pass has seen is full: but for those that are forgotten it has as many entries as the limit
pub record IsFull (r : RouterView) (p : Fragment) : Type 0 where
  pub full : length p.seen ≡ p.forgot + r.limit
  pub whole : r.endless ≡ false → p.forgot ≡ 0

-- a message was entered, once, and nothing else was
pub record EntersOne (session : ℕ) (m : Message) (old : Fragment) (e : Entry) (new : Fragment) : Type 0 where
  pub gained : Gained old (e ∷ []) new
  pub receives : Receives session e m

-- What became of a message that a full history had no room for: it was entered, and the session goes on (`Turns`), or is over (`Stale`); or
-- it was not entered, since the session is not there any more (`Full`), or memory was refused.
abbrev pub EntersLater : (Bool → Type 0) → RouterView → ℕ → Message → Fragment → Cause → Fragment → Type 0
EntersLater may_be_present r session m old cause.Turns new = (e : Entry) × EntersOne session m old e new × IsFresh e
EntersLater may_be_present r session m old cause.Stale new = (e : Entry) × EntersOne session m old e new × (e.reply ≡ stale)
EntersLater may_be_present r session m old cause.Full new = Gained old [] new × IsFull r new × may_be_present false
EntersLater may_be_present r session m old cause.Memory new = Gained old [] new
EntersLater may_be_present r session m old _ new = ⊥

-- a reader ended for this cause
abbrev pub ReadsFor : Cause → RouterView → ℕ → Fragment → LinkTrace → Fragment → LinkTrace → Type 0
ReadsFor why r session old t new u = (entered : ℕ) × (lost : Option Message) ×
    IsReadBy r session old t (record { cause = why; entered = entered; lost = lost }) new u
