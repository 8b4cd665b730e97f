-- Who ends a session. (This project's own choice.)
use Rattle.std.specs.Prelude.{◌≡◌, ◌⊎◌, ℕ, Bool, MatchBool}
use Rattle.slot_lock.specs.Passes.{PassView, RouterView}
use Rattle.slot_lock.specs.declared.answer.Answer.{Answer}
use Rattle.neighbour_session.specs.Calls.{Closes, IsUnclosed}
use Rattle.neighbour_session.specs.declared.ends.SessionEnd.{SessionEnd}

-- Down was entered, and the session is over for the reason that there was; or Down was not entered, and that is the reason
abbrev pub GoesDown : RouterView → ℕ → SessionEnd → PassView → SessionEnd → PassView → Type 0
GoesDown r session why old result new =
    ((a : Answer) × Closes r session old a new × (result ≡ why)) ⊎ IsUnclosed result r old new

-- Who is told to be the first to end a session enters its Down, and who is not enters nothing.
pub record Ends (may_be_first : Bool → Type 0) (r : RouterView) (session : ℕ) (why : SessionEnd) (old : PassView) (result : SessionEnd)
    (new : PassView) : Type 0 where
  pub is_first : Bool
  pub told : may_be_first is_first
  pub done : MatchBool is_first (GoesDown r session why old result new) ((new ≡ old) × (result ≡ why))

-- Nothing was entered; or Down was, and who leaves was told of its answer.
abbrev pub TellsDown : (Answer → Type 0) → RouterView → ℕ → PassView → PassView → Type 0
TellsDown is_notified r session old new =
    (new.fragment.mine ≡ old.fragment.mine) ⊎ ((a : Answer) × Closes r session old a new × is_notified a)
