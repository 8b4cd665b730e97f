-- What the states of the links answer to one who ends a session. (This project's own choice.)
use Rattle.std.specs.Prelude.{ℕ, Bool}

-- the link and the session, and whether nobody ended it before
pub record SessionEndingView : Type 0 where
  pub link : ℕ
  pub session : ℕ
  pub is_first : Bool
