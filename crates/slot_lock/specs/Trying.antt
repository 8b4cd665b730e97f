-- Tries to acquire the lock, one after another. (This project's own choice.)
use Rattle.std.specs.Prelude.{ℕ, []}
use Rattle.lock_rule.specs.Steps.{Acquired, Seated}
use Rattle.lock_rule.specs.Views.{with_failed_tries}

-- the seat has acquired the lock, after so many failed tries
pub record AcquiredAfterTries (m w : Seated) : Type 0 where
  pub tries : ℕ
  pub acquired : Acquired (with_failed_tries tries m.0, []) w
