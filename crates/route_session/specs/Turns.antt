-- How a session uses up its turns. (This project's own choice.)
use Rattle.std.specs.Prelude.{◌≡◌, ℕ, suc, ◌+◌, ◌≤◌, Bool, true, false, List, [], ◌∷◌, length, ⊤}
use Rattle.route_session.specs.declared.ends.Cause.{Cause}
use Rattle.route_session.specs.declared.ends.Cause.TheVariants as cause
use Rattle.route_session.specs.LinkTrace.{LinkTrace, counted}
use Rattle.slot_lock.specs.Passes.{Fragment}

-- what a gate answered, the last turn first, is what it may answer at each turn
abbrev pub AreAnswers : (ℕ → Bool → Type 0) → List Bool → Type 0
AreAnswers may [] = ⊤
AreAnswers may (answer ∷ earlier) = may (length earlier) answer × AreAnswers may earlier

-- how many turns it let go
abbrev pub let_go : List Bool → ℕ
let_go [] = 0
let_go (true ∷ earlier) = suc (let_go earlier)
let_go (false ∷ earlier) = let_go earlier

-- the gate was asked at each of so many turns, and let so many of them go
pub record Asked (may : ℕ → Bool → Type 0) (turns goes : ℕ) : Type 0 where
  pub answers : List Bool
  pub are : AreAnswers may answers
  pub turns_are : length answers ≡ turns
  pub goes_are : let_go answers ≡ goes

-- How many of a reader's turns are in no other count: the last, where the link ended or failed at it or the router did not enter the call.
-- A message of a session that is over was entered.
abbrev pub uncounted_read : Cause → ℕ
uncounted_read cause.Turns = 0
uncounted_read cause.Stale = 0
uncounted_read _ = 1

-- how many of a writer's: the last, where the router did not enter the call; one whose messages the link did not take was made
abbrev pub uncounted_take : Cause → ℕ
uncounted_take cause.Full = 1
uncounted_take cause.Memory = 1
uncounted_take _ = 0

-- A reader's turns, whatever it ended for: at each that the gate let go, but for an uncounted last one, the link handed out a message,
-- which was entered, or answered that none was there.
pub record ReadsByTurns (may : ℕ → Bool → Type 0) (turns : ℕ) (why : Cause) (entered : ℕ) (t u : LinkTrace) : Type 0 where
  pub used : ℕ
  pub within : used ≤ turns
  pub all : why ≡ cause.Turns → used ≡ turns
  pub nothings : ℕ
  pub told : u.nothings ≡ counted t.nothings nothings
  pub asked : Asked may used (entered + nothings + uncounted_read why)

-- A writer's turns, whatever it ended for: at each that the gate let go, but for an uncounted last one, it made one call, which is one
-- position more that is the caller's own.
pub record TakesByTurns (may : ℕ → Bool → Type 0) (turns : ℕ) (why : Cause) (old new : Fragment) : Type 0 where
  pub used : ℕ
  pub within : used ≤ turns
  pub all : why ≡ cause.Turns → used ≡ turns
  pub takes : ℕ
  pub calls : length new.mine ≡ length old.mine + takes
  pub asked : Asked may used (takes + uncounted_take why)
