-- The present sessions, as the tables keep them.
use Rattle.std.specs.Prelude.{◌≡◌, ◌≢◌, ℕ, ◌<◌, ◌≤◌, Bool, true, false, All, Contains, IsSome, Option, Some, None, List, length}
use Rattle.std.specs.Prelude.{map, slice_index_or}
use Rattle.std.specs.List.{AllPairs, HoldsAt, insert}
use Rattle.netchange_core.specs.declared.sessions.Present.{Present}
use Rattle.netchange_core.specs.World.{NeighbourView}

-- the session of each neighbour, by number, if it is up
abbrev pub sessions_of : List NeighbourView → List (Option ℕ)
sessions_of ns = map (λ n. n.session) ns

-- the session of the neighbour of a number
abbrev pub session_in : List (Option ℕ) → ℕ → Option ℕ
session_in sessions k = slice_index_or sessions k None

-- the numbers rise along the list
abbrev pub AreRising : List Present → Type 0
AreRising ps = AllPairs (λ p q. p.session < q.session) ps

-- a session that was opened, and its node is up in it
pub record IsPresent (count : ℕ) (sessions : List (Option ℕ)) (p : Present) : Type 0 where
  pub numbered : 0 < p.session
  pub opened : p.session ≤ count
  pub held : session_in sessions p.node ≡ Some p.session

-- a session with its node
abbrev pub present : ℕ → ℕ → Present
present session node = record { session = session; node = node }

-- of so many sessions, the list has those that are present, in the order of their numbers
pub record ArePresent (count : ℕ) (sessions : List (Option ℕ)) (ps : List Present) : Type 0 where
  pub rising : AreRising ps
  pub each : All (IsPresent count sessions) ps
  pub listed : (k s : ℕ) → session_in sessions k ≡ Some s → Contains ps (present s k)

-- the list names each up neighbour once, and no other node
pub record AreListed (sessions : List (Option ℕ)) (ps : List Present) : Type 0 where
  pub up : All (λ p. IsSome (session_in sessions p.node)) ps
  pub apart : AllPairs (λ p q. p.node ≢ q.node) ps
  pub listed : (k : ℕ) → IsSome (session_in sessions k) → (i : ℕ) × (i < length ps) × HoldsAt (λ p. p.node ≡ k) ps i

-- a session was inserted where its number says
pub record IsInserted (p : Present) (old new : List Present) : Type 0 where
  pub at : ℕ
  pub within : at ≤ length old
  pub below : (i : ℕ) (d : Present) → i < at → (slice_index_or old i d).session < p.session
  pub above : (i : ℕ) (d : Present) → at ≤ i → i < length old → p.session < (slice_index_or old i d).session
  pub is : new ≡ insert old at p

-- it was, if its number is a new one, else one of the sessions has it
abbrev pub Inserts : Present → List Present → List Present → Bool → Type 0
Inserts p old new true = IsInserted p old new
Inserts p old new false = (i : ℕ) × (i < length old) × HoldsAt (λ q. q.session ≡ p.session) old i
