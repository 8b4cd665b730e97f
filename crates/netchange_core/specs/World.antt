-- The world: the plain state of one node of a domain that runs Netchange. It has what the neighbours told and what waits to
-- be told, and no distances and next hops of its own: those are computed from it. (After Tel, Introduction to Distributed
-- Algorithms, on the Netchange algorithm; filters and sessions are this project's own.)
use Rattle.std.specs.Prelude.{ℕ, suc, zero, ◌==◌, Bool, false, Option, Some, None, is_some, List, [], ◌∷◌, slice_index_or, position}
use Rattle.filter_verifier.specs.VerifiedView.{VerifiedView}
use Rattle.netchange_core.specs.declared.message.Message.{Message}
use Rattle.netchange_core.specs.OpeningView.{OpeningView}

-- a node as a neighbour: its present session, if it is up; the distance to each node that it advertised last in this session;
-- the two filters; and the messages that wait to be sent to it, the oldest first
pub record NeighbourView : Type 0 where
  pub session : Option ℕ
  pub advertised : List ℕ
  pub imports : Option VerifiedView
  pub exports : Option VerifiedView
  pub queue : List Message

-- what the router was opened with, how many sessions there were so far, and each node as a neighbour, by number. The
-- router's own node stands there too, and is never up.
pub record World : Type 0 where
  pub opening : OpeningView
  pub sessions : ℕ
  pub neighbours : List NeighbourView

-- a neighbour that never was up
abbrev pub nobody : NeighbourView
nobody = record { session = None; advertised = []; imports = None; exports = None; queue = [] }

-- the neighbour of a number
abbrev pub neighbour_at : List NeighbourView → ℕ → NeighbourView
neighbour_at ns k = slice_index_or ns k nobody

-- whether a neighbour is up, and whether this is its present session
abbrev pub is_up : NeighbourView → Bool
is_up n = is_some n.session

abbrev pub is_session : ℕ → Option ℕ → Bool
is_session s None = false
is_session s (Some present) = present == s

abbrev pub has_session : ℕ → NeighbourView → Bool
has_session s n = is_session s n.session

-- the up neighbour whose present session this is, if there is one
abbrev pub holder : World → ℕ → Option ℕ
holder w s = position (has_session s) w.neighbours

-- the neighbours after one of them changed
abbrev pub change : ℕ → (NeighbourView → NeighbourView) → List NeighbourView → List NeighbourView
change k f [] = []
change zero f (n ∷ ns) = f n ∷ ns
change (suc k) f (n ∷ ns) = n ∷ change k f ns

-- the world after one neighbour changed
abbrev pub changed : World → ℕ → (NeighbourView → NeighbourView) → World
changed w k f = record w { neighbours = change k f w.neighbours }
