-- What a contract sees of the plan of a domain.
use Rattle.std.specs.Prelude.{◌≡◌, ℕ, ◌<◌, ◌≤◌, Bool, false, Option, None, List, [], length, slice_index_or}
use Rattle.filter_code.specs.Limits.{smallest_size, largest_size}
use Rattle.filter_verifier.specs.VerifiedView.{VerifiedView}
use Rattle.netchange_core.specs.Kept.{FitsSize}
use Rattle.netchange_core.specs.OpeningView.{OpeningView}

-- a node as another has it: whether there is a link, and the filters of what it tells and of what it is told
pub record PeerView : Type 0 where
  pub linked : Bool
  pub imports : Option VerifiedView
  pub exports : Option VerifiedView

-- the number of nodes, the bits of each node's prefix, and each node as each node has it, by number
pub record PlanView : Type 0 where
  pub size : ℕ
  pub prefixes : List (List Bool)
  pub rows : List (List PeerView)

-- a node without a link and without filters
abbrev pub stranger : PeerView
stranger = record { linked = false; imports = None; exports = None }

-- the second node as the first has it
abbrev pub peer : PlanView → ℕ → ℕ → PeerView
peer p u w = slice_index_or (slice_index_or p.rows u []) w stranger

abbrev pub is_linked : PlanView → ℕ → ℕ → Bool
is_linked p u w = (peer p u w).linked

-- what filters are shown of the domain: which of its nodes is asked makes no difference to them
abbrev pub opening_of : PlanView → OpeningView
opening_of p = record { size = p.size; me = 0; prefixes = p.prefixes }

-- a domain has 2 to 250 nodes
pub record IsSize (size : ℕ) : Type 0 where
  pub from_two : smallest_size ≤ size
  pub to_largest : size ≤ largest_size

-- there is a place for each two nodes
pub record HasPlaces (p : PlanView) : Type 0 where
  pub rows : length p.rows ≡ p.size
  pub places : (u : ℕ) → u < p.size → length (slice_index_or p.rows u []) ≡ p.size

-- each node has a prefix, and there is a place for each two; links are mutual, and none leads back to its node; the filters were
-- verified for the size
pub record IsPlan (p : PlanView) : Type 0 where
  pub size : IsSize p.size
  pub one_a_node : length p.prefixes ≡ p.size
  pub places : HasPlaces p
  pub apart : (u : ℕ) → is_linked p u u ≡ false
  pub both_ways : (u w : ℕ) → is_linked p u w ≡ is_linked p w u
  pub imports : (u w : ℕ) → FitsSize p.size (peer p u w).imports
  pub exports : (u w : ℕ) → FitsSize p.size (peer p u w).exports
