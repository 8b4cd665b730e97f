-- What a best route is, as a relation: no neighbour is nearer, and none before it in number is as near. (Tel's Netchange; that
-- a tie goes to the least neighbour is this project's own choice.)
use Rattle.std.specs.Prelude.{◌≡◌, ℕ, ◌+◌, ◌<◌, ◌≤◌, All, List, length, slice_index, slice_index_or}
use Rattle.std.specs.List.{HoldsAt}
use Rattle.netchange_core.specs.declared.best_route.BestRoute.{BestRoute}
use Rattle.netchange_core.specs.declared.reply.Via.{Via}
use Rattle.netchange_core.specs.declared.reply.Via.TheVariants.{Local, Node, Nowhere}
use Rattle.netchange_core.specs.declared.sessions.Present.{Present}

-- among the first neighbours, which are so far from a node, this one leads to it at a distance below the size
pub record Through (size count : ℕ) (distances : List ℕ) (dist hop : ℕ) : Type 0 where
  pub is_neighbour : hop < count
  pub one_more : dist ≡ slice_index distances hop + 1
  pub in_reach : dist < size
  pub least : (k : ℕ) → k < count → dist ≤ slice_index distances k + 1
  pub first : (k : ℕ) → k < hop → dist < slice_index distances k + 1

-- none of them leads to it
pub record Without (size count : ℕ) (distances : List ℕ) (dist : ℕ) : Type 0 where
  pub out_of_reach : dist ≡ size
  pub none : (k : ℕ) → k < count → size ≤ slice_index distances k + 1

abbrev pub LeadsBy : ℕ → ℕ → List ℕ → ℕ → Via → Type 0
LeadsBy size count distances dist Local = ⊥
LeadsBy size count distances dist (Node hop) = Through size count distances dist hop
LeadsBy size count distances dist Nowhere = Without size count distances dist

-- the route is the best one by the first neighbours
abbrev pub Leads : ℕ → ℕ → List ℕ → BestRoute → Type 0
Leads size count distances route = LeadsBy size count distances route.dist route.via

-- each neighbour within reach of the node is listed, and whoever is listed is a neighbour
pub record ListsReachable (size : ℕ) (distances : List ℕ) (ps : List Present) : Type 0 where
  pub named : All (λ p. p.node < length distances) ps
  pub listed : (k : ℕ) → k < length distances → slice_index distances k < size →
      (i : ℕ) × (i < length ps) × HoldsAt (λ p. p.node ≡ k) ps i

-- of the neighbours that are listed first, this one leads to the node at a distance below the size
pub record ThroughListed (size count : ℕ) (ps : List Present) (distances : List ℕ) (dist hop : ℕ) : Type 0 where
  pub is_neighbour : hop < length distances
  pub one_more : dist ≡ slice_index distances hop + 1
  pub in_reach : dist < size
  pub least : (i : ℕ) (p : Present) → i < count → dist ≤ slice_index distances (slice_index_or ps i p).node + 1
  pub first : (i : ℕ) (p : Present) → i < count → (slice_index_or ps i p).node < hop →
      dist < slice_index distances (slice_index_or ps i p).node + 1

-- none of them leads to it
pub record WithoutListed (size count : ℕ) (ps : List Present) (distances : List ℕ) (dist : ℕ) : Type 0 where
  pub out_of_reach : dist ≡ size
  pub none : (i : ℕ) (p : Present) → i < count → size ≤ slice_index distances (slice_index_or ps i p).node + 1

abbrev pub LeadsListedBy : ℕ → ℕ → List Present → List ℕ → ℕ → Via → Type 0
LeadsListedBy size count ps distances dist Local = ⊥
LeadsListedBy size count ps distances dist (Node hop) = ThroughListed size count ps distances dist hop
LeadsListedBy size count ps distances dist Nowhere = WithoutListed size count ps distances dist

-- the route is the best one by the neighbours that are listed first
abbrev pub LeadsListed : ℕ → ℕ → List Present → List ℕ → BestRoute → Type 0
LeadsListed size count ps distances route = LeadsListedBy size count ps distances route.dist route.via
