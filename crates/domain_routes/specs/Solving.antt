-- Routes that are being found, in Dijkstra's order: some nodes are done, and no other node is nearer than these.
use Rattle.std.specs.Prelude.{◌≡◌, ◌≢◌, ℕ, suc, ◌<◌, ◌≤◌, Bool, false, true, List, slice_index_or}
use Rattle.netchange_core.specs.declared.reply.Via.{Via}
use Rattle.netchange_core.specs.declared.reply.Via.TheVariants.{Local, Node, Nowhere}
use Rattle.routing_domain.specs.Rest.{Topology}
use Rattle.domain_routes.specs.declared.best.Best.{Best}
use Rattle.domain_routes.specs.Offers.{IsBetter, StaysBehind}
use Rattle.domain_routes.specs.Routes.{own_route}

abbrev pub is_done : List Bool → ℕ → Bool
is_done done u = slice_index_or done u true

-- a node that is not done, and none of those is nearer
pub record IsNearest (size : ℕ) (routes : ℕ → Best) (done : ℕ → Bool) (w : ℕ) : Type 0 where
  pub member : w < size
  pub waits : done w ≡ false
  pub least : (u : ℕ) → u < size → done u ≡ false → (routes w).dist ≤ (routes u).dist

abbrev pub AreAllDone : ℕ → (ℕ → Bool) → Type 0
AreAllDone size done = (u : ℕ) → u < size → done u ≡ true

-- a route leads through a node that is done
pub record LeadsOver (m : Topology) (routes : ℕ → Best) (done : ℕ → Bool) (u dist w : ℕ) : Type 0 where
  pub member : w < m.size
  pub before : done w ≡ true
  pub linked : m.linked u w ≡ true
  pub one_more : dist ≡ suc (m.filtered u w (routes w).dist)
  pub in_reach : dist < m.size

abbrev pub IsFound : Topology → (ℕ → Best) → (ℕ → Bool) → ℕ → ℕ → Via → Type 0
IsFound m routes done u dist Local = ⊥
IsFound m routes done u dist (Node w) = LeadsOver m routes done u dist w
IsFound m routes done u dist Nowhere = dist ≡ m.size

-- a route leads through a node that is done, or nowhere, and the way through no other of these comes before it
pub record IsBestSoFar (m : Topology) (routes : ℕ → Best) (done : ℕ → Bool) (u : ℕ) (route : Best) : Type 0 where
  pub found : IsFound m routes done u route.dist route.via
  pub behind : (w : ℕ) → w < m.size → done w ≡ true → m.linked u w ≡ true →
      StaysBehind (suc (m.filtered u w (routes w).dist)) w route

pub record AreBestSoFar (m : Topology) (to : ℕ) (routes : ℕ → Best) (done : ℕ → Bool) : Type 0 where
  pub own : routes to ≡ own_route
  pub bounded : (u : ℕ) → u < m.size → (routes u).dist ≤ m.size
  pub best : (u : ℕ) → u < m.size → u ≢ to → IsBestSoFar m routes done u (routes u)
  pub order : (x u : ℕ) → x < m.size → u < m.size → done x ≡ true → done u ≡ false → (routes x).dist ≤ (routes u).dist

-- a node took the way through another at this distance, if they are neighbours and it came before the node's route
pub record IsOffered (m : Topology) (w dist u : ℕ) (old new : Best) : Type 0 where
  pub taken : m.linked u w ≡ true → IsBetter old (suc (m.filtered u w dist)) w new
  pub kept : m.linked u w ≡ false → new ≡ old

-- each node was offered the way through this one
abbrev pub AreOffered : Topology → ℕ → (ℕ → Best) → (ℕ → Best) → Type 0
AreOffered m w old new = (u : ℕ) → u < m.size → IsOffered m w (old w).dist u (old u) (new u)
