-- A route, and the way through a neighbour.
use Rattle.std.specs.Prelude.{◌≡◌, ℕ, ◌<◌, ◌≤◌, ◌⊎◌}
use Rattle.netchange_core.specs.declared.reply.Via.{Via}
use Rattle.netchange_core.specs.declared.reply.Via.TheVariants.{Local, Node, Nowhere}
use Rattle.domain_routes.specs.declared.best.Best.{Best}

-- the number that decides between routes of one distance: that of the next hop, if there is one
abbrev pub hop_of : Via → ℕ
hop_of Local = 0
hop_of (Node w) = w
hop_of Nowhere = 0

abbrev pub way : ℕ → ℕ → Best
way dist hop = record { dist = dist; via = Node hop }

-- a way of this length through a neighbour comes before a route: it is shorter, or as short through a lesser neighbour
abbrev pub ComesBefore : ℕ → ℕ → Best → Type 0
ComesBefore length hop route = (length < route.dist) ⊎ ((length ≡ route.dist) × (hop < hop_of route.via))

-- it does not
pub record StaysBehind (length hop : ℕ) (route : Best) : Type 0 where
  pub near : route.dist ≤ length
  pub first : route.dist ≡ length → hop_of route.via ≤ hop

-- the better of a route and a way of this length through a neighbour
abbrev pub IsBetter : Best → ℕ → ℕ → Best → Type 0
IsBetter route length hop result =
    ((result ≡ way length hop) × ComesBefore length hop route) ⊎ ((result ≡ route) × StaysBehind length hop route)
