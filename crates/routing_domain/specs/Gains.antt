-- A domain that gains links and loses none.
use Rattle.std.specs.Prelude.{◌≡◌, ◌⊎◌, ℕ, suc, zero, ◌<◌, ◌≤◌}
use Rattle.routing_domain.specs.Domain.{Domain}
use Rattle.routing_domain.specs.Events.{CanLink, links}
use Rattle.routing_domain.specs.Rest.{Topology}
use Rattle.routing_domain.specs.Runs.{IsStep}

-- The filters keep order: of two distances of a node, the one that is no farther comes to one that is no farther at each neighbour. (An
-- isotone routing algebra.)
abbrev pub KeepsOrder : Topology → Type 0
KeepsOrder m = (u w x y : ℕ) → u < m.size → w < m.size → x ≤ y → y ≤ m.size → m.filtered u w x ≤ m.filtered u w y

-- two nodes become neighbours
pub record GainsLink (d e : Domain) : Type 0 where
  pub from : ℕ
  pub to : ℕ
  pub can : CanLink d from to
  pub after : e ≡ links d from to

-- so many steps and new links, in any order, lead from one domain to another
abbrev pub Gains : ℕ → Domain → Domain → Type 0
Gains zero d e = d ≡ e
Gains (suc k) d e = (c : Domain) × ((IsStep d c) ⊎ (GainsLink d c)) × (Gains k c e)
