-- The topology of a plan, for one destination.
use Rattle.std.specs.Prelude.{ℕ}
use Rattle.netchange_core.specs.FilteredDistance.{filtered_distance}
use Rattle.routing_domain.specs.Rest.{Topology}
use Rattle.domain_routes.specs.PlanView.{PlanView, is_linked, opening_of, peer}

-- what the second node's distance comes to at the first: it passes the export filter that the second has for the first, and
-- then the import filter that the first has for the second
abbrev pub filtered : PlanView → ℕ → ℕ → ℕ → ℕ → ℕ
filtered p v u w x = filtered_distance (opening_of p) (peer p u w).imports v (filtered_distance (opening_of p) (peer p w u).exports v x)

abbrev pub topology : PlanView → ℕ → Topology
topology p v = record { size = p.size; linked = is_linked p; filtered = filtered p v }
