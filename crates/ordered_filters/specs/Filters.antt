-- Domains of which each filter was found to keep the order of metrics. (This project's own choice.)
use Rattle.std.specs.Prelude.{ℕ, ◌<◌, ◌≤◌, IfSome, length}
use Rattle.filter_diff.specs.Ordering.{IsOrderOf}
use Rattle.filter_diff.specs.declared.ordering.Order.TheVariants as order
use Rattle.filter_verifier.specs.VerifiedView.{VerifiedView}
use Rattle.netchange_core.specs.FilteredDistance.{prefix_of}
use Rattle.prefix_patterns.specs.Bits.{address_length}
use Rattle.routing_domain.specs.Domain.{Domain, neighbour}

-- what `check_order` says of a filter that keeps the order in domains of this size
abbrev pub IsFoundKept : ℕ → VerifiedView → Type 0
IsFoundKept size filter = IsOrderOf filter.program size order.Kept

-- Each filter of the domain was found to; and each prefix that it is shown is one, of no more bits than an address has.
pub record HasOrderedFilters (d : Domain) : Type 0 where
  pub prefixes : (u v : ℕ) → u < d.size → v < d.size → length (prefix_of (d.router u).opening v) ≤ address_length
  pub imports : (u w : ℕ) → u < d.size → w < d.size → IfSome (neighbour d u w).imports (IsFoundKept d.size)
  pub exports : (u w : ℕ) → u < d.size → w < d.size → IfSome (neighbour d u w).exports (IsFoundKept d.size)
