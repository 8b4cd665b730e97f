-- Whether a code keeps the order of metrics: of two with which a route may be received, the lesser one comes to no more than the other. A route
-- that is rejected comes to the size, which is the metric of what cannot be reached. At the size itself no filter is asked.
use Rattle.std.specs.Prelude.{◌≡◌, ◌≢◌, ℕ, ◌+◌, ◌<◌, ◌≤◌, List, Bool, None, length}
use Rattle.prefix_patterns.specs.Bits.{address_length}
use Rattle.filter_code.specs.RouteView.{RouteView}
use Rattle.filter_code.specs.CodeView.{CodeView}
use Rattle.filter_code.specs.Machine.{outcome_of}
use Rattle.filter_code.specs.declared.outcome.Outcome.{Outcome}
use Rattle.filter_code.specs.declared.outcome.Outcome.TheVariants as outcome
use Rattle.filter_diff.specs.Meeting.{Throughout}
use Rattle.filter_diff.specs.Parts.{IsIn}
use Rattle.filter_diff.specs.declared.class.Class.{Class}
use Rattle.filter_diff.specs.declared.found.Found.{Found}
use Rattle.filter_diff.specs.declared.found.Found.TheVariants as found
use Rattle.filter_diff.specs.declared.ordering.Disorder.{Disorder}
use Rattle.filter_diff.specs.declared.ordering.Order.{Order}
use Rattle.filter_diff.specs.declared.ordering.Order.TheVariants as order

-- the metric that an outcome comes to
abbrev pub comes_to : ℕ → Outcome → ℕ
comes_to size (outcome.Accept metric) = metric
comes_to size outcome.Reject = size
comes_to size (outcome.Fault kind at) = size

-- the route that has the next metric
abbrev pub with_next : RouteView → RouteView
with_next route = record route { metric = route.metric + 1 }

-- a route's metric comes to no more than the next one, where that is below the size; or to more
abbrev pub IsKeptAt : CodeView → RouteView → Type 0
IsKeptAt program route = route.metric + 1 < route.size →
    comes_to route.size (outcome_of program route) ≤ comes_to route.size (outcome_of program (with_next route))

pub record IsLostAt (program : CodeView) (route : RouteView) : Type 0 where
  pub below : route.metric + 1 < route.size
  pub more : comes_to route.size (outcome_of program (with_next route)) < comes_to route.size (outcome_of program route)

-- a prefix with a metric
abbrev pub route_with : ℕ → List Bool → ℕ → RouteView
route_with size net metric = record { net = net; metric = metric; size = size }

-- all of two metrics of a prefix are in order
abbrev pub KeepsOrder : CodeView → ℕ → Type 0
KeepsOrder program size = (net : List Bool) (x y : ℕ) → length net ≤ address_length → x ≤ y → y < size →
    comes_to size (outcome_of program (route_with size net x)) ≤ comes_to size (outcome_of program (route_with size net y))

-- two metrics of a prefix, of which the lesser one comes to more
pub record IsDisorder (program : CodeView) (size : ℕ) (shown : Disorder) : Type 0 where
  pub fits : length shown.prefix ≤ address_length
  pub below : shown.metric + 1 < size
  pub lesser : outcome_of program (route_with size shown.prefix shown.metric) ≡ shown.lesser
  pub next : outcome_of program (route_with size shown.prefix (shown.metric + 1)) ≡ shown.next
  pub more : comes_to size shown.next < comes_to size shown.lesser

-- what is found of a code
abbrev pub IsOrderOf : CodeView → ℕ → Order → Type 0
IsOrderOf program size order.Kept = KeepsOrder program size
IsOrderOf program size (order.Lost shown) = IsDisorder program size shown
IsOrderOf program size order.Undecided = Unit {0}

-- what is found of two outcomes, with the lesser metric and with the next one
abbrev pub IsCompared : ℕ → Outcome → Outcome → Found → Type 0
IsCompared size lesser next found.Same = comes_to size lesser ≤ comes_to size next
IsCompared size lesser next (found.Differ a b) = comes_to size next < comes_to size lesser
IsCompared size lesser next _ = Unit {0}

-- what is found of a class: on each of its routes the order is kept, or on each lost
abbrev pub SaysKept : CodeView → Class → Found → Type 0
SaysKept program class found.Same = Throughout class (λ route. IsKeptAt program route)
SaysKept program class (found.Differ a b) = Throughout class (λ route. IsLostAt program route)
SaysKept program class _ = Unit {0}

-- where it is lost, the metric is known
abbrev pub HasMetric : Class → Found → Type 0
HasMetric class (found.Differ a b) = class.metric ≢ None
HasMetric class _ = Unit {0}
