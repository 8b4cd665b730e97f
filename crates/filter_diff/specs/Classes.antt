-- Classes of routes: what is known of a route.
use Rattle.std.specs.Prelude.{◌≡◌, ℕ, ◌≤◌, Option, Some, None, length}
use Rattle.prefix_patterns.specs.Bits.{address_length}
use Rattle.prefix_patterns.specs.Matching.{LiesWithin}
use Rattle.filter_code.specs.RouteView.{RouteView}
use Rattle.filter_diff.specs.declared.class.Class.{Class}

-- the metric is the known one, if one is known
abbrev pub IsKnown : Option ℕ → ℕ → Type 0
IsKnown None metric = Unit {0}
IsKnown (Some known) metric = metric ≡ known

-- a route of a class: its prefix begins with the known bits and has the length, and its metric is the known one
pub record IsOf (class : Class) (route : RouteView) : Type 0 where
  pub begins : LiesWithin route.net class.known
  pub long : length route.net ≡ class.len
  pub fits : length route.net ≤ address_length
  pub received : IsKnown class.metric route.metric
  pub size : route.size ≡ class.size

-- the metric is at most the size, if one is known
abbrev pub IsUpTo : ℕ → Option ℕ → Type 0
IsUpTo size None = Unit {0}
IsUpTo size (Some known) = known ≤ size

-- a class with routes of the domain of a size: there is one for any further bits
pub record IsOfSize (size : ℕ) (class : Class) : Type 0 where
  pub bits : length class.known ≤ class.len
  pub fits : class.len ≤ address_length
  pub reachable : IsUpTo size class.metric

-- a fact of each route of a class
abbrev pub Always : Class → (RouteView → Type 0) → Type 0
Always class P = (route : RouteView) → IsOf class route → P route
