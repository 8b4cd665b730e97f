-- What a comparison finds.
use Rattle.std.specs.Prelude.{◌≡◌, ◌≢◌, ◌⊎◌, ℕ, ◌+◌, ◌*◌, ◌^◌, ◌≤◌, Bool, true, false, List, [], ◌∷◌, length}
use Rattle.prefix_patterns.specs.Bits.{address_length}
use Rattle.prefix_patterns.specs.Matching.{LiesWithin, Matches, PrefixPattern}
use Rattle.filter_code.specs.Limits.{smallest_size}
use Rattle.filter_code.specs.RouteView.{RouteView}
use Rattle.filter_code.specs.CodeView.{CodeView}
use Rattle.filter_code.specs.Machine.{outcome_of}
use Rattle.filter_code.specs.declared.outcome.Outcome.{Outcome}
use Rattle.filter_diff.specs.Endings.{outcome_at}
use Rattle.filter_diff.specs.declared.route_part.PartFinding.{PartFinding}
use Rattle.filter_diff.specs.declared.route_part.PartFinding.TheVariants as finding
use Rattle.filter_diff.specs.declared.route_part.RoutePart.{RoutePart}

-- the routes of a domain: a prefix of at most 32 bits, and a metric of at most the size
pub record IsIn (size : ℕ) (route : RouteView) : Type 0 where
  pub fits : length route.net ≤ address_length
  pub reachable : route.metric ≤ size
  pub domain : route.size ≡ size

-- a route of a part: its prefix lies within that of the part, and its length and its metric are in the part's ranges
pub record Has (part : RoutePart) (route : RouteView) : Type 0 where
  pub within : LiesWithin route.net part.prefix
  pub shortest : part.shortest ≤ length route.net
  pub longest : length route.net ≤ part.longest
  pub least : part.least ≤ route.metric
  pub greatest : route.metric ≤ part.greatest

-- a part is the routes of a pattern of prefixes and of a range of metrics, and at least one of them is in the domain of the size
pub record IsReal (size : ℕ) (part : RoutePart) : Type 0 where
  pub pattern : length part.prefix ≤ part.shortest
  pub lengths : part.shortest ≤ part.longest
  pub fits : part.longest ≤ address_length
  pub metrics : part.least ≤ part.greatest
  pub reachable : part.greatest ≤ size

-- a route of the domain that a part has
pub record HasRoute (size : ℕ) (part : RoutePart) : Type 0 where
  pub route : RouteView
  pub is_in : IsIn size route
  pub has : Has part route

-- the prefixes of a part as a pattern, and a route that matches it and whose metric is in the part's range
abbrev pub pattern_of : RoutePart → PrefixPattern
pattern_of part = record { bits = part.prefix; low = part.shortest; high = part.longest }

pub record IsMatched (part : RoutePart) (route : RouteView) : Type 0 where
  pub matched : Matches route.net (pattern_of part)
  pub least : part.least ≤ route.metric
  pub greatest : route.metric ≤ part.greatest

-- two codes have the same outcome
abbrev pub IsSame : CodeView → CodeView → RouteView → Type 0
IsSame old new route = outcome_of old route ≡ outcome_of new route

-- two codes end in these ways, which differ
pub record Differs (old new : CodeView) (before after : Outcome) (route : RouteView) : Type 0 where
  pub old_is : outcome_of old route ≡ before
  pub new_is : outcome_of new route ≡ after
  pub differ : before ≢ after

-- a finding holds of a route
abbrev pub Holds : CodeView → CodeView → PartFinding → RouteView → Type 0
Holds old new finding.Undecided route = Unit {0}
Holds old new (finding.Differ before after) route = Differs old new (outcome_at route before) (outcome_at route after) route

-- what was found is a difference, or nothing
abbrev pub is_difference : PartFinding → Bool
is_difference finding.Undecided = false
is_difference (finding.Differ before after) = true

abbrev pub is_undecided : PartFinding → Bool
is_undecided finding.Undecided = true
is_undecided (finding.Differ before after) = false

-- it is decided whether the routes of a part differ
abbrev pub IsDecided : RoutePart → Type 0
IsDecided part = is_undecided part.finding ≡ false

-- A class of routes has one length of the prefix, begins with some bits, and has one metric or any. There are fewer than 2^34 lengths with
-- such bits, so in the domains of a size there are at most so many classes.
abbrev pub class_limit : ℕ → ℕ
class_limit size = 2 ^ 34 * (size + 2)

-- a limit that leaves out no class of the routes of a size
pub record IsEnough (size limit : ℕ) : Type 0 where
  pub smallest : smallest_size ≤ size
  pub classes : class_limit size ≤ limit

-- a part's finding holds of each of its routes
abbrev pub IsTrueOf : CodeView → CodeView → ℕ → RoutePart → Type 0
IsTrueOf old new size part = (route : RouteView) → IsIn size route → Has part route → Holds old new part.finding route

-- a route lies in one of the parts
abbrev pub InOne : RouteView → List RoutePart → Type 0
InOne route [] = ⊥
InOne route (part ∷ parts) = Has part route ⊎ InOne route parts

-- each route of the domain has the same outcome, or lies in one of the parts
abbrev pub Cover : CodeView → CodeView → ℕ → List RoutePart → Type 0
Cover old new size parts = (route : RouteView) → IsIn size route → IsSame old new route ⊎ InOne route parts
