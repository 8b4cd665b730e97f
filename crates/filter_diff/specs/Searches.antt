-- A search under way.
use Rattle.std.specs.Prelude.{◌≡◌, ◌≢◌, ◌⊎◌, ℕ, zero, suc, ◌+◌, ◌*◌, ◌-◌, Bool, true, false, Option, Some, None, List, [], ◌∷◌, ◌++◌, All, is_some, length}
use Rattle.filter_code.specs.RouteView.{RouteView}
use Rattle.filter_code.specs.CodeView.{CodeView}
use Rattle.filter_diff.specs.Classes.{Always, IsOf, IsOfSize}
use Rattle.filter_diff.specs.Endings.{outcome_at}
use Rattle.filter_diff.specs.Parts.{Differs, Has, InOne, IsIn, IsReal, IsSame}
use Rattle.filter_diff.specs.declared.class.Class.{Class}
use Rattle.filter_diff.specs.declared.ending.RunEnding.{RunEnding}
use Rattle.filter_diff.specs.declared.found.Found.{Found}
use Rattle.filter_diff.specs.declared.found.Found.TheVariants as found
use Rattle.filter_diff.specs.declared.route_part.RoutePart.{RoutePart}

-- two endings are the same at each route, or different at each
abbrev pub Compare : RunEnding → RunEnding → Found → Type 0
Compare before after found.Same = (route : RouteView) → outcome_at route before ≡ outcome_at route after
Compare before after (found.Differ a b) = (a ≡ before) × (b ≡ after) × ((route : RouteView) → outcome_at route before ≢ outcome_at route after)
Compare before after _ = Unit {0}

-- what was found of a class
abbrev pub Says : CodeView → CodeView → Class → Found → Type 0
Says old new class found.Same = Always class (λ route. IsSame old new route)
Says old new class (found.Differ a b) = Always class (λ route. Differs old new (outcome_at route a) (outcome_at route b) route)
Says old new class _ = Unit {0}

-- more has to be known of a class
abbrev pub is_asking : Found → Bool
is_asking found.Same = false
is_asking (found.Differ a b) = false
is_asking found.AsksBits = true
is_asking found.AsksMetric = true

-- nothing is left to know of it
pub record IsWhole (class : Class) : Type 0 where
  pub bits : length class.known ≡ class.len
  pub metric : is_some class.metric ≡ true

-- a class of which so many bits are not known, and all that it is split into by its bits
abbrev pub split_by_bits : ℕ → ℕ
split_by_bits zero = 1
split_by_bits (suc n) = 1 + 2 * split_by_bits n

-- the same with each metric and with any, where that is not known
abbrev pub by_metric : ℕ → Option ℕ → ℕ
by_metric size None = size + 2
by_metric size (Some metric) = 1

-- the most classes that a search tries of a class, itself among them; and of several
abbrev pub most_tried : ℕ → Class → ℕ
most_tried size class = by_metric size class.metric * split_by_bits (class.len - length class.known)

abbrev pub most_tried_of : ℕ → List Class → ℕ
most_tried_of size [] = 0
most_tried_of size (class ∷ classes) = most_tried size class + most_tried_of size classes

-- the class with one more bit known
pub record HasBit (class : Class) (bit : Bool) (longer : Class) : Type 0 where
  pub known : longer.known ≡ class.known ++ (bit ∷ [])
  pub len : longer.len ≡ class.len
  pub metric : longer.metric ≡ class.metric
  pub size : longer.size ≡ class.size

-- a part has just the routes of a class
pub record IsPartOf (class : Class) (part : RoutePart) : Type 0 where
  pub of_class : (route : RouteView) → IsIn class.size route → Has part route → IsOf class route
  pub of_part : (route : RouteView) → IsIn class.size route → IsOf class route → Has part route

-- the parts that were found and the classes that are left have routes of the domain of a size
pub record AreReal (size : ℕ) (parts : List RoutePart) (classes : List Class) : Type 0 where
  pub found : All (IsReal size) parts
  pub left : All (IsOfSize size) classes

-- a route is one of the classes that are left
abbrev pub IsLeft : RouteView → List Class → Type 0
IsLeft route [] = ⊥
IsLeft route (class ∷ classes) = IsOf class route ⊎ IsLeft route classes

-- a route has the same outcome, or lies in one of the parts, or is left
abbrev pub IsDealt : CodeView → CodeView → List RoutePart → List Class → RouteView → Type 0
IsDealt old new parts classes route = (IsSame old new route ⊎ InOne route parts) ⊎ IsLeft route classes
