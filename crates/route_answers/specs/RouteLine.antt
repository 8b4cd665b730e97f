-- What a route line says (this project's own choice).
use Rattle.std.specs.Prelude.{◌≡◌, ◌≢◌, ◌<◌, ◌≤◌, ℕ, Bool, List, [], ◌∷◌, ◌++◌, length, Option}
use Rattle.std.specs.Prelude.{Some, None, Result, Ok, Err, nat_lt, if◌then◌else◌, codes}
use Rattle.prefix_patterns.specs.Leading.{BeginsWith, IsUsualNumber, IsUsualPrefix}
use Rattle.prefix_patterns.specs.Number.{IsDigits, IsNumber, decimal_value}
use Rattle.prefix_patterns.specs.Reading.{number_in, prefix_in}
use Rattle.prefix_patterns.specs.Token.{IsPrefix}
use Rattle.filter_code.specs.RouteView.{IsWithinLimits, RouteView, is_within_limits}
use Rattle.line_protocol.specs.Words.{words}
use Rattle.line_protocol.specs.Limits.{line_limit, number_limit}
use Rattle.route_answers.specs.declared.line_fault.LineFault.{LineFault}
use Rattle.route_answers.specs.declared.line_fault.LineFault.TheVariants.{Words, Numbers, TooLong, Prefix}

-- the code that names what is wrong with a line
abbrev pub line_code : LineFault → List ℕ
line_code Words = codes "O1"
line_code Numbers = codes "O2"
line_code TooLong = codes "O7"
line_code Prefix = codes "O8"

-- the route of a prefix, a metric and a size, where all three were read; the first fault from the left counts
abbrev pub route_of_parts : Option (List Bool) → Option ℕ → Option ℕ → Result RouteView LineFault
route_of_parts None metric size = Err Prefix
route_of_parts (Some net) None size = Err Numbers
route_of_parts (Some net) (Some metric) None = Err Numbers
route_of_parts (Some net) (Some metric) (Some size) =
    if is_within_limits metric size then Ok (record { net = net; metric = metric; size = size }) else Err Numbers

-- the texts of a prefix and of a metric among the words of a line, and its size: the given one, or the number of a third word
abbrev pub parts_in : List (List ℕ) → Option ℕ → Option (List ℕ × List ℕ × Option ℕ)
parts_in (net ∷ (metric ∷ [])) (Some given) = Some (net, metric, Some given)
parts_in (net ∷ (metric ∷ (size ∷ []))) None = Some (net, metric, number_in number_limit size)
parts_in _ _ = None

-- the route of such parts
abbrev pub route_of_words : Option (List ℕ × List ℕ × Option ℕ) → Result RouteView LineFault
route_of_words None = Err Words
route_of_words (Some (net, metric, size)) = route_of_parts (prefix_in net) (number_in number_limit metric) size

-- the route that a line gives: `PREFIX METRIC SIZE`, or `PREFIX METRIC` in a domain of the given size
abbrev pub route_in : Option ℕ → List ℕ → Result RouteView LineFault
route_in given line = if nat_lt line_limit (length line) then Err TooLong else route_of_words (parts_in (words line) given)

-- A text begins with the size that stands behind a metric, in at most three digits behind a space, or with nothing where it is given.
abbrev pub BeginsWithSize : Option ℕ → List ℕ → ℕ → List ℕ → Type 0
BeginsWithSize (Some given) text size rest = (size ≡ given) × (rest ≡ text)
BeginsWithSize None text size rest = (digits : List ℕ) × (text ≡ 32 ∷ digits)
    × BeginsWith (λ token. IsDigits token × (size ≡ decimal_value token)) digits rest × (size ≤ 999)

-- What ends a line in the usual spelling: nothing where the size is given, and otherwise a space and the size.
abbrev pub IsUsualEnd : Option ℕ → List ℕ → ℕ → Type 0
IsUsualEnd (Some given) end size = (end ≡ []) × (size ≡ given)
IsUsualEnd None end size = (digits : List ℕ) × (end ≡ 32 ∷ digits) × IsUsualNumber digits × (size ≡ decimal_value digits)

-- A line in the usual spelling: its words are parted by one space each, and none of its numbers has more than three digits.
pub record IsUsualLine (given : Option ℕ) (line : List ℕ) : Type 0 where
  pub prefix : List ℕ
  pub metric : List ℕ
  pub end : List ℕ
  pub size : ℕ
  pub is_prefix : IsUsualPrefix prefix
  pub is_metric : IsUsualNumber metric
  pub ends : IsUsualEnd given end size
  pub limits : IsWithinLimits (decimal_value metric) size
  pub spelled : line ≡ prefix ++ 32 ∷ (metric ++ end)

-- The three words of a line within the limit.
pub record HasThreeWords (line first second third : List ℕ) : Type 0 where
  pub within : length line ≤ line_limit
  pub are : words line ≡ first ∷ second ∷ third ∷ []

-- The numbers of a metric and of a size: each is in decimal digits and at most 65,535, and they are within their limits.
pub record AreNumbers (metric size : List ℕ) : Type 0 where
  pub is_metric : IsNumber number_limit metric
  pub is_size : IsNumber number_limit size
  pub limits : IsWithinLimits (decimal_value metric) (decimal_value size)

-- A line gives this route where no size is given: its three words are the route's prefix, its metric and its size.
pub record IsRouteLine (line : List ℕ) (route : RouteView) : Type 0 where
  pub first : List ℕ
  pub second : List ℕ
  pub third : List ℕ
  pub three : HasThreeWords line first second third
  pub prefix : IsPrefix first route.net
  pub numbers : AreNumbers second third
  pub metric : route.metric ≡ decimal_value second
  pub size : route.size ≡ decimal_value third

-- Why it gives no route: the first of these that holds.
abbrev pub IsLineFault : List ℕ → LineFault → Type 0
IsLineFault line TooLong = line_limit < length line
IsLineFault line Words = (length line ≤ line_limit) × (length (words line) ≢ 3)
IsLineFault line Prefix = (first : List ℕ) × (second : List ℕ) × (third : List ℕ) × HasThreeWords line first second third
    × ((bits : List Bool) → IsPrefix first bits → ⊥)
IsLineFault line Numbers = (first : List ℕ) × (second : List ℕ) × (third : List ℕ) × HasThreeWords line first second third
    × ((bits : List Bool) × IsPrefix first bits) × ¬ AreNumbers second third
