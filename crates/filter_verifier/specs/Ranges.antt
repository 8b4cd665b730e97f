-- What is known of an int: its range, and whether it is at least the metric received. (This project's own choice.)
use Rattle.std.specs.Prelude.{ℕ, ◌+◌, ◌-◌, ◌*◌, ◌/◌, ◌^◌, max, nat_lt, nat_le, Bool, true, false, ◌&&◌, ◌||◌, if◌then◌else◌}
use Rattle.prefix_patterns.specs.Bits.{address_length}

-- the least and the greatest value, and whether the int is known to be at least the metric received
pub record RangeView : Type 0 where
  pub low : ℕ
  pub high : ℕ
  pub at_least_received : Bool

-- a range in a domain of a size: no metric received is above the size, so an int from the size up is at least it
abbrev pub range_in : ℕ → ℕ → ℕ → Bool → RangeView
range_in size low high at_least_received = record { low = low; high = high; at_least_received = at_least_received || nat_le size low }

-- any int
abbrev pub any_number : ℕ → RangeView
any_number size = range_in size 0 4294967295 false

-- a literal
abbrev pub range_of_number : ℕ → ℕ → RangeView
range_of_number size k = range_in size k k false

-- the current metric, and the one received
abbrev pub range_of_metric : ℕ → RangeView
range_of_metric size = range_in size 0 size true

-- the length of a prefix
abbrev pub range_of_length : ℕ → RangeView
range_of_length size = range_in size 0 address_length false

-- a sum that cannot wrap is at least each operand
abbrev pub range_of_sum : ℕ → RangeView → RangeView → RangeView
range_of_sum size a b =
    if nat_lt (a.high + b.high) (2 ^ 32)
    then range_in size (a.low + b.low) (a.high + b.high) (a.at_least_received || b.at_least_received)
    else any_number size

-- a difference that cannot wrap
abbrev pub range_of_difference : ℕ → RangeView → RangeView → RangeView
range_of_difference size a b =
    if nat_le b.high a.low
    then range_in size (a.low - b.high) (a.high - b.low) false
    else any_number size

-- a product that cannot wrap is at least one factor if the other is not 0
abbrev pub range_of_product : ℕ → RangeView → RangeView → RangeView
range_of_product size a b =
    if nat_lt (a.high * b.high) (2 ^ 32)
    then range_in size (a.low * b.low) (a.high * b.high) ((a.at_least_received && nat_le 1 b.low) || (b.at_least_received && nat_le 1 a.low))
    else any_number size

-- a quotient; the divisor is above 0
abbrev pub range_of_quotient : ℕ → RangeView → RangeView → RangeView
range_of_quotient size a b = range_in size (a.low / b.high) (a.high / b.low) false

-- the greater of two
abbrev pub range_of_greater : ℕ → RangeView → RangeView → RangeView
range_of_greater size a b = range_in size (max a.low b.low) (max a.high b.high) (a.at_least_received || b.at_least_received)
