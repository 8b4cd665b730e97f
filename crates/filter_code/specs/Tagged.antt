-- The machine's values as numbers of 64 bits: the upper half says the kind, and of a prefix its length too. (This project's own choice.)
use Rattle.std.specs.Prelude.{◌≡◌, ℕ, ◌+◌, ◌-◌, ◌*◌, ◌/◌, ◌%◌, ◌^◌, ◌==◌, if◌then◌else◌, Option, Some, None, length}
use Rattle.prefix_patterns.specs.Bits.{address_of, prefix_bits}
use Rattle.filter_code.specs.declared.value.Value.{Value}
use Rattle.filter_code.specs.declared.value.Value.TheVariants as value
use Rattle.filter_code.specs.Values.{IsLocalWithinType, IsWithinType}

-- the number of a value
abbrev pub tagged : Value → ℕ
tagged (value.Int n) = n
tagged (value.Bool b) = 2 ^ 32 + (if b then 1 else 0)
tagged (value.Addr a) = 2 * 2 ^ 32 + a.0
tagged (value.Net bits) = (4 + length bits) * 2 ^ 32 + address_of bits

-- the value of an upper half and a lower one
abbrev pub value_of_halves : ℕ → ℕ → Value
value_of_halves upper lower =
    if upper == 0 then value.Int lower
    else if upper == 1 then value.Bool (lower == 1)
    else if upper == 2 then value.Addr (record { 0 = lower })
    else value.Net (prefix_bits lower (upper - 4))

-- the value that has a number
abbrev pub value_tagged : ℕ → Value
value_tagged w = value_of_halves (w / 2 ^ 32) (w % 2 ^ 32)

-- the number of a value within its limits
pub record IsTagged (w : ℕ) : Type 0 where
  pub back : tagged (value_tagged w) ≡ w
  pub within : IsWithinType (value_tagged w)

-- the number of a local variable: an empty one has the upper half that no value has
abbrev pub slot : Option Value → ℕ
slot None = 3 * 2 ^ 32
slot (Some v) = tagged v

abbrev pub local_in : ℕ → Option Value
local_in w = if w == 3 * 2 ^ 32 then None else Some (value_tagged w)

pub record IsSlot (w : ℕ) : Type 0 where
  pub back : slot (local_in w) ≡ w
  pub within : IsLocalWithinType (local_in w)
