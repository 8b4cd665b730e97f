-- Addresses and prefixes as lists of bits.
use Rattle.std.specs.Prelude.{◌≡◌, ℕ, zero, suc, ◌+◌, ◌-◌, ◌*◌, ◌/◌, ◌%◌, ◌^◌, ◌==◌, ◌≤◌, if◌then◌else◌, Bool, List, [], ◌∷◌, length, take}

-- the lowest binary digits of a number, so many as count says, the highest of them first
unfoldable pub bits : ℕ → ℕ → List Bool
bits zero n = []
bits (suc count) n = (n / 2 ^ count % 2 == 1) ∷ bits count n

-- the number with these binary digits, the highest first
unfoldable pub number : List Bool → ℕ
number [] = 0
number (digit ∷ digits) = (if digit then 2 ^ length digits else 0) + number digits

-- how many bits an address has
abbrev pub address_length : ℕ
address_length = 32

-- an address as its bits
abbrev pub address_bits : ℕ → List Bool
address_bits address = bits address_length address

-- a prefix is the first bits of an address
abbrev pub prefix_bits : ℕ → ℕ → List Bool
prefix_bits address len = take len (address_bits address)

-- the first address that begins with the bits: zeros follow them
abbrev pub address_of : List Bool → ℕ
address_of bits = number bits * 2 ^ (address_length - length bits)

-- an address that is the first of the prefix of a length: no bit past the length is set
pub record HasNoBitPast (len address : ℕ) : Type 0 where
  pub limit : len ≤ address_length
  pub clear : address_of (prefix_bits address len) ≡ address
