-- How an address and a prefix are displayed.
use Rattle.std.specs.Prelude.{ℕ, Bool, List, ◌∷◌, ◌++◌, length, map}
use Rattle.std.specs.Fmt.{decimal}
use Rattle.std.specs.Int.{w32, to_be_bytes}
use Rattle.std.specs.List.{join_with_byte}
use Rattle.prefix_patterns.specs.Bits.{address_of}
use Rattle.prefix_patterns.specs.Token.{dot, slash}

-- the four bytes of an address as decimal numbers with no zeros in front, joined by dots
abbrev pub address_text : ℕ → List ℕ
address_text address = join_with_byte dot (map decimal (to_be_bytes w32 address))

-- the first address of a prefix, a slash and its length
abbrev pub prefix_text : List Bool → List ℕ
prefix_text bits = address_text (address_of bits) ++ slash ∷ decimal (length bits)
