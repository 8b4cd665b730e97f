-- The tokens that write an address and a prefix, as in the filters of BIRD 2.0's User's Guide.
use Rattle.std.specs.Prelude.{◌≡◌, ℕ, ◌+◌, ◌*◌, ◌^◌, Bool, List, [], ◌∷◌, ◌++◌}
use Rattle.std.specs.List.{join_with_byte}
use Rattle.prefix_patterns.specs.Bits.{address_length, prefix_bits}
use Rattle.prefix_patterns.specs.Number.{decimal_value, IsNumber}

abbrev pub dot : ℕ
dot = 46

abbrev pub slash : ℕ
slash = 47

-- the text of an address: four groups of digits joined by single dots, each group of a value of at most 255
pub record IsAddress (text : List ℕ) (address : ℕ) : Type 0 where
  pub first : List ℕ
  pub second : List ℕ
  pub third : List ℕ
  pub fourth : List ℕ
  pub groups : IsNumber 255 first × IsNumber 255 second × IsNumber 255 third × IsNumber 255 fourth
  pub spelled : text ≡ join_with_byte dot (first ∷ second ∷ third ∷ fourth ∷ [])
  pub value : address ≡ decimal_value first * 2 ^ 24 + decimal_value second * 2 ^ 16 + decimal_value third * 2 ^ 8 + decimal_value fourth

-- the text of a prefix: an address, a slash and a length of at most that of an address; of the address only the first length bits count
-- (this project's own choice)
pub record IsPrefix (text : List ℕ) (bits : List Bool) : Type 0 where
  pub address : ℕ
  pub address_text : List ℕ
  pub length_text : List ℕ
  pub is_address : IsAddress address_text address
  pub is_length : IsNumber address_length length_text
  pub spelled : text ≡ address_text ++ slash ∷ length_text
  pub cleared : bits ≡ prefix_bits address (decimal_value length_text)
