-- Prefixes as texts write them. (That bits past the length may be written, and do not count, is this project's own choice: BIRD refuses them.)
use Rattle.std.specs.Prelude.{◌≡◌, ℕ, ◌==◌, Bool, not, List, ◌∷◌, ◌++◌}
use Rattle.prefix_patterns.specs.Bits.{address_length, address_of, prefix_bits}
use Rattle.prefix_patterns.specs.Number.{decimal_value, IsNumber}
use Rattle.prefix_patterns.specs.Token.{slash, IsAddress}
use Rattle.prefix_patterns.specs.declared.written.WrittenPrefix.{WrittenPrefix}

-- whether an address has a bit past the length of a prefix of it: it is another than the first address of the prefix
abbrev pub has_host_bits : ℕ → List Bool → Bool
has_host_bits address prefix = not (address == address_of prefix)

-- the prefix of an address before a slash and a length behind it
abbrev pub written_as : ℕ → ℕ → WrittenPrefix
written_as address len = record { prefix = prefix_bits address len; has_host_bits = has_host_bits address (prefix_bits address len) }

-- the text of a prefix, and whether the address before its slash has host bits: of the address only the first bits count, so many as the
-- length says
pub record IsWrittenPrefix (text : List ℕ) (written : WrittenPrefix) : Type 0 where
  pub address : ℕ
  pub address_text : List ℕ
  pub length_text : List ℕ
  pub is_address : IsAddress address_text address
  pub is_length : IsNumber address_length length_text
  pub spelled : text ≡ address_text ++ slash ∷ length_text
  pub value : written ≡ written_as address (decimal_value length_text)
