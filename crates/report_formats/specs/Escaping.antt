-- Text within quotes of XML (XML 1.0, sections 2.2, 2.4 and 3.1; that control characters are left out is this project's own choice).
use Rattle.std.specs.Prelude.{◌≢◌, ◌≤◌, ℕ, ◌==◌, ◌&&◌, ◌||◌, Bool, nat_le, nat_lt, if◌then◌else◌, List, codes, encode_utf8, flat_map}
use Rattle.std.specs.Prelude.{Option, Some, None}
use Rattle.bstr.specs.Utf8.{lossy_chars}

-- what stands for a character that has a meaning of its own
abbrev pub entity_of : ℕ → Option (List ℕ)
entity_of c = if c == 34 then Some (codes "&quot;") else if c == 38 then Some (codes "&amp;") else if c == 60 then Some (codes "&lt;")
    else if c == 62 then Some (codes "&gt;") else None

-- a character that no document has, or a control character
abbrev pub is_left_out : ℕ → Bool
is_left_out c = nat_lt c 32 || (nat_le 127 c && nat_lt c 160) || c == 0xfffe || c == 0xffff

-- a character that stands for itself, or U+FFFD in its place
abbrev pub kept_character : ℕ → ℕ
kept_character c = if is_left_out c then 0xfffd else c

abbrev pub entity_or_kept : ℕ → Option (List ℕ) → List ℕ
entity_or_kept c None = encode_utf8 (kept_character c)
entity_or_kept c (Some entity) = entity

-- a character as it stands within quotes
abbrev pub escaped : ℕ → List ℕ
escaped c = entity_or_kept c (entity_of c)

-- some bytes as they stand within quotes: what is not UTF-8 is U+FFFD
abbrev pub attribute : List ℕ → List ℕ
attribute bytes = flat_map escaped (lossy_chars bytes)

-- a byte that does not end what stands within quotes, begins no element, and is no control character
pub record IsClosed (byte : ℕ) : Type 0 where
  pub is_no_quote : byte ≢ 34
  pub is_no_bracket : byte ≢ 60
  pub is_no_control : 32 ≤ byte
