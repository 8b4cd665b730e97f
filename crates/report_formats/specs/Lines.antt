-- A line of JSON. (RFC 8259, by the kit's `serde_json`; that each object has a line is this project's own choice.)
use Rattle.std.specs.Prelude.{ℕ, List, [], ◌∷◌, ◌++◌, encode_utf8_all}
use Rattle.bstr.specs.Utf8.{lossy_chars}
use Rattle.serde_json.specs.Data.{Data}
use Rattle.serde_json.specs.Written.{compact_text}

-- some bytes as text: what is not UTF-8 is U+FFFD
abbrev pub readable : List ℕ → List ℕ
readable bytes = encode_utf8_all (lossy_chars bytes)

-- the line of a value
abbrev pub json_line : Data → List ℕ
json_line value = compact_text value ++ 10 ∷ []
