-- Worked rows: texts with the tokens that cut them, and texts that none cut.
use Rattle.std.proofs.Common.{◌≡◌, ℕ, ◌<◌, Bool, true, false, List, [], ◌∷◌, length, drop, Some, None, refl, lit<}
use Rattle.std.specs.Prelude.{codes}
use Rattle.prefix_patterns.specs.Bits.{bits, number}
use Rattle.prefix_patterns.specs.Number.{decimal_value}
use Rattle.prefix_patterns.specs.Reading.{number_in, parts_at, groups_in, address_in, written_in}
use Rattle.filter_tokens.specs.declared.symbol.Symbol.TheVariants as symbol
use Rattle.filter_tokens.specs.declared.part.Part.{Part}
use Rattle.filter_tokens.specs.declared.part.Part.TheVariants as part
use Rattle.filter_tokens.specs.declared.token.Token.{Token}
use Rattle.filter_tokens.specs.declared.token_kind.TokenKind.TheVariants as kind
use Rattle.filter_tokens.specs.Tokenization.{part_len, AreParts, IsTokenization}
use Rattle.filter_tokens.specs.Reading.{after_digits, after_address, after_prefix, after_hexadecimal, digits_shape}
use Rattle.filter_tokens.specs.Reading.{punctuator_in, punctuator_shape, longest_shape, keyword_in, is_left_out, word_in, hexadecimal_from}
use Rattle.filter_tokens.specs.Reading.{hexadecimal_in, closing_len, gap_len, token_in, part_in}
use Rattle.filter_tokens.proofs.Tokenized.{lexes-start, lexes-stopped}
use Rattle.filter_tokens.proofs.PartLaws.{part-found}

-- these parts are read from a text, one after the other
abbrev pub AreRead : List Part → List ℕ → Type 0
AreRead [] text = text ≡ []
AreRead (one ∷ parts) text = (part_in text ≡ Some one) × AreRead parts (drop (part_len one) text)

-- what is read are the parts
pub are_parts : (parts : List Part) (text : List ℕ) → AreRead parts text → AreParts parts text
are_parts [] text read = read
are_parts (one ∷ parts) text read = (part-found text one read.0, are_parts parts (drop (part_len one) text) read.1)

-- where no part is read, no tokens cut the text
none_cut : (text : List ℕ) → part_in text ≡ None → 0 < length text → (tokens : List Token) → IsTokenization tokens 0 text → ⊥
none_cut text e some tokens cuts = lexes-stopped text [] 0 text (lexes-start text) e some tokens cuts

-- `!=` is one punctuator
not_equal : IsTokenization (record { word = kind.Name; from = 0; to = 1 } ∷ record { word = kind.Symbol symbol.NotEqual; from = 1; to = 3 }
    ∷ record { word = kind.Name; from = 3; to = 4 } ∷ []) 0 (codes "a!=b")
unfolding part_in gap_len token_in longest_shape punctuator_shape punctuator_in word_in keyword_in is_left_out
not_equal =
    let parts = part.Token kind.Name 1 ∷ part.Token (kind.Symbol symbol.NotEqual) 2 ∷ part.Token kind.Name 1 ∷ [] in
    record { parts = parts; cut = are_parts parts (codes "a!=b") (refl, (refl, (refl, refl))); among = refl }

-- a dot between numbers parts them, and a hexadecimal number goes on as far as its digits do
dot_between : IsTokenization (record { word = kind.Number 1; from = 0; to = 1 } ∷ record { word = kind.Symbol symbol.Dot; from = 1; to = 2 }
    ∷ record { word = kind.Number 255; from = 2; to = 6 } ∷ []) 0 (codes "1.0xfF")
unfolding part_in gap_len token_in longest_shape digits_shape after_prefix after_address after_digits after_hexadecimal punctuator_shape
    punctuator_in number_in decimal_value hexadecimal_in hexadecimal_from
dot_between =
    let parts = part.Token (kind.Number 1) 1 ∷ part.Token (kind.Symbol symbol.Dot) 1 ∷ part.Token (kind.Number 255) 4 ∷ [] in
    record { parts = parts; cut = are_parts parts (codes "1.0xfF") (refl, (refl, (refl, refl))); among = refl }

-- a range of numbers, its colon and the keyword of cases
range_label : IsTokenization (record { word = kind.Symbol symbol.Case; from = 0; to = 4 } ∷ record { word = kind.Number 1; from = 5; to = 6 }
    ∷ record { word = kind.Symbol symbol.DotDot; from = 6; to = 8 } ∷ record { word = kind.Number 3; from = 8; to = 9 }
    ∷ record { word = kind.Symbol symbol.Colon; from = 9; to = 10 } ∷ []) 0 (codes "case 1..3:")
unfolding part_in gap_len token_in longest_shape digits_shape after_prefix after_address after_digits after_hexadecimal punctuator_shape
    punctuator_in number_in decimal_value word_in keyword_in
range_label =
    let parts =
    part.Token (kind.Symbol symbol.Case) 4 ∷ part.Gap 1 ∷ part.Token (kind.Number 1) 1 ∷ part.Token (kind.Symbol symbol.DotDot) 2
    ∷ part.Token (kind.Number 3) 1 ∷ part.Token (kind.Symbol symbol.Colon) 1 ∷ [] in
    record { parts = parts; cut = are_parts parts (codes "case 1..3:") (refl, (refl, (refl, (refl, (refl, (refl, refl)))))); among = refl }

-- the prefix 10.0.0.0/8
abbrev ten : List Bool
ten = false ∷ false ∷ false ∷ false ∷ true ∷ false ∷ true ∷ false ∷ []

-- an address with a length is one token
ten_net : IsTokenization (record { word = kind.Prefix false ten; from = 0; to = 10 } ∷ []) 0
    (codes "10.0.0.0/8")
unfolding part_in gap_len token_in longest_shape digits_shape after_prefix after_address after_digits written_in address_in
    groups_in parts_at number_in decimal_value bits number
ten_net =
    let parts = part.Token (kind.Prefix false ten) 10 ∷ [] in
    record { parts = parts; cut = are_parts parts (codes "10.0.0.0/8") (refl, refl); among = refl }

-- a comment does not nest
comment : IsTokenization (record { word = kind.Symbol symbol.If; from = 9; to = 11 } ∷ []) 0 (codes "/* /* */ if # else")
unfolding part_in gap_len closing_len token_in longest_shape word_in keyword_in
comment =
    let parts = part.Gap 8 ∷ part.Gap 1 ∷ part.Token (kind.Symbol symbol.If) 2 ∷ part.Gap 1 ∷ part.Gap 6 ∷ [] in
    record { parts = parts; cut = are_parts parts (codes "/* /* */ if # else") (refl, (refl, (refl, (refl, (refl, refl))))); among = refl }

-- `/*/` is not ended
unended : (tokens : List Token) → IsTokenization tokens 0 (codes "/*/") → ⊥
unfolding part_in gap_len closing_len
unended = none_cut (codes "/*/") refl (lit< tt)

-- a `0x` with no digit is no token
no_digit : (tokens : List Token) → IsTokenization tokens 0 (codes "0x;") → ⊥
unfolding part_in gap_len token_in longest_shape digits_shape after_prefix after_address after_digits after_hexadecimal
    hexadecimal_in hexadecimal_from
no_digit = none_cut (codes "0x;") refl (lit< tt)

-- nor is a number over the greatest
too_large : (tokens : List Token) → IsTokenization tokens 0 (codes "4294967296") → ⊥
unfolding part_in gap_len token_in longest_shape digits_shape after_prefix after_address after_digits after_hexadecimal number_in
    decimal_value
too_large = none_cut (codes "4294967296") refl (lit< tt)

-- nor an address with a group over 255
group_over : (tokens : List Token) → IsTokenization tokens 0 (codes "1.2.3.256") → ⊥
unfolding part_in gap_len token_in longest_shape digits_shape after_prefix after_address after_digits address_in groups_in
    parts_at number_in decimal_value
group_over = none_cut (codes "1.2.3.256") refl (lit< tt)

-- nor a word that is left out
left_out_word : (tokens : List Token) → IsTokenization tokens 0 (codes "from") → ⊥
unfolding part_in gap_len token_in longest_shape word_in keyword_in is_left_out
left_out_word = none_cut (codes "from") refl (lit< tt)
