-- What begins with a byte: the punctuators, the keywords and the words left out, chosen by the first byte of a text.
use Rattle.std.proofs.Common.{◌≡◌, ℕ, Bool, true, false, List, [], ◌∷◌, None, eqb, refl, sym, ◌∙◌, ap, subst}
use Rattle.std.specs.List.{find, list_any}
use Rattle.std.specs.Str.{bytes_eq}
use Rattle.std.proofs.lemmas.Bool.{eqb-true, eqb-false, ne_eqb}
use Rattle.filter_tokens.specs.Reading.{pair, single, pair_or, punctuator_in, is_spelled, keyword_in, keywords_with}
use Rattle.filter_tokens.specs.Reading.{is_left_out, left_out_with}

by_test : (byte wanted : ℕ) (P : ℕ → Type 0) (same : Bool) → eqb byte wanted ≡ same → P wanted
    → (eqb byte wanted ≡ false → eqb wanted byte ≡ false → P byte) → P byte
by_test byte wanted P true e here other = subst P (sym (eqb-true byte wanted e)) here
by_test byte wanted P false e here other = other e (ne_eqb wanted byte (λ same. eqb-false byte wanted e (sym same)))

-- a byte is the one that is wanted, or it is not
pub at_byte : (byte wanted : ℕ) (P : ℕ → Type 0) → P wanted → (eqb byte wanted ≡ false → eqb wanted byte ≡ false → P byte) → P byte
at_byte byte wanted P here other = by_test byte wanted P (eqb byte wanted) refl here other

-- a byte with which no punctuator of two bytes begins
record BeginsNoPair (byte : ℕ) : Type 0 where
  and : (eqb byte 38 ≡ false) × (eqb 38 byte ≡ false)
  or : (eqb byte 124 ≡ false) × (eqb 124 byte ≡ false)
  not : (eqb byte 33 ≡ false) × (eqb 33 byte ≡ false)
  less : (eqb byte 60 ≡ false) × (eqb 60 byte ≡ false)
  greater : (eqb byte 62 ≡ false) × (eqb 62 byte ≡ false)
  dot : (eqb byte 46 ≡ false) × (eqb 46 byte ≡ false)

no_pair : (first : ℕ) (others : List ℕ) → BeginsNoPair first → pair first others ≡ None
no_pair first [] none = refl
no_pair first (second ∷ rest) none = simp (none.and.0, none.or.0, none.not.0, none.less.0, none.greater.0, none.dot.0)

-- the longest punctuator is then that of the first byte
single-by : (first : ℕ) (others : List ℕ) → BeginsNoPair first → punctuator_in (first ∷ others) ≡ single first
unfolding punctuator_in
single-by first others none =
    let P : ℕ → Type 0 = λ byte. punctuator_in (byte ∷ others) ≡ single byte in
    at_byte first 40 P refl (λ a40 b40.
    at_byte first 41 P refl (λ a41 b41.
    at_byte first 123 P refl (λ a123 b123.
    at_byte first 125 P refl (λ a125 b125.
    at_byte first 91 P refl (λ a91 b91.
    at_byte first 93 P refl (λ a93 b93.
    at_byte first 59 P refl (λ a59 b59.
    at_byte first 44 P refl (λ a44 b44.
    at_byte first 58 P refl (λ a58 b58.
    at_byte first 61 P refl (λ a61 b61.
    at_byte first 126 P refl (λ a126 b126.
    at_byte first 43 P refl (λ a43 b43.
    at_byte first 45 P refl (λ a45 b45.
    at_byte first 42 P refl (λ a42 b42.
    at_byte first 47 P refl (λ a47 b47.
    simp (
      none.and.1,
      none.or.1,
      none.not.0,
      none.not.1,
      none.less.0,
      none.less.1,
      none.greater.0,
      none.greater.1,
      none.dot.0,
      none.dot.1,
      a40,
      b40,
      a41,
      b41,
      a123,
      b123,
      a125,
      b125,
      a91,
      b91,
      a93,
      b93,
      a59,
      b59,
      a44,
      b44,
      a58,
      b58,
      a61,
      b61,
      a126,
      b126,
      a43,
      b43,
      a45,
      b45,
      a42,
      b42,
      a47,
      b47,
    ))))))))))))))))

-- the longest punctuator of a text is that of its first two bytes, or of its first
abbrev IsChosen : ℕ → List ℕ → Type 0
IsChosen first others = punctuator_in (first ∷ others) ≡ pair_or (pair first others) (single first)

begun_by_and : (others : List ℕ) → IsChosen 38 others
unfolding punctuator_in
begun_by_and [] = refl
begun_by_and (second ∷ rest) = at_byte second 38 (λ byte. IsChosen 38 (byte ∷ rest)) refl (λ a38 b38. simp (a38, b38))

begun_by_or : (others : List ℕ) → IsChosen 124 others
unfolding punctuator_in
begun_by_or [] = refl
begun_by_or (second ∷ rest) = at_byte second 124 (λ byte. IsChosen 124 (byte ∷ rest)) refl (λ a124 b124. simp (a124, b124))

begun_by_not : (others : List ℕ) → IsChosen 33 others
unfolding punctuator_in
begun_by_not [] = refl
begun_by_not (second ∷ rest) =
    let P : ℕ → Type 0 = λ byte. IsChosen 33 (byte ∷ rest) in
    at_byte second 61 P refl (λ a61 b61. at_byte second 126 P refl (λ a126 b126. simp (a61, b61, a126, b126)))

begun_by_less : (others : List ℕ) → IsChosen 60 others
unfolding punctuator_in
begun_by_less [] = refl
begun_by_less (second ∷ rest) = at_byte second 61 (λ byte. IsChosen 60 (byte ∷ rest)) refl (λ a61 b61. simp (a61, b61))

begun_by_greater : (others : List ℕ) → IsChosen 62 others
unfolding punctuator_in
begun_by_greater [] = refl
begun_by_greater (second ∷ rest) = at_byte second 61 (λ byte. IsChosen 62 (byte ∷ rest)) refl (λ a61 b61. simp (a61, b61))

begun_by_dot : (others : List ℕ) → IsChosen 46 others
unfolding punctuator_in
begun_by_dot [] = refl
begun_by_dot (second ∷ rest) = at_byte second 46 (λ byte. IsChosen 46 (byte ∷ rest)) refl (λ a46 b46. simp (a46, b46))

-- the longest punctuator, by the first byte and the next
pub punctuator-by : (first : ℕ) (others : List ℕ) → punctuator_in (first ∷ others) ≡ pair_or (pair first others) (single first)
punctuator-by first others =
    let P : ℕ → Type 0 = λ byte. IsChosen byte others in
    at_byte first 38 P (begun_by_and others) (λ a38 b38.
    at_byte first 124 P (begun_by_or others) (λ a124 b124.
    at_byte first 33 P (begun_by_not others) (λ a33 b33.
    at_byte first 60 P (begun_by_less others) (λ a60 b60.
    at_byte first 62 P (begun_by_greater others) (λ a62 b62.
    at_byte first 46 P (begun_by_dot others) (λ a46 b46.
    let none : BeginsNoPair first = record {
      and = (a38, b38);
      or = (a124, b124);
      not = (a33, b33);
      less = (a60, b60);
      greater = (a62, b62);
      dot = (a46, b46);
    } in
    single-by first others none ∙ ap (λ both. pair_or both (single first)) (sym (no_pair first others none))))))))

-- the keyword, among those with the same first byte
pub keyword-by : (first : ℕ) (others : List ℕ) → keyword_in (first ∷ others) ≡ find (is_spelled (first ∷ others)) (keywords_with first)
unfolding keyword_in
keyword-by first others =
    let P : ℕ → Type 0 = λ byte. keyword_in (byte ∷ others) ≡ find (is_spelled (byte ∷ others)) (keywords_with byte) in
    at_byte first 97 P refl (λ a97 b97.
    at_byte first 98 P refl (λ a98 b98.
    at_byte first 99 P refl (λ a99 b99.
    at_byte first 100 P refl (λ a100 b100.
    at_byte first 101 P refl (λ a101 b101.
    at_byte first 102 P refl (λ a102 b102.
    at_byte first 105 P refl (λ a105 b105.
    at_byte first 110 P refl (λ a110 b110.
    at_byte first 112 P refl (λ a112 b112.
    at_byte first 114 P refl (λ a114 b114.
    at_byte first 116 P refl (λ a116 b116.
    simp (a97, b97, a98, b98, a99, b99, a100, b100, a101, b101, a102, b102, a105, b105, a110, b110, a112, b112, a114, b114, a116, b116))))))))))))

-- whether a word is left out, by those with the same first byte
pub left_out-by : (first : ℕ) (others : List ℕ)
    → is_left_out (first ∷ others) ≡ list_any (λ word. bytes_eq word (first ∷ others)) (left_out_with first)
unfolding is_left_out
left_out-by first others =
    let P : ℕ → Type 0 = λ byte. is_left_out (byte ∷ others) ≡ list_any (λ word. bytes_eq word (byte ∷ others)) (left_out_with byte) in
    at_byte first 98 P refl (λ a98 b98.
    at_byte first 99 P refl (λ a99 b99.
    at_byte first 100 P refl (λ a100 b100.
    at_byte first 101 P refl (λ a101 b101.
    at_byte first 102 P refl (λ a102 b102.
    at_byte first 105 P refl (λ a105 b105.
    at_byte first 108 P refl (λ a108 b108.
    at_byte first 112 P refl (λ a112 b112.
    at_byte first 113 P refl (λ a113 b113.
    at_byte first 114 P refl (λ a114 b114.
    at_byte first 115 P refl (λ a115 b115.
    simp (
      a98,
      b98,
      a99,
      b99,
      a100,
      b100,
      a101,
      b101,
      a102,
      b102,
      a105,
      b105,
      a108,
      b108,
      a112,
      b112,
      a113,
      b113,
      a114,
      b114,
      a115,
      b115,
    ))))))))))))
