-- The words of a line, and what is left of it behind some of them.
use Rattle.std.proofs.Common.{◌≡◌, ℕ, ◌+◌, ◌-◌, ◌<◌, ◌≤◌, true, List, [], ◌∷◌, ◌++◌, length, get_or, take, drop}
use Rattle.std.proofs.Common.{refl, sym, ap, ◌∙◌, arith, ⊎_elim, append_assoc, length-append, length-drop}
use Rattle.std.specs.List.{slice_split, prefix_len}
use Rattle.std.proofs.Math.ListN.{drop_of_length-le}
use Rattle.std.proofs.Math.Seq.{drop-append_seam}
use Rattle.std.proofs.lemmas.Bool.{cases_lt}
use Rattle.std.proofs.lemmas.List.{drop-drop, get_or-drop, take-append-drop}
use Rattle.std.proofs.lemmas.Option.{unwrap_or-slice_get}
use Rattle.std.specs.List.{slice_get}
use Rattle.std.specs.Option.{unwrap_or}
use Rattle.std.proofs.lemmas.List.Elements.{filter_passes}
use Rattle.std.proofs.lemmas.List.Sums.{prefix_len_stops, prefix_len-drop_all, prefix_len-drop_no}
use Rattle.line_protocol.specs.Words.{is_blank, is_word, without_front_blanks, words}

some_byte : (word : List ℕ) → is_word word ≡ true → 0 < length word
some_byte [] e = cc
some_byte (b ∷ bytes) e = omega arith

-- a word has a byte
pub word_has_byte : (line word : List ℕ) (more : List (List ℕ)) → words line ≡ word ∷ more → 0 < length word
word_has_byte line word more e =
    let first = filter_passes is_word (slice_split is_blank line) 0 [] (rw e (omega arith)) in
    some_byte word (rw e at first)

-- the end of an end
pub end_of_end : (line rest after : List ℕ) → ((before : List ℕ) × (line ≡ before ++ rest)) → ((before : List ℕ) × (rest ≡ before ++ after))
    → (before : List ℕ) × (line ≡ before ++ after)
end_of_end line rest after a b = (a.0 ++ b.0, a.1 ∙ ap (λ r. a.0 ++ r) b.1 ∙ rw append_assoc refl)

-- a line ends with itself, without the blanks at its front
pub ends_unblanked : (line : List ℕ) → (before : List ℕ) × (line ≡ before ++ without_front_blanks line)
ends_unblanked line = (take (prefix_len is_blank line) line, sym (take-append-drop (prefix_len is_blank line) line))

-- and with what follows its first word
pub ends_after_word : (line word after : List ℕ) → without_front_blanks line ≡ word ++ after
    → (before : List ℕ) × (line ≡ before ++ after)
ends_after_word line word after e = end_of_end line (without_front_blanks line) after (ends_unblanked line) (word, e)

-- no blank begins a line without the blanks at its front
pub begins_unblanked : (line : List ℕ) → without_front_blanks (without_front_blanks line) ≡ without_front_blanks line
begins_unblanked line =
    let n = prefix_len is_blank line in
    let none : prefix_len is_blank (drop n line) ≡ 0 = ⊎_elim
    (λ (h : n < length line). prefix_len-drop_no is_blank line n 0 h (prefix_len_stops is_blank line 0 h))
    (λ (h : length line ≤ n). prefix_len-drop_all is_blank line n h)
    (cases_lt n (length line)) in
    ap (λ k. drop k (drop n line)) none

-- a word is passed with a byte at least
pub shorter : (line word after : List ℕ) → without_front_blanks line ≡ word ++ after → 0 < length word
    → length after < length line
shorter line word after e some =
    let l = ap length e in
    omega (arith, l, length-append word after, length-drop (prefix_len is_blank line) line)

-- the end of a line is what is left of it from there on
pub drop_to_end : (line before rest : List ℕ) → line ≡ before ++ rest → drop (length line - length rest) line ≡ rest
drop_to_end line before rest e =
    let n : length line - length rest ≡ length before = let l = ap length e in omega (arith, l, length-append before rest) in
    rw (n, e) (drop-append_seam before rest)

-- one more of some things is passed
pub drop_next : {A : Type 0} (xs more : List A) (n : ℕ) (x : A) → drop n xs ≡ x ∷ more → drop (n + 1) xs ≡ more
drop_next xs more n x e = sym (drop-drop 1 n xs) ∙ ap (drop 1) e

-- nothing is left of them later
pub drop_later : {A : Type 0} (xs : List A) (n m : ℕ) → drop n xs ≡ [] → n ≤ m → drop m xs ≡ []
drop_later xs n m e h = drop_of_length-le xs (let l = ap length e in omega (arith, l, length-drop n xs))

-- the word of an index is the first of what is left from there on
pub word_of_index : (all left : List (List ℕ)) (n : ℕ) → left ≡ drop n all → unwrap_or (slice_get all n) [] ≡ get_or left 0 []
word_of_index all left n e =
    let zero_more : n ≡ n + 0 = omega arith in
    unwrap_or-slice_get all n [] ∙ ap (λ k. get_or all k []) zero_more ∙ sym (get_or-drop n all 0 [])
    ∙ ap (λ (xs : List (List ℕ)). get_or xs 0 []) (sym e)
