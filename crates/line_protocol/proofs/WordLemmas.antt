-- The first word of a line, and the words after it.
use Rattle.std.proofs.Common.{◌≡◌, ℕ, ◌+◌, ◌<◌, ◌≤◌, Bool, true, false, not, List, [], ◌∷◌, ◌++◌, length, get_or, take, drop, refl, sym}
use Rattle.std.proofs.Common.{ap, ◌∙◌, arith, one-add, ⊎_elim, length-take, length-drop}
use Rattle.std.specs.List.{filter, slice_split, prefix_len, position_or_len, All}
use Rattle.std.proofs.lemmas.List.{drop_more, drop_all, take_all, nil_from_length}
use Rattle.std.proofs.lemmas.List.Sums.{fails_before_first, passes_at_first, prefix_len-le-length, prefix_len_stops, prefix_len-drop_yes}
use Rattle.std.proofs.lemmas.List.Splits.{slice_split-cons_yes, slice_split_at, slice_split_none, slice_split_first}
use Rattle.std.proofs.lemmas.Bool.{cases_lt}
use Rattle.line_protocol.specs.Words.{is_word}

-- the words of a line, where `blank` says which bytes part them
abbrev pub words_by : (ℕ → Bool) → List ℕ → List (List ℕ)
words_by blank line = filter is_word (slice_split blank line)

front_of : (blank : ℕ → Bool) (b : ℕ) (bs : List ℕ) (v : Bool) → blank b ≡ v
    → words_by blank bs ≡ words_by blank (drop (prefix_len blank bs) bs)
    → words_by blank (b ∷ bs) ≡ words_by blank (drop (prefix_len blank (b ∷ bs)) (b ∷ bs))
front_of blank b bs true e rest = rw (e, one-add) rest
front_of blank b bs false e rest =
    let same : drop (prefix_len blank (b ∷ bs)) (b ∷ bs) ≡ b ∷ bs = rw e refl in
    ap (words_by blank) (sym same)

-- blanks at the front make no word
pub words-front : (blank : ℕ → Bool) (line : List ℕ) → words_by blank line ≡ words_by blank (drop (prefix_len blank line) line)
words-front blank [] = refl
words-front blank (b ∷ bs) = front_of blank b bs (blank b) refl (words-front blank bs)

filter_word : (word : List ℕ) (parts : List (List ℕ)) → 0 < length word → filter is_word (word ∷ parts) ≡ word ∷ filter is_word parts
filter_word [] parts h = absurd (omega arith)
filter_word (b ∷ word) parts h = refl

-- a word, and then the words after the blank that ends it
pub words-next : (blank : ℕ → Bool) (word rest : List ℕ) (b : ℕ) → All (λ c. blank c ≡ false) word → 0 < length word → blank b ≡ true
    → words_by blank (word ++ b ∷ rest) ≡ word ∷ words_by blank rest
words-next blank word rest b none some ends =
    ap (filter is_word) (slice_split_at blank word b rest none ends) ∙ filter_word word (slice_split blank rest) some

-- a word that nothing follows
pub words-only : (blank : ℕ → Bool) (word : List ℕ) → All (λ c. blank c ≡ false) word → 0 < length word
    → words_by blank word ≡ word ∷ []
words-only blank word none some = ap (filter is_word) (slice_split_none blank word none) ∙ filter_word word [] some

-- the bytes before the first blank are a word, if there are any
pub words-first : (blank : ℕ → Bool) (line : List ℕ) (n : ℕ) → n ≡ position_or_len blank line → 0 < n
    → words_by blank line ≡ take n line ∷ words_by blank (drop n line)
words-first blank line n e h =
    ⊎_elim
    (λ (inside : n < length line).
    let there : position_or_len blank line < length line = rw (← e) inside in
    let cut = slice_split_first blank line 0 there in
    let later : words_by blank (drop n line) ≡ words_by blank (drop (n + 1) line) =
    rw (
      drop_more line n 0 inside,
      slice_split-cons_yes blank (get_or line n 0) (drop (n + 1) line)
          (rw e (passes_at_first blank line 0 there)),
    ) refl in
    ap (filter is_word) (rw (← e) at cut) ∙ filter_word (take n line) (slice_split blank (drop (n + 1) line))
    (rw length-take (omega arith)) ∙ ap (λ rest. take n line ∷ rest) (sym later))
    (λ (whole : length line ≤ n).
    let none : All (λ b. blank b ≡ false) line = λ k d l. fails_before_first blank line k d (omega arith) in
    ap (filter is_word) (slice_split_none blank line none)
    ∙ filter_word line [] (omega (arith, prefix_len-le-length (λ b. not (blank b)) line))
    ∙ rw (take_all n line whole, drop_all n line whole) refl)
    (cases_lt n (length line))

-- after the blanks at the front comes a word, if anything does
pub word_after_blanks : (blank : ℕ → Bool) (line : List ℕ) → prefix_len blank line < length line
    → 0 < position_or_len blank (drop (prefix_len blank line) line)
word_after_blanks blank line h =
    let n = prefix_len blank line in
    let no : blank (get_or line n 0) ≡ false = prefix_len_stops blank line 0 h in
    let passes : not (blank (get_or line n 0)) ≡ true = rw no refl in
    let more = prefix_len-drop_yes (λ b. not (blank b)) line n 0 h passes in
    omega arith

module _ (blank : ℕ → Bool) (line rest : List ℕ) (later : rest ≡ drop (prefix_len blank line) line) where
  -- a line of blanks alone has no word
  pub words-blank : length rest ≡ 0 → words_by blank line ≡ []
  words-blank h = words-front blank line ∙ ap (words_by blank) (sym later ∙ nil_from_length rest h)

  -- the first word, and then the words of what follows it
  pub words-cut : (n : ℕ) → n ≡ position_or_len blank rest → 0 < length rest →
      words_by blank line ≡ take n rest ∷ words_by blank (drop n rest)
  words-cut n e h =
      let left = length-drop (prefix_len blank line) line in
      let same = ap length later in
      let some : 0 < position_or_len blank rest = rw later (word_after_blanks blank line (omega arith)) in
      words-front blank line ∙ ap (words_by blank) (sym later) ∙ words-first blank rest n e (omega arith)
