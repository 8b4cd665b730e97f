-- The text that is written for words, and where they stand, one word further.
use Rattle.std.proofs.Common.{◌≡◌, ℕ, ◌+◌, ◌<◌, List, [], ◌∷◌, ◌++◌, length, drop, get_or, Option}
use Rattle.std.proofs.Common.{Some, append_assoc, length-append, refl, sym, ◌∙◌, ap, arith}
use Rattle.std.specs.Char.{is_ascii_whitespace}
use Rattle.std.specs.Str.{IsTrimAsciiStart}
use Rattle.std.proofs.lemmas.List.{drop_more}
use Rattle.std.proofs.lemmas.List.Sums.{prefix_len_is}
use Rattle.bird_import.specs.Laying.{gap_before, origins_behind, text_behind, without_front}
use Rattle.bird_import.specs.declared.text.Origin.{Origin}
use Rattle.bird_import.specs.declared.word.Word.{Word}

abbrev origin_at : ℕ → ℕ → Origin
origin_at from at = record { from = from; at = at }

-- what is cut off is the space in front
pub front_cut : (gap rest : List ℕ) → IsTrimAsciiStart gap rest → rest ≡ without_front gap
front_cut gap rest cut =
    cut.1 ∙ ap (λ n. drop n gap) (sym (prefix_len_is is_ascii_whitespace gap cut.0 0 (omega (arith, cut.2)) cut.3 cut.4))

-- `text` is what is written up to the word at an index; with the gap before the word it is `spaced`, and with the word too `laid`.
module _ (words : List Word) (k : ℕ) (unit : Word) (last : Option Word) (text gap spaced laid : List ℕ) where
  -- the word at the index
  abbrev this : Word
  this = get_or words k unit

  -- what is written up to the next word
  all_laid : gap ≡ gap_before last this → spaced ≡ text ++ gap → laid ≡ spaced ++ this.bytes.now
      → laid ≡ text ++ (gap_before last this ++ this.bytes.now)
  all_laid is spaced_is laid_is =
      laid_is ∙ ap (λ spaced. spaced ++ this.bytes.now) (spaced_is ∙ ap (λ gap. text ++ gap) is) ∙ append_assoc text (gap_before last this) this.bytes.now

  -- the text is the same one word further
  pub text_further : k < length words → gap ≡ gap_before last this → spaced ≡ text ++ gap → laid ≡ spaced ++ this.bytes.now
      → laid ++ text_behind (Some this) (drop (k + 1) words) ≡ text ++ text_behind last (drop k words)
  unfolding text_behind
  text_further below is spaced_is laid_is =
      let rest : List ℕ = text_behind (Some this) (drop (k + 1) words) in
      let here : gap_before last this ++ this.bytes.now ++ rest ≡ text_behind last (this ∷ drop (k + 1) words) = refl in
      ap (λ laid. laid ++ rest) (all_laid is spaced_is laid_is) ∙ append_assoc text (gap_before last this ++ this.bytes.now) rest
      ∙ ap (λ laid. text ++ laid) (here ∙ ap (text_behind last) (sym (drop_more words k unit below)))

  -- so are the places
  pub origins_further : (origins pushed : List Origin) (from : ℕ) → k < length words → gap ≡ gap_before last this → spaced ≡ text ++ gap
      → laid ≡ spaced ++ this.bytes.now → from ≡ length spaced → pushed ≡ origins ++ origin_at from this.at ∷ []
      → pushed ++ origins_behind (length laid) (Some this) (drop (k + 1) words) ≡ origins ++ origins_behind (length text) last (drop k words)
  unfolding origins_behind
  origins_further origins pushed from below is spaced_is laid_is from_is pushed_is =
      let begins : from ≡ length text + length (gap_before last this) =
      from_is ∙ ap length spaced_is ∙ length-append text gap ∙ ap (λ gap. length text + length gap) is in
      let behind : length laid ≡ from + length this.bytes.now =
      ap length laid_is ∙ length-append spaced this.bytes.now ∙ ap (λ n. n + length this.bytes.now) (sym from_is) in
      let rest : ℕ → List Origin = λ (from : ℕ). origins_behind (from + length this.bytes.now) (Some this) (drop (k + 1) words) in
      let here : origin_at (length text + length (gap_before last this)) this.at ∷ rest (length text + length (gap_before last this))
      ≡ origins_behind (length text) last (this ∷ drop (k + 1) words) = refl in
      ap (λ pushed. pushed ++ origins_behind (length laid) (Some this) (drop (k + 1) words)) pushed_is
      ∙ append_assoc origins (origin_at from this.at ∷ []) (origins_behind (length laid) (Some this) (drop (k + 1) words))
      ∙ ap (λ n. origins ++ origin_at from this.at ∷ origins_behind n (Some this) (drop (k + 1) words)) behind
      ∙ ap (λ (n : ℕ). origins ++ origin_at n this.at ∷ rest n) begins
      ∙ ap (λ laid. origins ++ laid) (here ∙ ap (origins_behind (length text) last) (sym (drop_more words k unit below)))
