-- The ranges of addresses in labels, and what is open before them.
use Rattle.std.proofs.Common.{◌≡◌, ℕ, zero, suc, ◌+◌, ◌-◌, ◌<◌, ◌≤◌, ◌==◌, ◌⊎◌, Bool, true, false, if◌then◌else◌, List, [], ◌∷◌, take}
use Rattle.std.proofs.Common.{length, Option, Some, None, refl, sym, ◌∙◌, ap, subst, inl, inr, arith, add-one, slice_get}
use Rattle.std.specs.Option.{option_and_then}
use Rattle.std.proofs.lemmas.Bool.{cases_lt}
use Rattle.std.proofs.lemmas.Option.{same_Some}
use Rattle.bird_import.specs.Cases.{AreDistinct, IsDistinctAt, IsFreeAt, IsInLabel, IsRangeAt}
use Rattle.bird_import.specs.Indices.{kind_at, kind_of_word}
use Rattle.bird_import.specs.Items.{depth_past}
use Rattle.bird_import.specs.Rules.{closes, open_behind, opens}
use Rattle.bird_import.specs.declared.word.Word.{Word}
use Rattle.bird_import.proofs.Balanced.{some_then}
use Rattle.bird_import.proofs.Outside.{kind_past}
use Rattle.bird_import.proofs.Variables.{there}

one_of : (opened closed none : Bool) (x y z : ℕ) (f : ℕ → Option ℕ)
    → (if opened then f x else (if closed then (if none then None else f y) else f z))
    ≡ option_and_then f (if opened then Some x else (if closed then (if none then None else Some y) else Some z))
one_of true closed none x y z f = refl
one_of false true true x y z f = refl
one_of false true false x y z f = refl
one_of false false none x y z f = refl

-- what is open behind some words, by their first
opened_first : (depth : ℕ) (word : Word) (words : List Word)
    → open_behind depth (word ∷ words) ≡ option_and_then (λ after. open_behind after words) (depth_past depth word.kind)
unfolding depth_past open_behind
opened_first depth word words =
    one_of (opens word.kind) (closes word.kind) (depth == 0) (depth + 1) (depth - 1) depth (λ after. open_behind after words)

-- and by their last
opened_last : (depth between after : ℕ) (words : List Word) (k : ℕ) (word : Word) → slice_get words k ≡ Some word
    → open_behind depth (take k words) ≡ Some between → depth_past between word.kind ≡ Some after
    → open_behind depth (take (suc k) words) ≡ Some after
unfolding open_behind
opened_last depth between after [] k word is before past = absurd (cc)
opened_last depth between after (first ∷ words) zero word is before past =
    let same : depth ≡ between = same_Some depth between before in
    let here : first ≡ word = same_Some first word is in
    opened_first depth first [] ∙ ap (option_and_then (λ n. open_behind n []))
    (ap (λ n. depth_past n first.kind) same ∙ ap (λ (w : Word). depth_past between w.kind) here ∙ past)
opened_last depth between after (first ∷ words) (suc k) word is before past =
    let split = some_then (λ n. open_behind n (take k words)) (depth_past depth first.kind) between (sym (opened_first depth first (take k words)) ∙ before) in
    opened_first depth first (take (suc k) words) ∙ ap (option_and_then (λ n. open_behind n (take (suc k) words))) split.1
    ∙ opened_last split.0 between after words k word is split.2 past

pub opened_further : (words : List Word) (k between after : ℕ) → k < length words → open_behind 0 (take k words) ≡ Some between
    → depth_past between (kind_at words k) ≡ Some after → open_behind 0 (take (k + 1) words) ≡ Some after
opened_further words k between after below before past =
    let word = there words k below in
    let same : depth_past between word.0.kind ≡ Some after =
    subst (λ (found : Option Word). depth_past between (kind_of_word found) ≡ Some after) word.1 past in
    rw add-one (opened_last 0 between after words k word.0 word.1 before same)

-- no address is in two ranges of which one ends before the other begins
pub none_in_both : (a b c d address : ℕ) → (b < c) ⊎ (d < a) → a ≤ address → address ≤ b → c ≤ address → address ≤ d → ⊥
none_in_both a b c d address apart above below low high =
    elim apart [
      | inl first ↦ absurd (omega (arith, first, below, low))
      | inr second ↦ absurd (omega (arith, second, above, high))
    ]

-- outside of what is opened, the range at an index has no address of another one
abbrev pub IsFreeOutside : ℕ → ℕ → List Word → ℕ → Type 0
IsFreeOutside low high words k = open_behind 0 (take k words) ≡ Some 0 → IsFreeAt low high words k

-- a range stands where a word does
stands_within : (words : List Word) (k low high : ℕ) → IsRangeAt words k low high → k < length words
stands_within words k low high range =
    elim (cases_lt k (length words)) [
      | inl below ↦ below
      | inr past ↦ let none = kind_past words k past in let begins = range.begins in absurd (cc)
    ]

-- no label of some words has an address of a range
pub one_free : (low high : ℕ) (words : List Word) (k depth : ℕ) → open_behind 0 (take k words) ≡ Some depth
    → (depth ≡ 0 → IsFreeAt low high words k) → IsFreeOutside low high words k
one_free low high words k depth opened free outside = free (same_Some depth 0 (sym opened ∙ outside))

pub all_free : (low high n : ℕ) (words : List Word) → length words ≤ n → ((k : ℕ) → k < n → IsFreeOutside low high words k)
    → (address : ℕ) → low ≤ address → address ≤ high → IsInLabel address words → ⊥
all_free low high n words ends before address above below is =
    let within = stands_within words is.k is.low is.high is.range in
    before is.k (omega (arith, within, ends)) is.outside is.low is.high address is.range above below is.above is.below

pub all_distinct : (label parts : List Word) (n : ℕ) → length label ≤ n → ((k : ℕ) → k < n → IsDistinctAt label parts k) → AreDistinct label parts
all_distinct label parts n ends before address is other =
    let within = stands_within label is.k is.low is.high is.range in
    before is.k (omega (arith, within, ends)) is.low is.high address is.range is.above is.below other
