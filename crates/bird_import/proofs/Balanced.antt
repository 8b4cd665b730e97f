-- What is found outside of what is opened: it is wanted, and all that is opened before it is closed there.
use Rattle.std.proofs.Common.{◌≡◌, ◌⊎◌, ℕ, zero, suc, ◌+◌, ◌-◌, ◌<◌, ◌≤◌, ◌&&◌, ◌==◌, Bool, true}
use Rattle.std.proofs.Common.{false, if◌then◌else◌, List, [], ◌∷◌, length, drop, take, Option, Some}
use Rattle.std.proofs.Common.{None, inl, inr, refl, sym, ◌∙◌, ap, subst, arith, length-drop}
use Rattle.std.specs.Option.{option_and_then}
use Rattle.std.proofs.lemmas.Bool.{and_parts, cond-false, cond-true, eqb-true}
use Rattle.std.proofs.lemmas.Option.{same_Some}
use Rattle.bird_import.specs.Indices.{kind_at}
use Rattle.bird_import.specs.Items.{depth_past, first_outside, outside_from}
use Rattle.bird_import.specs.Rules.{closes, open_behind, opens}
use Rattle.bird_import.specs.declared.word.Word.{Word}
use Rattle.bird_import.specs.declared.word.WordKind.{WordKind}

-- one of two ways was taken
pub one_way : {A : Type 0} (b : Bool) (x y : Option A) (z : A) → (if b then x else y) ≡ Some z
    → ((b ≡ true) × (x ≡ Some z)) ⊎ ((b ≡ false) × (y ≡ Some z))
one_way true x y z is = inl (refl, is)
one_way false x y z is = inr (refl, is)

pub some_then : {A B : Type 0} (f : A → Option B) (o : Option A) (y : B) → option_and_then f o ≡ Some y → (x : A) × (o ≡ Some x) × (f x ≡ Some y)
some_then f None y is = absurd (cc)
some_then f (Some x) y is = (x, refl, is)

-- where what is found lies, and what stands before it
pub record IsFoundIn (wanted : WordKind → Bool) (words : List Word) (depth from found : ℕ) : Type 0 where
  pub after : from ≤ found
  pub below : found < from + length words
  pub there : wanted (kind_at words (found - from)) ≡ true
  pub balanced : open_behind depth (take (found - from) words) ≡ Some 0

-- a word further
past_is : (depth after : ℕ) (word : Word) (words : List Word) → depth_past depth word.kind ≡ Some after
    → open_behind depth (word ∷ words) ≡ open_behind after words
unfolding depth_past open_behind
past_is depth after word words is =
    let closed = if depth == 0 then None else open_behind (depth - 1) words in
    let other = if closes word.kind then closed else open_behind depth words in
    elim (one_way (opens word.kind) (Some (depth + 1)) (if closes word.kind then (if depth == 0 then None else Some (depth - 1)) else Some depth) after is) [
      | inl opened ↦ cond-true (opens word.kind) (open_behind (depth + 1) words) other opened.0
          ∙ ap (λ n. open_behind n words) (same_Some (depth + 1) after opened.1)
      | inr not_opened ↦ cond-false (opens word.kind) (open_behind (depth + 1) words) other not_opened.0
          ∙ elim (one_way (closes word.kind) (if depth == 0 then None else Some (depth - 1)) (Some depth) after not_opened.1) [
            | inl closing ↦ cond-true (closes word.kind) closed (open_behind depth words) closing.0
                ∙ elim (one_way (depth == 0) None (Some (depth - 1)) after closing.1) [
                  | inl none ↦ absurd (cc)
                  | inr some ↦ cond-false (depth == 0) None (open_behind (depth - 1) words) some.0
                      ∙ ap (λ n. open_behind n words) (same_Some (depth - 1) after some.1)
                ]
            | inr neither ↦ cond-false (closes word.kind) closed (open_behind depth words) neither.0
                ∙ ap (λ n. open_behind n words) (same_Some depth after neither.1)
          ]
    ]

here_found : (wanted : WordKind → Bool) (word : Word) (words : List Word) (depth from : ℕ) (n : ℕ) → n ≡ 0 → depth ≡ 0 → wanted word.kind ≡ true
    → (wanted (kind_at (word ∷ words) n) ≡ true) × (open_behind depth (take n (word ∷ words)) ≡ Some 0)
unfolding open_behind
here_found wanted word words depth from n none flat is =
    subst (λ n. (wanted (kind_at (word ∷ words) n) ≡ true) × (open_behind depth (take n (word ∷ words)) ≡ Some 0)) (sym none) (is, ap Some flat)

later_found : (wanted : WordKind → Bool) (word : Word) (words : List Word) (depth after m n : ℕ) → n ≡ suc m → depth_past depth word.kind ≡ Some after
    → wanted (kind_at words m) ≡ true → open_behind after (take m words) ≡ Some 0
    → (wanted (kind_at (word ∷ words) n) ≡ true) × (open_behind depth (take n (word ∷ words)) ≡ Some 0)
later_found wanted word words depth after m n next past there balanced =
    subst (λ n. (wanted (kind_at (word ∷ words) n) ≡ true) × (open_behind depth (take n (word ∷ words)) ≡ Some 0)) (sym next)
    (there, past_is depth after word (take m words) past ∙ balanced)

pub found_is : (wanted : WordKind → Bool) (words : List Word) (depth from found : ℕ) → first_outside wanted depth from words ≡ Some found
    → IsFoundIn wanted words depth from found
unfolding first_outside
found_is wanted [] depth from found is = absurd (cc)
found_is wanted (word ∷ words) depth from found is =
    elim (one_way (depth == 0 && wanted word.kind) (Some from)
    (option_and_then (λ after. first_outside wanted after (from + 1) words) (depth_past depth word.kind)) found is) [
      | inl here ↦
          let same : from ≡ found = same_Some from found here.1 in
          let tests = and_parts (depth == 0) (wanted word.kind) here.0 in
          let all = here_found wanted word words depth from (found - from) (omega arith) (eqb-true depth 0 tests.0) tests.1 in
          record { after = omega arith; below = omega arith; there = all.0; balanced = all.1 }
      | inr later ↦
          let rest = some_then (λ after. first_outside wanted after (from + 1) words) (depth_past depth word.kind) found later.1 in
          let lies = found_is wanted words rest.0 (from + 1) found rest.2 in
          let all = later_found wanted word words depth rest.0 (found - (from + 1)) (found - from) (omega (arith, lies.after)) rest.1 lies.there
          lies.balanced in
          record { after = omega (arith, lies.after); below = omega (arith, lies.below); there = all.0; balanced = all.1 }
    ]

kind_further : (words : List Word) (from k : ℕ) → kind_at (drop from words) k ≡ kind_at words (from + k)
kind_further words zero k = ap (kind_at words) (let same : k ≡ zero + k = omega arith in same)
kind_further [] (suc from) k = refl
kind_further (word ∷ words) (suc from) k =
    let next : suc (from + k) ≡ suc from + k = omega arith in
    kind_further words from k ∙ ap (kind_at (word ∷ words)) next

-- the same from an index on
pub record IsFoundFrom (words : List Word) (wanted : WordKind → Bool) (from found : ℕ) : Type 0 where
  pub after : from ≤ found
  pub below : found < length words
  pub there : wanted (kind_at words found) ≡ true
  pub balanced : open_behind 0 (take (found - from) (drop from words)) ≡ Some 0

pub found_from : (words : List Word) (wanted : WordKind → Bool) (from found : ℕ) → outside_from words wanted from ≡ Some found
    → IsFoundFrom words wanted from found
unfolding outside_from
found_from words wanted from found is =
    let lies = found_is wanted (drop from words) 0 from found is in
    let place : from + (found - from) ≡ found = omega (arith, lies.after) in
    record {
      after = lies.after;
      below = omega (arith, lies.after, lies.below, length-drop from words);
      there = sym (ap wanted (kind_further words from (found - from) ∙ ap (kind_at words) place)) ∙ lies.there;
      balanced = lies.balanced;
    }
