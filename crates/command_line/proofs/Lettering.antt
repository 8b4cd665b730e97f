-- How the pages of letters begin.
use Rattle.std.proofs.Common.{◌≡◌, ◌∙◌, ◌<◌, ◌++◌, Bool, true, false, List, [], ◌∷◌, ℕ, Option, Some, None}
use Rattle.std.proofs.Common.{Result, ap, cond, drop, drop-cons, get_or, length, map, refl, subst, sym}
use Rattle.std.specs.Prelude.{◌==◌, IfOk, IsSomeAnd, MatchOption}
use Rattle.std.specs.Cmp.Lexicographic.{pointwise}
use Rattle.std.proofs.Math.Seq.{take-append_seam}
use Rattle.std.specs.Char.{to_ascii_uppercase}
use Rattle.std.specs.Str.{bytes_eq}
use Rattle.std.proofs.lemmas.Result.{IfOk-weaker}
use Rattle.std.proofs.lemmas.Slice.Eq.{bytes_eq-Decides}
use Rattle.command_line.specs.Pages.{IsPage, head_in_capitals, letter_head, letters, page_head}
use Rattle.refusal_texts.specs.Codes.{all_codes, begins_with, is_among}

abbrev starts_equal : List ℕ → List ℕ → Bool
starts_equal = pointwise (λ a b. a == b)

-- a text begins with itself
pub begins_itself : (head more : List ℕ) → begins_with head (head ++ more) ≡ true
begins_itself head more = ap (λ front. starts_equal head front) (take-append_seam head more) ∙ (bytes_eq-Decides head head).1 refl

-- what a loop over things with a letter comes to
pub letter_here : {X : Type 0} (f : X → List ℕ) (known : List (List ℕ)) (items : List X) (word : List ℕ) (i : ℕ) (d : X) → map f items ≡ known
    → i < length items → is_among (map f items) word ≡ is_among (map f (drop i items)) word → bytes_eq (f (get_or items i d)) word ≡ true
    → is_among known word ≡ true
letter_here f known items word i d are within so_far is =
    subst (λ (k : List (List ℕ)). is_among k word ≡ true) are
    (so_far ∙ ap (λ rest. is_among (map f rest) word) (drop-cons items i d within) ∙ rw is refl)

-- What is said of a word that is no code.
module _ (word capitals : List ℕ) (some : (length word == 0) ≡ false) (is : capitals ≡ map to_ascii_uppercase word) (no_code : is_among all_codes capitals ≡ false) where
  head_is : (b : Bool) → is_among letters capitals ≡ b → page_head word ≡ cond b (Some (letter_head capitals)) None
  head_is b among_letters = go word some is
    where
      go : (w : List ℕ) → (length w == 0) ≡ false → capitals ≡ map to_ascii_uppercase w → page_head w ≡ cond b (Some (letter_head capitals)) None
      go [] none same = absurd (cc)
      go (first ∷ others) some same = ap head_in_capitals (sym same) ∙ rw (no_code, among_letters) refl

  one_page : {X : Type 0} (bytes : X → List ℕ) (page : Option X) → MatchOption page (is_among letters capitals ≡ false) (λ p. (is_among letters capitals ≡ true)
      × (begins_with (letter_head capitals) (bytes p) ≡ true)) → MatchOption page (page_head word ≡ None) (λ p. IsPage word (bytes p))
  one_page bytes None none = head_is false none
  one_page bytes (Some page) said =
      subst (λ (head : Option (List ℕ)). IsSomeAnd head (λ h. begins_with h (bytes page) ≡ true)) (sym (head_is true said.0)) said.1

  pub letter_said : {X E : Type 0} (bytes : X → List ℕ) (made : Result (Option X) E) → IfOk made (λ page. MatchOption page (is_among letters capitals ≡ false)
      (λ p. (is_among letters capitals ≡ true) × (begins_with (letter_head capitals) (bytes p) ≡ true)))
      → IfOk made (λ page. MatchOption page (page_head word ≡ None) (λ p. IsPage word (bytes p)))
  letter_said bytes made said = IfOk-weaker made _ _ (one_page bytes) said
