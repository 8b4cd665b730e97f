-- The parts of a set are its own.
use Rattle.std.proofs.Common.{◌≡◌, ◌∙◌, ◌≤◌, List, [], ◌∷◌, ◌++◌, Some, ap, length, length-append, refl, subst, sym, arith}
use Rattle.filter_tokens.specs.declared.symbol.Symbol.TheVariants as symbol
use Rattle.bird_import.specs.Rules.{Is, IsSet, open_behind}
use Rattle.bird_import.specs.declared.word.Word.{Word}

none_last : {A : Type 0} (ys : List A) (y : A) → [] ≡ ys ++ y ∷ [] → ⊥
none_last [] y is = cc
none_last (b ∷ ys) y is = cc

last_same : {A : Type 0} (xs ys : List A) (x y : A) → xs ++ x ∷ [] ≡ ys ++ y ∷ [] → (xs ≡ ys) × (x ≡ y)
last_same [] [] x y is = (refl, cc)
last_same [] (b ∷ ys) x y is = let none : [] ≡ ys ++ y ∷ [] = cc in absurd (none_last ys y none)
last_same (a ∷ xs) [] x y is = let none : [] ≡ xs ++ x ∷ [] = cc in absurd (none_last xs x none)
last_same (a ∷ xs) (b ∷ ys) x y is =
    let behind : xs ++ x ∷ [] ≡ ys ++ y ∷ [] = cc in
    let first : a ≡ b = cc in
    let rest = last_same xs ys x y behind in
    let others : xs ≡ ys = rest.0 in
    (cc, rest.1)

-- what stands between brackets, and these
pub record HasBrackets (inner : List Word) (opening closing : Word) : Type 0 where
  pub is_opening : Is symbol.LeftBracket opening
  pub is_closing : Is symbol.RightBracket closing
  pub balanced : open_behind 0 inner ≡ Some 0

pub set_is : (words inner : List Word) (opening closing : Word) → words ≡ opening ∷ (inner ++ closing ∷ []) → IsSet words
    → HasBrackets inner opening closing
set_is words inner opening closing whole is =
    let both : opening ∷ (inner ++ closing ∷ []) ≡ is.opening ∷ (is.inner ++ is.closing ∷ []) = sym whole ∙ is.whole in
    let first : is.opening ≡ opening = cc in
    let behind : inner ++ closing ∷ [] ≡ is.inner ++ is.closing ∷ [] = cc in
    let parts = last_same inner is.inner closing is.closing behind in
    record {
      is_opening = subst (λ (w : Word). Is symbol.LeftBracket w) first is.is_opening;
      is_closing = subst (λ (w : Word). Is symbol.RightBracket w) (sym parts.1) is.is_closing;
      balanced = subst (λ (words : List Word). open_behind 0 words ≡ Some 0) (sym parts.0) is.balanced;
    }

pub set_is_long : (words : List Word) → IsSet words → 2 ≤ length words
set_is_long words is =
    let whole = ap length is.whole in
    let inner = length-append is.inner (is.closing ∷ []) in
    omega (arith, whole, inner)
