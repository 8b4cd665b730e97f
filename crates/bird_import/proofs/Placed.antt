-- What stands for a call, and where a set or a definition stands for its name: their parts, put together.
use Rattle.std.proofs.Common.{◌≡◌, ◌∙◌, ℕ, zero, suc, ◌⊎◌, List, [], ◌∷◌, ◌++◌, Some, append-nil, refl, slice_get, subst, sym}
use Rattle.filter_tokens.specs.declared.symbol.Symbol.TheVariants as symbol
use Rattle.bird_import.specs.Alike.{AreAlike}
use Rattle.bird_import.specs.Rules.{IsEnclosed, IsGrouped, IsSame}
use Rattle.bird_import.specs.Functions.{EndsBefore, HasPlainBody, IsCall, IsCallOf, IsFunction, IsPlainFunction, IsRun, IsValued}
use Rattle.bird_import.specs.Sets.{IsAssigned, IsDeclared, IsSetPlaced, IsUsedInside, IsWithout}
use Rattle.bird_import.specs.declared.word.Word.{Word}

-- the commands of a function that declares nothing
pub plain_body : (name : List ℕ) (words between body : List Word) (end : Word) → IsFunction name words between body end
    → IsPlainFunction between body → HasPlainBody name words body
plain_body name words between body end is plain = record { between = between; end = end; is_function = is; is_plain = plain }

-- what stands for a call
pub call_of : (source function front old new : List Word) (name : Word) (rest body : List Word) → IsCall old name rest
    → HasPlainBody name.bytes.now function body → EndsBefore name source → IsRun body front rest new ⊎ IsValued body front rest new
    → IsCallOf source function front old new
call_of source function front old new name rest body call is_function earlier written = record {
  name = name;
  rest = rest;
  call = call;
  earlier = earlier;
  body = body;
  is_function = is_function;
  written = written;
}

-- a set stands for its variable
pub set_placed : (front old new back : List Word) (name : Word) (rest between set later : List Word) → IsDeclared old name rest
    → IsAssigned name.bytes.now front rest between set later → IsUsedInside name.bytes.now later back
    → IsWithout name.bytes.now between set later new → IsSetPlaced front old new back
set_placed front old new back name rest between set later declared assigned inside written = record {
  name = name;
  rest = rest;
  declared = declared;
  between = between;
  set = set;
  later = later;
  assigned = assigned;
  inside = inside;
  written = written;
}

-- words are the same as themselves
same_words : (words : List Word) → AreAlike IsSame words words
same_words words = (
  refl,
  λ k x y at other.
      let same : x ≡ y = cc in
      subst (λ (w : Word). IsSame x w) same (refl, refl),
)

-- so they are with another first word that is the same
same_at : (first again : Word) (others : List Word) → IsSame first again → (k : ℕ) (x y : Word) → slice_get (first ∷ others) k ≡ Some x
    → slice_get (again ∷ others) k ≡ Some y → IsSame x y
same_at first again others same zero x y at other =
    let one : first ≡ x = cc in
    let two : again ≡ y = cc in
    subst (λ (w : Word). IsSame x w) two (subst (λ (w : Word). IsSame w again) one same)
same_at first again others same (suc k) x y at other = (same_words others).1 k x y at other

same_behind : (first again : Word) (others : List Word) → IsSame first again → AreAlike IsSame (first ∷ others) (again ∷ others)
same_behind first again others same = (refl, same_at first again others same)

-- a value that stands as it is
pub as_it_is : (value new others : List Word) (first again : Word) → value ≡ first ∷ others → new ≡ ((again ∷ []) ++ others) ++ []
    → IsSame first again → AreAlike IsSame value new
as_it_is value new others first again whole written same =
    let plain : new ≡ again ∷ others = written ∙ append-nil (again ∷ others) in
    subst (λ (words : List Word). AreAlike IsSame words new) (sym whole)
    (subst (λ (words : List Word). AreAlike IsSame (first ∷ others) words) (sym plain) (same_behind first again others same))

-- words in parentheses
pub in_parentheses : (inner words : List Word) → IsEnclosed symbol.LeftParen symbol.RightParen inner words → IsGrouped inner words
in_parentheses inner words is = record {
  opening = is.opening;
  closing = is.closing;
  kept = inner;
  same = same_words inner;
  is_opening = is.is_opening;
  is_closing = is.is_closing;
  whole = is.whole;
}
