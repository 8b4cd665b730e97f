-- A part of a list at a place of it.
use Rattle.std.proofs.Common.{◌≡◌, ℕ, ◌+◌, ◌<◌, List, [], ◌∷◌, ◌++◌, length, Some, ap, ◌∙◌, subst, arith, append_assoc, length-append}
use Rattle.std.specs.Prelude.{slice_get}
use Rattle.std.proofs.Math.Seq.{get_or-append_seam}
use Rattle.std.proofs.lemmas.Option.{slice_get-get_or}
use Rattle.filter_code.specs.CodeView.{CodeView}
use Rattle.filter_compiler.specs.SetOrder.{Sets, SetCounts, past, with_sets}

-- the part is in the list at this place
abbrev pub HasAt : {X : Type 0} → List X → ℕ → List X → Type 0
HasAt xs at [] = Unit {0}
HasAt xs at (p ∷ part) = (slice_get xs at ≡ Some p) × HasAt xs (at + 1) part

pub has_front : {X : Type 0} (xs : List X) (at : ℕ) (a b : List X) → HasAt xs at (a ++ b) → HasAt xs at a
has_front xs at [] b h = tt
has_front xs at (x ∷ a) b h = (h.0, has_front xs (at + 1) a b h.1)

pub has_back : {X : Type 0} (xs : List X) (at : ℕ) (a b : List X) → HasAt xs at (a ++ b) → HasAt xs (at + length a) b
has_back xs at [] b h = let e : at ≡ at + 0 = omega arith in subst (λ n. HasAt xs n b) e h
has_back xs at (x ∷ a) b h =
    let e : at + 1 + length a ≡ at + length (x ∷ a) = omega arith in
    subst (λ n. HasAt xs n b) e (has_back xs (at + 1) a b h.1)

-- what follows something is at the place after it
pub has_rest : {X : Type 0} (part before : List X) → HasAt (before ++ part) (length before) part
has_rest [] before = tt
has_rest (x ∷ part) before =
    let within : length before < length (before ++ x ∷ part) = omega (arith, length-append before (x ∷ part)) in
    let here = slice_get-get_or (before ++ x ∷ part) (length before) x within ∙ ap Some (get_or-append_seam before x part x) in
    let n : length (before ++ x ∷ []) ≡ length before + 1 = omega (arith, length-append before (x ∷ [])) in
    let rest = has_rest part (before ++ x ∷ []) in
    let rest' = subst (λ l. HasAt l (length (before ++ x ∷ [])) part) (append_assoc before (x ∷ []) part) rest in
    (here, subst (λ m. HasAt (before ++ x ∷ part) m part) n rest')

pub has_all : {X : Type 0} (xs : List X) → HasAt xs 0 xs
has_all xs = has_rest xs []

-- the sets of a part are in the code, at their numbers
pub record HasSets (program : CodeView) (n : SetCounts) (sets : Sets) : Type 0 where
  pub patterns : HasAt program.sets n.patterns sets.patterns
  pub ints : HasAt program.int_sets n.ints sets.ints

pub sets_front : (program : CodeView) (n : SetCounts) (a b : Sets) → HasSets program n (with_sets a b) → HasSets program n a
sets_front program n a b h = record {
  patterns = has_front program.sets n.patterns a.patterns b.patterns h.patterns;
  ints = has_front program.int_sets n.ints a.ints b.ints h.ints;
}

pub sets_back : (program : CodeView) (n : SetCounts) (a b : Sets) → HasSets program n (with_sets a b) → HasSets program (past n a) b
sets_back program n a b h = record {
  patterns = has_back program.sets n.patterns a.patterns b.patterns h.patterns;
  ints = has_back program.int_sets n.ints a.ints b.ints h.ints;
}
