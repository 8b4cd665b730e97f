-- Histories that begin others.
use Rattle.std.proofs.Common.{◌≡◌, ◌∙◌, sym, ap, refl, ◌≤◌, List, [], ◌∷◌, ◌++◌, length, append_assoc, append-nil, length-append, arith}
use Rattle.route_history.specs.declared.entry.Entry.{Entry}
use Rattle.route_history.specs.Beginning.{Begins}

pub whole : (xs : List Entry) → Begins xs xs
whole xs = record { rest = []; is = sym (append-nil xs) }

pub nothing : (xs : List Entry) → Begins [] xs
nothing xs = record { rest = xs; is = refl }

pub one_more : (xs : List Entry) (e : Entry) → Begins xs (xs ++ e ∷ [])
one_more xs e = record { rest = e ∷ []; is = refl }

pub further : (xs ys zs : List Entry) → Begins xs ys → Begins ys zs → Begins xs zs
further xs ys zs a b = record {
  rest = a.rest ++ b.rest;
  is = b.is ∙ ap (λ (l : List Entry). l ++ b.rest) a.is ∙ append_assoc xs a.rest b.rest;
}

pub shorter : (xs ys : List Entry) → Begins xs ys → length xs ≤ length ys
shorter xs ys a = let e = ap (λ (l : List Entry). length l) a.is in omega (arith, length-append xs a.rest)

behind : (x y : Entry) (xs ys zs rest : List Entry) → x ∷ zs ≡ y ∷ (ys ++ rest) → Begins xs ys → Begins (x ∷ xs) (y ∷ ys)
behind x y xs ys zs rest e h = let heads : x ≡ y = cc in record { rest = h.rest; is = λ i. sym heads i ∷ h.is i }

-- of two beginnings of one history the shorter begins the longer
pub nested : (xs ys zs : List Entry) → Begins xs zs → Begins ys zs → length xs ≤ length ys → Begins xs ys
nested [] ys zs a b le = nothing ys
nested (x ∷ xs) [] zs a b le = absurd (omega arith)
nested (x ∷ xs) (y ∷ ys) zs a b le =
    let same : x ∷ (xs ++ a.rest) ≡ y ∷ (ys ++ b.rest) = sym a.is ∙ b.is in
    let tails : xs ++ a.rest ≡ ys ++ b.rest = cc in
    behind x y xs ys (xs ++ a.rest) b.rest same
    (nested xs ys (xs ++ a.rest) (record { rest = a.rest; is = refl }) (record { rest = b.rest; is = tails }) (omega arith))
