-- The nearest of the known words that were looked at so far.
use Rattle.std.proofs.Common.{◌≡◌, ◌≤◌, ◌<◌, ◌+◌, ◌/◌, ℕ, zero, suc, List, [], ◌∷◌, ◌++◌, length, map}
use Rattle.std.proofs.Common.{take, get_or, Option, Some, None, IfSome, Bor, refl, ap, ◌∙◌, arith}
use Rattle.std.specs.List.{All, slice_get}
use Rattle.std.proofs.lemmas.List.{map-append, take_more}
use Rattle.std.proofs.lemmas.List.Elements.{All-push}
use Rattle.refusal_words.specs.Spelled.{IsFar, IsNearest, edits}
use Rattle.refusal_words.specs.declared.nearest.Near.{Near}

-- what the best of the words is that were looked at
abbrev pub IsBest : List ℕ → List (List ℕ) → Option Near → Type 0
IsBest word passed None = All (IsFar word) passed
IsBest word passed (Some near) = IsNearest word passed near.word.now × (near.distance ≡ edits word near.word.now)

slice_get_more : (xs : List (List ℕ)) (k : ℕ) (x y : List ℕ) → slice_get xs k ≡ Some x → slice_get (xs ++ y ∷ []) k ≡ Some x
slice_get_more [] k x y e = cc
slice_get_more (z ∷ xs) zero x y e = e
slice_get_more (z ∷ xs) (suc k) x y e = slice_get_more xs k x y e

slice_get_last : (xs : List (List ℕ)) (y : List ℕ) → slice_get (xs ++ y ∷ []) (length xs) ≡ Some y
slice_get_last [] y = refl
slice_get_last (z ∷ xs) y = slice_get_last xs y

-- one more is looked at
pub one_more : (known : List (Bor (List ℕ))) (i : ℕ) (d : Bor (List ℕ)) → i < length known
    → map (λ other. other.now) (take (i + 1) known) ≡ map (λ other. other.now) (take i known) ++ (get_or known i d).now ∷ []
one_more known i d h =
    ap (map (λ other. other.now)) (take_more known i d h) ∙ map-append (λ other. other.now) (take i known) (get_or known i d ∷ [])

-- the nearest stays it where no nearer word comes
stays : (word : List ℕ) (passed : List (List ℕ)) (near c : List ℕ) → IsNearest word passed near → edits word near ≤ edits word c
    → IsNearest word (passed ++ c ∷ []) near
stays word passed near c h le = record {
  index = h.index;
  is_known = slice_get_more passed h.index near c h.is_known;
  is_near = h.is_near;
  least = All-push (λ other. edits word near ≤ edits word other) passed c h.least le;
}

-- a word that is far changes nothing
pub far_more : (word : List ℕ) (passed : List (List ℕ)) (best : Option Near) (c : List ℕ) → IsBest word passed best → IsFar word c
    → IsBest word (passed ++ c ∷ []) best
far_more word passed None c h far = All-push (IsFar word) passed c h far
far_more word passed (Some near) c h far = (stays word passed near.word.now c h.0 (let n = h.0.is_near in omega arith), h.1)

-- nor does one that is not nearer
pub not_nearer_more : (word : List ℕ) (passed : List (List ℕ)) (best : Option Near) (c : List ℕ) (distance : ℕ) → IsBest word passed best
    → distance ≡ edits word c → ¬ (IfSome best (λ other. distance < other.distance)) → IsBest word (passed ++ c ∷ []) best
not_nearer_more word passed None c distance h e not_less = absurd (not_less tt)
not_nearer_more word passed (Some near) c distance h e not_less = (stays word passed near.word.now c h.0 (let n = h.1 in omega arith), h.1)

-- a nearer one takes its place
pub nearer_more : (word : List ℕ) (passed : List (List ℕ)) (best : Option Near) (new : Near) → IsBest word passed best
    → new.distance ≡ edits word new.word.now → new.distance ≤ length word / 3 → IfSome best (λ other. new.distance < other.distance)
    → IsBest word (passed ++ new.word.now ∷ []) (Some new)
nearer_more word passed None new h e near less = (
  record {
    index = length passed;
    is_known = slice_get_last passed new.word.now;
    is_near = omega arith;
    least = All-push (λ other. edits word new.word.now ≤ edits word other) passed new.word.now
        (λ k d l. let far = h k d l in omega arith) (omega arith);
  },
  e,
)
nearer_more word passed (Some best) new h e near less = (
  record {
    index = length passed;
    is_known = slice_get_last passed new.word.now;
    is_near = omega arith;
    least = All-push (λ other. edits word new.word.now ≤ edits word other) passed new.word.now
        (λ k d l. let not_less = h.0.least k d l in let b = h.1 in omega arith) (omega arith);
  },
  e,
)
