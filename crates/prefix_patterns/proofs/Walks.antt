-- A walk down a tree of patterns keeps those that can still match.
use Rattle.std.proofs.Common.{◌≡◌, ℕ, zero, suc, ◌+◌, ◌≤◌, nat_le, Bool, true, false, ◌&&◌, ◌||◌, Option, Some, None, List, [], ◌∷◌}
use Rattle.std.proofs.Common.{refl, ap, arith, slice_get, length, take, add-one, cond}
use Rattle.std.specs.List.{list_any}
use Rattle.std.proofs.lemmas.Bool.{and_from, and_parts, or_parts}
use Rattle.std.proofs.lemmas.Bool.Decides.{nat_tests}
use Rattle.std.proofs.lemmas.List.{take_all}
use Rattle.prefix_patterns.specs.Matching.{PrefixPattern, matches, matches_any}
use Rattle.prefix_patterns.specs.Trees.{AllAgree, agree, allows, ends_at, hits, is_bit, turns, side}
use Rattle.prefix_patterns.proofs.Agreement.{same_is_agree, agree_more, differ_at, agree_to_end}

hits_is_matches : (prefix : List Bool) (p : PrefixPattern) → matches prefix p ≡ hits prefix p
hits_is_matches prefix p = ap (λ same. same && allows (length prefix) p) (same_is_agree prefix p.bits)

pub any_hits : (prefix : List Bool) (part : List PrefixPattern) → matches_any prefix part ≡ list_any (hits prefix) part
any_hits prefix [] = refl
any_hits prefix (p ∷ part) = let here = hits_is_matches prefix p in let more = any_hits prefix part in cc

pub all_agree_at_first : (prefix : List Bool) (part : List PrefixPattern) → AllAgree 0 prefix part
all_agree_at_first prefix [] = tt
all_agree_at_first prefix (p ∷ part) = (refl, all_agree_at_first prefix part)

-- two tests of which one fails
second_fails : (a b : Bool) → (a && b) ≡ false → a ≡ true → b ≡ false
second_fails true b h e = h
second_fails false b h e = cc

fails_with_second : (a b : Bool) → b ≡ false → (a && b) ≡ false
fails_with_second true b e = e
fails_with_second false b e = refl

-- one of two tests holds, and so does one of the two that follow from them
one_of_both : (a b c d : Bool) → (a || b) ≡ true → (a ≡ true → c ≡ true) → (b ≡ true → d ≡ true) → (c || d) ≡ true
one_of_both true b c d h f g = rw (f refl) refl
one_of_both false b true d h f g = refl
one_of_both false b false d h f g = g h

one_more : (n i : ℕ) → nat_le n i ≡ true → nat_le (suc n) (suc i) ≡ true
one_more n i h = grind (arith, nat_tests)

-- a list that has no item at a place is not longer than that
none_past : {A : Type 0} (xs : List A) (i : ℕ) → slice_get xs i ≡ None → nat_le (length xs) i ≡ true
none_past [] i e = grind (arith, nat_tests)
none_past (x ∷ xs) zero e = cc
none_past (x ∷ xs) (suc i) e = one_more (length xs) i (none_past xs i e)

-- a pattern that ends here and allows the length
ended_hits : (depth : ℕ) (prefix : List Bool) (p : PrefixPattern) → agree (take depth prefix) p.bits ≡ true →
    (ends_at depth p && allows (length prefix) p) ≡ true → hits prefix p ≡ true
ended_hits depth prefix p h own =
    let parts = and_parts (ends_at depth p) (allows (length prefix) p) own in
    and_from _ _ (agree_to_end depth prefix p.bits parts.0 h) parts.1

pub own_hits : (depth : ℕ) (prefix : List Bool) (part : List PrefixPattern) → AllAgree depth prefix part →
    list_any (λ p. ends_at depth p && allows (length prefix) p) part ≡ true → list_any (hits prefix) part ≡ true
own_hits depth prefix [] all own = own
own_hits depth prefix (p ∷ part) all own =
    one_of_both (ends_at depth p && allows (length prefix) p) (list_any (λ q. ends_at depth q && allows (length prefix) q) part) _ _ own
    (λ here. ended_hits depth prefix p all.0 here) (λ later. own_hits depth prefix part all.1 later)

-- a pattern that neither ends here with the length nor goes on by the prefix's bit
lost : (depth : ℕ) (prefix : List Bool) (p : PrefixPattern) (b : Bool) (here : Option Bool) → agree (take depth prefix) p.bits ≡ true →
    slice_get prefix depth ≡ Some b → (ends_at depth p && allows (length prefix) p) ≡ false → slice_get p.bits depth ≡ here →
    is_bit b here ≡ false → hits prefix p ≡ false
lost depth prefix p b None h at own there turn =
    let allowed = second_fails (ends_at depth p) (allows (length prefix) p) own (none_past p.bits depth there) in
    fails_with_second (agree prefix p.bits) (allows (length prefix) p) allowed
lost depth prefix p b (Some c) h at own there turn =
    let other : agree prefix p.bits ≡ false = differ_at depth prefix p.bits b c at there turn in
    rw other refl

-- a pattern that goes on by the bit is kept, and any other cannot match
one_down : (prefix : List Bool) (p : PrefixPattern) (part rest : List PrefixPattern) (turn : Bool) →
    (turn ≡ false → hits prefix p ≡ false) →
    list_any (hits prefix) part ≡ list_any (hits prefix) rest →
    (hits prefix p || list_any (hits prefix) part) ≡ list_any (hits prefix) (cond turn (p ∷ rest) rest)
one_down prefix p part rest true miss more = ap (λ m. hits prefix p || m) more
one_down prefix p part rest false miss more = rw (miss refl) more

pub goes_down : (depth : ℕ) (prefix : List Bool) (b : Bool) (part : List PrefixPattern) → AllAgree depth prefix part →
    slice_get prefix depth ≡ Some b → list_any (λ p. ends_at depth p && allows (length prefix) p) part ≡ false →
    list_any (hits prefix) part ≡ list_any (hits prefix) (side b depth part)
goes_down depth prefix b [] all at own = refl
goes_down depth prefix b (p ∷ part) all at own =
    let parts = or_parts (ends_at depth p && allows (length prefix) p)
    (list_any (λ q. ends_at depth q && allows (length prefix) q) part) own in
    one_down prefix p part (side b depth part) (turns b depth p)
    (λ turn. lost depth prefix p b (slice_get p.bits depth) all.0 at parts.0 refl turn) (goes_down depth prefix b part all.1 at parts.1)

kept : (depth : ℕ) (prefix : List Bool) (p : PrefixPattern) (b : Bool) (here : Option Bool) → agree (take depth prefix) p.bits ≡ true →
    slice_get prefix depth ≡ Some b → slice_get p.bits depth ≡ here → is_bit b here ≡ true → agree (take (depth + 1) prefix) p.bits ≡ true
kept depth prefix p b None h at there turn = cc
kept depth prefix p b (Some c) h at there turn = rw add-one (agree_more depth prefix p.bits b c h at there turn)

one_agrees : (depth : ℕ) (prefix : List Bool) (p : PrefixPattern) (rest : List PrefixPattern) (turn : Bool) →
    (turn ≡ true → agree (take depth prefix) p.bits ≡ true) → AllAgree depth prefix rest → AllAgree depth prefix (cond turn (p ∷ rest) rest)
one_agrees depth prefix p rest true here more = (here refl, more)
one_agrees depth prefix p rest false here more = more

pub all_agree_below : (depth : ℕ) (prefix : List Bool) (b : Bool) (part : List PrefixPattern) → AllAgree depth prefix part →
    slice_get prefix depth ≡ Some b → AllAgree (depth + 1) prefix (side b depth part)
all_agree_below depth prefix b [] all at = tt
all_agree_below depth prefix b (p ∷ part) all at =
    one_agrees (depth + 1) prefix p (side b depth part) (turns b depth p)
    (λ turn. kept depth prefix p b (slice_get p.bits depth) all.0 at refl turn) (all_agree_below depth prefix b part all.1 at)

-- where the prefix ends, each pattern of the part agrees with it
pub below_hits : (depth : ℕ) (prefix : List Bool) (part : List PrefixPattern) → AllAgree depth prefix part → length prefix ≤ depth →
    list_any (hits prefix) part ≡ list_any (allows (length prefix)) part
below_hits depth prefix [] all over = refl
below_hits depth prefix (p ∷ part) all over =
    let agrees : agree prefix p.bits ≡ true = rw (take_all depth prefix over) at all.0 in
    let more = below_hits depth prefix part all.1 over in
    rw (agrees, more) refl
