-- The longest front and the longest end of some characters that take at most so many columns.
use Rattle.std.proofs.Common.{◌≡◌, ℕ, zero, suc, ◌+◌, ◌-◌, ◌*◌, ◌<◌, ◌≤◌, Bool, true, false, List, [], ◌∷◌}
use Rattle.std.proofs.Common.{◌++◌, length, take, drop, get_or, nat_lt, refl, sym, ap, subst, ◌∙◌, arith}
use Rattle.std.proofs.lemmas.Bool.{lt-ltb, le-ltb, ltb-true, ltb-false}
use Rattle.std.proofs.lemmas.List.Sums.{sum_by-append, sum_by-cons, sum_by-drop_more, sum_by-take-drop}
use Rattle.std.specs.Prelude.{if◌then◌else◌, codes}
use Rattle.refusal_words.specs.Explanations.{dots_for, end_within, first_of, front_within, is_long, last_of, side}
use Rattle.refusal_words.specs.Shown.{columns, columns_of}

columns-cons : (c : ℕ) (cs : List ℕ) → columns (c ∷ cs) ≡ columns_of c + columns cs
columns-cons = sum_by-cons columns_of

-- the first character alone takes too many columns, or there is room for it
front_stops : (most c : ℕ) (cs : List ℕ) → most < columns_of c → front_within most (c ∷ cs) ≡ []
front_stops most c cs over = ap (λ (b : Bool). if b then [] else c ∷ front_within (most - columns_of c) cs) (lt-ltb most (columns_of c) over)

front_goes : (most c : ℕ) (cs : List ℕ) → columns_of c ≤ most → front_within most (c ∷ cs) ≡ c ∷ front_within (most - columns_of c) cs
front_goes most c cs fits = ap (λ (b : Bool). if b then [] else c ∷ front_within (most - columns_of c) cs) (le-ltb most (columns_of c) fits)

-- a front that fits, which one more character would not
pub front_is : (most i d : ℕ) (cs : List ℕ) → columns (take i cs) ≤ most
    → (i < length cs → most < columns (take i cs) + columns_of (get_or cs i d)) → front_within most cs ≡ take i cs
front_is most zero d [] fits over = refl
front_is most (suc i) d [] fits over = refl
front_is most zero d (c ∷ cs) fits over = let more = over (omega arith) in front_stops most c cs (omega (arith, more))
front_is most (suc i) d (c ∷ cs) fits over =
    let here = columns-cons c (take i cs) in
    front_goes most c cs (omega (arith, fits, here))
    ∙ ap (λ (ks : List ℕ). c ∷ ks) (front_is (most - columns_of c) i d cs (omega (arith, fits, here))
    (λ inside. let more = over (omega (arith, inside)) in omega (arith, more, fits, here)))

-- no longer front fits
pub front_is_longest : (most : ℕ) (front rest : List ℕ) → columns front ≤ most → (more : List ℕ) × (front_within most (front ++ rest) ≡ front ++ more)
front_is_longest most [] rest fits = (front_within most rest, refl)
front_is_longest most (c ∷ front) rest fits =
    let here = columns-cons c front in
    let more = front_is_longest (most - columns_of c) front rest (omega (arith, fits, here)) in
    (more.0, front_goes most c (front ++ rest) (omega (arith, fits, here)) ∙ ap (λ (ks : List ℕ). c ∷ ks) more.1)

-- the end from the first character on fits, or it does not
end_stops : (most : ℕ) (cs : List ℕ) → columns cs ≤ most → end_within most cs ≡ cs
end_stops most [] fits = refl
end_stops most (c ∷ cs) fits = ap (λ (b : Bool). if b then end_within most cs else c ∷ cs) (le-ltb most (columns (c ∷ cs)) fits)

end_goes : (most c : ℕ) (cs : List ℕ) → most < columns (c ∷ cs) → end_within most (c ∷ cs) ≡ end_within most cs
end_goes most c cs over = ap (λ (b : Bool). if b then end_within most cs else c ∷ cs) (lt-ltb most (columns (c ∷ cs)) over)

pub end_is_whole : (most n : ℕ) (cs : List ℕ) → n ≤ 0 → columns (drop n cs) ≤ most → end_within most cs ≡ cs
end_is_whole most zero cs first fits = end_stops most cs fits
end_is_whole most (suc n) cs first fits = absurd (omega (arith, first))

-- an end that fits, which one more character would not
end_behind : (most i : ℕ) (cs : List ℕ) → i < length cs → columns (drop (suc i) cs) ≤ most → most < columns (drop i cs)
    → end_within most cs ≡ drop (suc i) cs
end_behind most i [] inside fits over = absurd (omega (arith, inside))
end_behind most zero (c ∷ cs) inside fits over = end_goes most c cs over ∙ end_stops most cs fits
end_behind most (suc i) (c ∷ cs) inside fits over =
    let here = columns-cons c cs in
    let parts = sum_by-take-drop columns_of cs i in
    end_goes most c cs (omega (arith, over, here, parts)) ∙ end_behind most i cs (omega (arith, inside)) fits over

pub columns_before : (cs : List ℕ) (n d : ℕ) → 0 < n → n ≤ length cs → columns (drop (n - 1) cs) ≡ columns_of (get_or cs (n - 1) d) + columns (drop n cs)
columns_before cs n d some within =
    let on : n - 1 + 1 ≡ n = omega (arith, some) in
    sum_by-drop_more columns_of cs (n - 1) d (omega (arith, some, within))
    ∙ ap (λ (k : ℕ). columns_of (get_or cs (n - 1) d) + columns (drop k cs)) on

pub end_is : (most n d : ℕ) (cs : List ℕ) → 0 < n → n ≤ length cs → columns (drop n cs) ≤ most
    → most < columns_of (get_or cs (n - 1) d) + columns (drop n cs) → end_within most cs ≡ drop n cs
end_is most zero d cs some within fits over = absurd (omega (arith, some))
end_is most (suc i) d cs some within fits over =
    let before = columns_before cs (suc i) d some within in
    let one_less : suc i - 1 ≡ i = omega arith in
    let here = ap (λ (k : ℕ). columns (drop k cs)) one_less in
    end_behind most i cs (omega (arith, within)) fits (omega (arith, over, before, here))

-- all characters are in the front if and only if they fit
front_by_room : (most c : ℕ) (cs : List ℕ) (b : Bool) → nat_lt most (columns_of c) ≡ b
    → (columns_of c ≤ most → most - columns_of c < columns cs → length (front_within (most - columns_of c) cs) < length cs)
    → most < columns (c ∷ cs) → length (front_within most (c ∷ cs)) < length (c ∷ cs)
front_by_room most c cs true e rest over =
    let none = ap (λ (ks : List ℕ). length ks) (front_stops most c cs (ltb-true most (columns_of c) e)) in omega (arith, none)
front_by_room most c cs false e rest over =
    let room = ltb-false most (columns_of c) e in
    let here = columns-cons c cs in
    let more = rest room (omega (arith, over, here, room)) in
    let some = ap (λ (ks : List ℕ). length ks) (front_goes most c cs room) in omega (arith, some, more)

front_is_shorter : (most : ℕ) (cs : List ℕ) → most < columns cs → length (front_within most cs) < length cs
front_is_shorter most [] over = absurd (omega (arith, over))
front_is_shorter most (c ∷ cs) over =
    front_by_room most c cs (nat_lt most (columns_of c)) refl (λ room less. front_is_shorter (most - columns_of c) cs less) over

front_is_whole : (most : ℕ) (cs : List ℕ) → columns cs ≤ most → front_within most cs ≡ cs
front_is_whole most [] fits = refl
front_is_whole most (c ∷ cs) fits =
    let here = columns-cons c cs in
    front_goes most c cs (omega (arith, fits, here)) ∙ ap (λ (ks : List ℕ). c ∷ ks) (front_is_whole (most - columns_of c) cs (omega (arith, fits, here)))

pub shorter_is_long : (most : ℕ) (cs : List ℕ) (b : Bool) → nat_lt most (columns cs) ≡ b → nat_lt (length (front_within most cs)) (length cs) ≡ b
shorter_is_long most cs true e = lt-ltb _ _ (front_is_shorter most cs (ltb-true most (columns cs) e))
shorter_is_long most cs false e =
    let whole = ap (λ (ks : List ℕ). length ks) (front_is_whole most cs (ltb-false most (columns cs) e)) in le-ltb _ _ (omega (arith, whole))

-- the columns that are kept
front_columns_by : (most c : ℕ) (cs : List ℕ) (b : Bool) → nat_lt most (columns_of c) ≡ b
    → columns (front_within (most - columns_of c) cs) ≤ most - columns_of c → columns (front_within most (c ∷ cs)) ≤ most
front_columns_by most c cs true e rest = subst (λ (ks : List ℕ). columns ks ≤ most) (sym (front_stops most c cs (ltb-true most (columns_of c) e))) (omega arith)
front_columns_by most c cs false e rest =
    let room = ltb-false most (columns_of c) e in
    let here = columns-cons c (front_within (most - columns_of c) cs) in
    subst (λ (ks : List ℕ). columns ks ≤ most) (sym (front_goes most c cs room)) (omega (arith, room, here, rest))

front_columns : (most : ℕ) (cs : List ℕ) → columns (front_within most cs) ≤ most
front_columns most [] = omega arith
front_columns most (c ∷ cs) = front_columns_by most c cs (nat_lt most (columns_of c)) refl (front_columns (most - columns_of c) cs)

end_columns_by : (most c : ℕ) (cs : List ℕ) (b : Bool) → nat_lt most (columns (c ∷ cs)) ≡ b
    → columns (end_within most cs) ≤ most → columns (end_within most (c ∷ cs)) ≤ most
end_columns_by most c cs true e rest = subst (λ (ks : List ℕ). columns ks ≤ most) (sym (end_goes most c cs (ltb-true most (columns (c ∷ cs)) e))) rest
end_columns_by most c cs false e rest =
    let fits = ltb-false most (columns (c ∷ cs)) e in
    subst (λ (ks : List ℕ). columns ks ≤ most) (sym (end_stops most (c ∷ cs) fits)) fits

end_columns : (most : ℕ) (cs : List ℕ) → columns (end_within most cs) ≤ most
end_columns most [] = omega arith
end_columns most (c ∷ cs) = end_columns_by most c cs (nat_lt most (columns (c ∷ cs))) refl (end_columns most cs)

-- one side, whose characters are kept so
side_columns : (cs kept : List ℕ) (b : Bool) → nat_lt side (columns cs) ≡ b → columns kept ≤ 97
    → length (if b then codes "..." else []) + columns (if b then kept else cs) ≤ side
side_columns cs kept true e fits = omega (arith, fits)
side_columns cs kept false e fits = let all = ltb-false side (columns cs) e in omega (arith, all)

pub excerpt_columns : (before behind : List ℕ)
    → length (dots_for before) + columns (last_of before ++ first_of behind) + length (dots_for behind) ≤ 2 * side
excerpt_columns before behind =
    let left = side_columns before (end_within 97 before) (is_long before) refl (end_columns 97 before) in
    let right = side_columns behind (front_within 97 behind) (is_long behind) refl (front_columns 97 behind) in
    let both = sum_by-append columns_of (last_of before) (first_of behind) in
    omega (arith, left, right, both)
