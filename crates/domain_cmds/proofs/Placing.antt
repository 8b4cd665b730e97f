-- The places of filters that are used.
use Rattle.std.proofs.Common.{◌≡◌, ℕ, suc, ◌<◌, ◌==◌, ◌&&◌, Bool, true, false, if◌then◌else◌, List, [], ◌∷◌, ◌++◌, All, take, drop, length}
use Rattle.std.proofs.Common.{get_or, slice_set, Option, Some, refl, sym, ap, ◌∙◌, drop-cons, take-append-drop, true-eqb}
use Rattle.std.proofs.lemmas.Bool.{and_parts}
use Rattle.std.proofs.lemmas.List.{append-nil, set_split}
use Rattle.std.proofs.lemmas.List.Elements.{All-head, All-tail}
use Rattle.operator_cmds.specs.declared.event.Direction.{Direction}
use Rattle.operator_cmds.specs.declared.event.Direction.TheVariants.{Export, Import}
use Rattle.domain_cmds.specs.Origins.{PutsUse, is_same_way, is_use_of, used_in}
use Rattle.domain_cmds.specs.declared.origins.Use.{Use}

one_way : (a b : Direction) → is_same_way a b ≡ true → a ≡ b
one_way Import Import e = refl
one_way Export Export e = refl
one_way Import Export e = absurd (let no : false ≡ true = e in cc)
one_way Export Import e = absurd (let no : false ≡ true = e in cc)

-- what is used there
parts : (way : Direction) (u w : ℕ) (known : Use) → is_use_of way u w known ≡ true → (known.direction ≡ way) × (known.u ≡ u) × (known.w ≡ w)
parts way u w known e =
    let both = and_parts (is_same_way known.direction way && known.u == u) (known.w == w) e in
    let front = and_parts (is_same_way known.direction way) (known.u == u) both.0 in
    (one_way known.direction way front.0, true-eqb known.u u (sym front.1), true-eqb known.w w (sym both.1))

-- what is used where another is used is used wherever the other is
alike : (a b : Use) → is_use_of a.direction a.u a.w b ≡ true → (way : Direction) (u w : ℕ) → is_use_of way u w b ≡ is_use_of way u w a
alike a b e way u w =
    let same = parts a.direction a.u a.w b e in
    (λ i. is_same_way (same.0 i) way && same.1 i == u && same.2 i == w)

chosen : (t : Bool) (place : ℕ) (x y : Option ℕ) → (if t then Some place else x) ≡ (if t then Some place else (if t then y else x))
chosen true place x y = refl
chosen false place x y = refl

-- the first that is used there has another in its place
first_put : (added known : Use) (behind : List Use) → is_use_of added.direction added.u added.w known ≡ true → PutsUse added (known ∷ behind) (added ∷ behind)
first_put added known behind e way u w =
    chosen (is_use_of way u w added) added.place (used_in behind way u w) (Some known.place)
    ∙ ap (λ (t : Bool). if is_use_of way u w added then Some added.place else (if t then Some known.place else used_in behind way u w))
    (sym (alike added known e way u w))

skipped : (t b : Bool) (place there : ℕ) (x y : Option ℕ) → (t ≡ true → b ≡ false) → x ≡ (if t then Some place else y)
    → (if b then Some there else x) ≡ (if t then Some place else (if b then Some there else y))
skipped true true place there x y apart e = absurd (let no : true ≡ false = apart refl in cc)
skipped true false place there x y apart e = e
skipped false true place there x y apart e = refl
skipped false false place there x y apart e = e

-- behind one that is used elsewhere
behind_one : (added other : Use) (old new : List Use) → is_use_of added.direction added.u added.w other ≡ false → PutsUse added old new
    → PutsUse added (other ∷ old) (other ∷ new)
behind_one added other old new apart puts way u w =
    skipped (is_use_of way u w added) (is_use_of way u w other) added.place other.place (used_in new way u w) (used_in old way u w)
    (λ here. let same = parts way u w added here in
    (λ i. is_use_of (sym same.0 i) (sym same.1 i) (sym same.2 i) other) ∙ apart)
    (puts way u w)

behind_all : (added : Use) (front old new : List Use) → All (λ k. is_use_of added.direction added.u added.w k ≡ false) front → PutsUse added old new
    → PutsUse added (front ++ old) (front ++ new)
behind_all added [] old new h puts = puts
behind_all added (k ∷ front) old new h puts =
    behind_one added k (front ++ old) (front ++ new) (All-head (λ k. is_use_of added.direction added.u added.w k ≡ false) k front h)
    (behind_all added front old new (All-tail (λ k. is_use_of added.direction added.u added.w k ≡ false) k front h) puts)

same_puts : (added : Use) (old new was now : List Use) → old ≡ was → new ≡ now → PutsUse added was now → PutsUse added old new
same_puts added old new was now e f puts way u w =
    ap (λ (l : List Use). used_in l way u w) f ∙ puts way u w
    ∙ ap (λ (l : List Use). if is_use_of way u w added then Some added.place else used_in l way u w) (sym e)

-- the first of a list that is used there
pub put_at : (added : Use) (uses new : List Use) (it : ℕ) → it < length uses → is_use_of added.direction added.u added.w (get_or uses it added) ≡ true
    → All (λ k. is_use_of added.direction added.u added.w k ≡ false) (take it uses) → new ≡ slice_set uses it added → PutsUse added uses new
put_at added uses new it short here before is =
    same_puts added uses new (take it uses ++ get_or uses it added ∷ drop (suc it) uses) (take it uses ++ added ∷ drop (suc it) uses)
    (sym (take-append-drop it uses) ∙ ap (λ (l : List Use). take it uses ++ l) (drop-cons uses it added short))
    (is ∙ set_split uses it added short)
    (behind_all added (take it uses) (get_or uses it added ∷ drop (suc it) uses) (added ∷ drop (suc it) uses) before
    (first_put added (get_or uses it added) (drop (suc it) uses) here))

nothing_there : (added : Use) → PutsUse added [] (added ∷ [])
nothing_there added way u w = refl

-- none is used there
pub put_behind : (added : Use) (uses new : List Use) → All (λ k. is_use_of added.direction added.u added.w k ≡ false) uses → new ≡ uses ++ added ∷ []
    → PutsUse added uses new
put_behind added uses new before is =
    same_puts added uses new (uses ++ []) (uses ++ added ∷ []) (sym (append-nil uses)) is
    (behind_all added uses [] (added ∷ []) before (nothing_there added))
