-- The last filter that got a name.
use Rattle.std.proofs.Common.{◌≡◌, ℕ, suc, ◌+◌, ◌<◌, Bool, true, false, if◌then◌else◌, List, [], ◌∷◌, ◌++◌, length, get_or, take, Option, Some, None}
use Rattle.std.proofs.Common.{refl, sym, ap, ◌∙◌, arith}
use Rattle.std.proofs.lemmas.List.{length-take-le, take_more}
use Rattle.std.specs.Str.{bytes_eq}
use Rattle.domain_cmds.specs.Origins.{OriginView, last_named, last_named_from, later_or}

last_more : (b c : Bool) (n k : ℕ) (rest : Option ℕ)
    → later_or (if b then Some k else rest) (if c then Some n else None) ≡ (if b then Some k else later_or rest (if c then Some n else None))
last_more true c n k rest = refl
last_more false c n k rest = refl

last_from : (n : ℕ) (all : List OriginView) (o : OriginView) (name : List ℕ)
    → last_named_from n (all ++ o ∷ []) name ≡ (if bytes_eq o.name name then Some (n + length all) else last_named_from n all name)
last_from n [] o name =
    let same : n ≡ n + 0 = omega arith in
    ap (λ k. if bytes_eq o.name name then Some k else None) same
last_from n (x ∷ all) o name =
    let same : suc n + length all ≡ n + suc (length all) = omega arith in
    ap (λ place. later_or place (if bytes_eq x.name name then Some n else None)) (last_from (suc n) all o name)
    ∙ last_more (bytes_eq o.name name) (bytes_eq x.name name) n (suc n + length all) (last_named_from (suc n) all name)
    ∙ ap (λ k. if bytes_eq o.name name then Some k else last_named_from n (x ∷ all) name) same

-- the last that got a name, of some filters and one more
pub last_at : (all : List OriginView) (o : OriginView) (name : List ℕ)
    → last_named (all ++ o ∷ []) name ≡ (if bytes_eq o.name name then Some (length all) else last_named all name)
last_at all o name =
    let same : 0 + length all ≡ length all = omega arith in
    last_from 0 all o name ∙ ap (λ k. if bytes_eq o.name name then Some k else last_named all name) same

-- the last that got a name, of those up to a place
pub one_named : (all : List OriginView) (place : ℕ) (o : OriginView) (name : List ℕ) (found : Option ℕ) (t : Bool) → place < length all
    → o ≡ get_or all place o → bytes_eq o.name name ≡ t → found ≡ last_named (take place all) name
    → (if t then Some place else found) ≡ last_named (take (place + 1) all) name
one_named all place o name found t short is test before =
    let long : length (take place all) ≡ place = length-take-le place all (omega (arith, short)) in
    let more : take (place + 1) all ≡ take place all ++ o ∷ [] =
    take_more all place o short ∙ ap (λ (x : OriginView). take place all ++ x ∷ []) (sym is) in
    sym (ap (λ (l : List OriginView). last_named l name) more ∙ last_at (take place all) o name
    ∙ ap (λ (b : Bool). if b then Some (length (take place all)) else last_named (take place all) name) test
    ∙ (λ i. if t then Some (long i) else sym before i))
