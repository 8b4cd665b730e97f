-- Laws of the numbers and the declarations of variables.
use Rattle.std.proofs.Common.{◌≡◌, ◌≢◌, ℕ, zero, suc, ◌+◌, ◌<◌, ◌≤◌, true, false, Some, None, List}
use Rattle.std.proofs.Common.{[], ◌∷◌, ◌++◌, length, map, take, get_or, refl, sym, ap, subst, ◌∙◌, arith}
use Rattle.std.specs.Prelude.{Contains, slice_get}
use Rattle.std.specs.Option.{option_map}
use Rattle.std.specs.Str.{bytes_eq}
use Rattle.std.proofs.lemmas.List.{get_or-map, get_or-take, length-map, length-take-le, take-map}
use Rattle.std.proofs.lemmas.List.Folds.{find_at}
use Rattle.std.proofs.lemmas.List.Quantifiers.{all_pairs_push}
use Rattle.std.proofs.lemmas.List.Sums.{fails_before_first, passes_at_first}
use Rattle.std.proofs.lemmas.Option.{slice_get-map, slice_get_past, slice_get_read}
use Rattle.std.proofs.lemmas.Slice.Eq.{bytes_eq-Decides}
use Rattle.filter_syntax.specs.SyntaxCommands.{DeclView, view_decl}
use Rattle.filter_syntax.specs.declared.tree.decl.Decl.{Decl}
use Rattle.filter_types.specs.Kinds.{AreDeclaredOnce, kind_named, number_of}
use Rattle.filter_types.proofs.Lists.{map_next}

-- the variable at i has the name, and none before it
pub number_at : (vs : List Decl) (text : List ℕ) (i : ℕ) (v : Decl) → i < length vs → v ≡ get_or vs i v
    → ((k : ℕ) (d : Decl) → k < i → bytes_eq (get_or vs k d).name.items text ≡ false)
    → bytes_eq v.name.items text ≡ true → i ≡ number_of (map view_decl vs) text
number_at [] text i v low is before here = absurd (omega arith)
number_at (w ∷ vs) text zero v low is before here =
    let e : bytes_eq w.name.items text ≡ true = ap (λ (x : Decl). bytes_eq x.name.items text) (sym is) ∙ here in
    rw e refl
number_at (w ∷ vs) text (suc i) v low is before here =
    let e : bytes_eq w.name.items text ≡ false = before 0 w (omega arith) in
    let f : i ≡ number_of (map view_decl vs) text =
    number_at vs text i v (omega arith) is (λ k d lt. before (suc k) d (omega arith)) here in
    rw e (omega (arith, f))

-- none of the variables has the name
pub number_none : (vs : List Decl) (text : List ℕ)
    → ((k : ℕ) (d : Decl) → k < length vs → bytes_eq (get_or vs k d).name.items text ≡ false)
    → length vs ≡ number_of (map view_decl vs) text
number_none [] text none = refl
number_none (v ∷ vs) text none =
    let e : bytes_eq v.name.items text ≡ false = none 0 v (omega arith) in
    let f : length vs ≡ number_of (map view_decl vs) text = number_none vs text (λ k d low. none (suc k) d (omega arith)) in
    rw e (omega (arith, f))

-- the kind of a name is that of the variable with its number
kind_at : (vs : List Decl) (text : List ℕ) (n : ℕ) → n ≡ number_of (map view_decl vs) text
    → kind_named (map view_decl vs) text ≡ option_map (λ (d : DeclView). d.kind) (option_map view_decl (slice_get vs n))
kind_at vs text n is =
    ap (option_map (λ (d : DeclView). d.kind)) (find_at (λ (d : DeclView). bytes_eq d.name text) (map view_decl vs)
    ∙ ap (slice_get (map view_decl vs)) (sym is) ∙ slice_get-map view_decl vs n)

-- a name whose number is no variable's has no kind
pub unknown_kind : (vs : List Decl) (text : List ℕ) (n : ℕ) → n ≡ number_of (map view_decl vs) text → length vs ≤ n
    → kind_named (map view_decl vs) text ≡ None
unknown_kind vs text n is high =
    kind_at vs text n is ∙ ap (λ o. option_map (λ (d : DeclView). d.kind) (option_map view_decl o)) (slice_get_past vs n high)

-- a name whose number is a variable's has its kind
pub known_kind : (vs : List Decl) (text : List ℕ) (n : ℕ) (v : Decl) → n ≡ number_of (map view_decl vs) text → n < length vs
    → v ≡ get_or vs n v → kind_named (map view_decl vs) text ≡ Some v.kind
known_kind vs text n v is low at =
    kind_at vs text n is
    ∙ ap (λ o. option_map (λ (d : DeclView). d.kind) (option_map view_decl o)) (slice_get_read vs (length vs) n v refl low at)

-- one more variable with a name that none before it has
pub once_next : (vs : List Decl) (i : ℕ) (v : Decl) → i < length vs → v ≡ get_or vs i v
    → AreDeclaredOnce (map view_decl (take i vs)) → i ≤ number_of (map view_decl (take i vs)) v.name.items
    → AreDeclaredOnce (map view_decl (take (i + 1) vs))
once_next vs i v low is before high =
    let front : List DeclView = map view_decl (take i vs) in
    let len : length front ≡ i = length-map (take i vs) view_decl ∙ length-take-le i vs (omega arith) in
    let all : AreDeclaredOnce (front ++ view_decl v ∷ []) =
    all_pairs_push (λ c d. c.name ≢ d.name) front (view_decl v) before
    (λ k d lt same.
    let below : k < number_of front v.name.items = omega (arith, len, high) in
    let f : bytes_eq (get_or front k d).name v.name.items ≡ false =
    fails_before_first (λ (x : DeclView). bytes_eq x.name v.name.items) front k d below in
    let t : bytes_eq (get_or front k d).name v.name.items ≡ true = (bytes_eq-Decides _ _).1 same in cc) in
    subst AreDeclaredOnce (sym (map_next view_decl vs i v low is)) all

-- a variable with a name that one before it has
pub twice : (vs : List Decl) (i : ℕ) (v : Decl) → i < length vs → v ≡ get_or vs i v
    → number_of (map view_decl (take i vs)) v.name.items < i → AreDeclaredOnce (map view_decl vs) → ⊥
twice vs i v low is below once =
    let front : List DeclView = map view_decl (take i vs) in
    let n : ℕ = number_of front v.name.items in
    let d : DeclView = view_decl v in
    let len : length front ≡ i = length-map (take i vs) view_decl ∙ length-take-le i vs (omega arith) in
    let within : n < length front = omega (arith, len, below) in
    let t : bytes_eq (get_or front n d).name v.name.items ≡ true =
    passes_at_first (λ (x : DeclView). bytes_eq x.name v.name.items) front d within in
    let same : (get_or front n d).name ≡ v.name.items = (bytes_eq-Decides _ _).0 t in
    let early : get_or (map view_decl vs) n d ≡ get_or front n d =
    sym (get_or-take i (map view_decl vs) n d below) ∙ ap (λ l. get_or l n d) (take-map view_decl i vs) in
    let here : get_or (map view_decl vs) i d ≡ d = get_or-map view_decl vs i v d low ∙ ap view_decl (sym is) in
    let fits : i < length (map view_decl vs) = omega (arith, length-map vs view_decl, low) in
    once n i d below fits (ap (λ (x : DeclView). x.name) early ∙ same ∙ sym (ap (λ (x : DeclView). x.name) here))

-- a name whose number is that of a variable is the name of one
pub earlier : (xs : List Decl) (v : Decl) → number_of (map view_decl xs) v.name.items < length xs
    → Contains (map (λ d. d.name.items) xs) v.name.items
earlier xs v low =
    let front : List DeclView = map view_decl xs in
    let n : ℕ = number_of front v.name.items in
    let within : n < length front = omega (arith, length-map xs view_decl, low) in
    let t : bytes_eq (get_or front n (view_decl v)).name v.name.items ≡ true =
    passes_at_first (λ (x : DeclView). bytes_eq x.name v.name.items) front (view_decl v) within in
    let same : (get_or front n (view_decl v)).name ≡ v.name.items = (bytes_eq-Decides _ _).0 t in
    let there : (get_or xs n v).name.items ≡ v.name.items =
    ap (λ (x : DeclView). x.name) (sym (get_or-map view_decl xs n v (view_decl v) low)) ∙ same in
    (n, omega (arith, low, length-map xs (λ (d : Decl). d.name.items)), get_or-map (λ (d : Decl). d.name.items) xs n v v.name.items low ∙ there)
