-- A list of values that grows beside the list of what they say.
use Rattle.std.proofs.Common.{◌≡◌, ◌∙◌, ℕ, ◌+◌, ◌<◌, ◌≤◌, List, [], ◌∷◌, ◌++◌, Global, Vec, add-one, ap, get_or, length, map, sym, take, take_all}
use Rattle.std.proofs.Math.Seq.{take-suc}
use Rattle.std.proofs.lemmas.List.{map-append}
use Rattle.std.proofs.lemmas.Simd.{map-map}
use Rattle.serde_json.specs.Data.{Data, array}
use Rattle.serde_json.specs.View.{items_of, view}
use Rattle.serde_json.specs.declared.value.Value.{Array, Value}
use Rattle.serde_json.proofs.Views.{view-Array}
use Rattle.domain_reports.specs.Reports.{list_data}

-- one value more says the next one
pub one_more : {X : Type 0} (said : X → Data) (xs : List X) (i : ℕ) (d : X) (before after : List Value) (value : Value) → i < length xs
    → after ≡ before ++ value ∷ [] → map view before ≡ map said (take i xs) → view value ≡ said (get_or xs i d)
    → map view after ≡ map said (take (i + 1) xs)
one_more said xs i d before after value inside grown so_far says =
    ap (λ (values : List Value). map view values) grown
    ∙ map-append view before (value ∷ [])
    ∙ ap (λ (one : Data). map view before ++ one ∷ []) says
    ∙ ap (λ (all : List Data). all ++ said (get_or xs i d) ∷ []) so_far
    ∙ sym (map-append said (take i xs) (get_or xs i d ∷ []))
    ∙ ap (map said) (rw add-one (sym (take-suc xs i d inside)))

-- all of them say all
pub all_said : {X : Type 0} (said : X → Data) (xs : List X) (i : ℕ) (list : Vec Value Global) → length xs ≤ i
    → map view list.items ≡ map said (take i xs) → view (Array list) ≡ list_data said xs
all_said said xs i list past so_far =
    view-Array list ∙ ap (λ (all : List Data). array (items_of all)) (so_far ∙ ap (map said) (take_all i xs past))

-- the same of what is said of something that each shows
pub one_more_shown : {X Y : Type 0} (said : Y → Data) (shown : X → Y) (xs : List X) (i : ℕ) (x : X) (before after : List Value) (value : Value)
    → i < length xs → x ≡ get_or xs i x → after ≡ before ++ value ∷ [] → map view before ≡ map said (map shown (take i xs))
    → view value ≡ said (shown x) → map view after ≡ map said (map shown (take (i + 1) xs))
one_more_shown said shown xs i x before after value inside is grown so_far says =
    one_more (λ y. said (shown y)) xs i x before after value inside grown (so_far ∙ map-map said shown (take i xs))
    (says ∙ ap (λ y. said (shown y)) is)
    ∙ sym (map-map said shown (take (i + 1) xs))

pub all_shown : {X Y : Type 0} (said : Y → Data) (shown : X → Y) (xs : List X) (i : ℕ) (list : Vec Value Global) → length xs ≤ i
    → map view list.items ≡ map said (map shown (take i xs)) → view (Array list) ≡ list_data said (map shown xs)
all_shown said shown xs i list past so_far =
    view-Array list ∙ ap (λ (all : List Data). array (items_of all)) (so_far ∙ ap (λ ys. map said (map shown ys)) (take_all i xs past))
