-- One value more.
use Rattle.std.proofs.Common.{◌≡◌, ◌∙◌, ℕ, ◌+◌, List, [], ◌∷◌, ◌++◌, ap, map, sym}
use Rattle.std.proofs.lemmas.List.{map-append}
use Rattle.std.proofs.Math.Numerals.{add-one}
use Rattle.serde_json.specs.Data.{Data}
use Rattle.serde_json.specs.View.{view}
use Rattle.serde_json.specs.declared.value.Value.{Value}
use Rattle.router_status.specs.Objects.{below}

pub none_below : (data_of : ℕ → Data) (values : List Value) → values ≡ [] → map view values ≡ below 0 data_of
unfolding below
none_below data_of values e = ap (λ (vs : List Value). map view vs) e

pub one_more : (data_of : ℕ → Data) (n : ℕ) (values after : List Value) (value : Value) → after ≡ values ++ value ∷ [] →
    map view values ≡ below n data_of → view value ≡ data_of n → map view after ≡ below (n + 1) data_of
unfolding below
one_more data_of n values after value e before is =
    ap (λ (vs : List Value). map view vs) e
    ∙ map-append view values (value ∷ [])
    ∙ ap (λ (ds : List Data). ds ++ view value ∷ []) before
    ∙ ap (λ (d : Data). below n data_of ++ d ∷ []) is
    ∙ ap (λ (k : ℕ). below k data_of) (sym (add-one n))
