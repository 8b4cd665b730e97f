-- Two descriptions of a router are equal in one way at most, and a pass is of a router in one way at most: so a struct may keep such facts.
use Rattle.std.specs.Prelude.{◌≡◌, refl, ℕ, Bool, List, Option, Some}
use Rattle.std.specs.Coded.{Coded, Coded-set, code_by, coded×, coded_ℕ, coded_bool, coded_list, coded_option}
use Rattle.atomic_table.specs.Seated.{table_id_coded, TableId}
use Rattle.netchange_core.specs.OpeningView.{OpeningView}
use Rattle.route_history.specs.declared.bounds.Bounds.{Bounds}
use Rattle.slot_lock.specs.Passes.{IsPassOf, PassView, RouterView, bounds_of}

abbrev opening_coded : Coded OpeningView
opening_coded = code_by (ℕ × (ℕ × List (List Bool))) (coded× coded_ℕ (coded× coded_ℕ (coded_list (coded_list coded_bool))))
    (λ o. (o.size, (o.me, o.prefixes))) (λ t. record { size = t.0; me = t.1.0; prefixes = t.1.1 }) (λ _. refl)

abbrev bounds_coded : Coded Bounds
bounds_coded = code_by (ℕ × Bool) (coded× coded_ℕ coded_bool) (λ b. (b.limit, b.endless)) (λ t. record { limit = t.0; endless = t.1 }) (λ _. refl)

abbrev router_coded : Coded RouterView
router_coded = code_by (TableId × (OpeningView × Bounds)) (coded× table_id_coded (coded× opening_coded bounds_coded))
    (λ r. (r.table, (r.opening, bounds_of r))) (λ t. record { table = t.0; opening = t.1.0; limit = t.1.1.limit; endless = t.1.1.endless }) (λ _. refl)

pub RouterView-set : (a b : RouterView) → IsProp (a ≡ b)
RouterView-set = Coded-set router_coded

table_prop : (a b : TableId) → IsProp (a ≡ b)
table_prop = Coded-set table_id_coded

about_prop : (a b : Option (OpeningView × Bounds)) → IsProp (a ≡ b)
about_prop = Coded-set (coded_option (coded× opening_coded bounds_coded))

pub IsPassOf-prop : (r : RouterView) (p : PassView) → IsProp (IsPassOf r p)
IsPassOf-prop r p x y = λ i. record {
  table = table_prop p.table r.table x.table y.table i;
  about = about_prop p.about (Some (r.opening, bounds_of r)) x.about y.about i;
}
