-- The table of a router at its start keeps the rule.
use Rattle.std.proofs.Common.{◌≡◌, ◌∙◌, sym, ap, refl, subst, ℕ, zero, suc, inl, [], ◌∷◌, arith}
use Rattle.std.proofs.lemmas.Bool.Decides.{nat_tests}
use mathlib.Core.Option.{some, some-injective, some-ne-none}
use lib.ListN.{get_elem?}
use Rattle.atomic_table.specs.Table.{opening}
use Rattle.netchange_core.specs.OpeningView.{OpeningView}
use Rattle.route_history.specs.declared.bounds.Bounds.{Bounds}
use Rattle.route_history.specs.Long.{IsWindow, LongView, window}
use Rattle.route_history.specs.Positions.{once_below}
use Rattle.lock_rule.specs.declared.rule.View.{View}
use Rattle.lock_rule.specs.Views.{first_view}
use Rattle.lock_rule.specs.Rule.{Fits, IsKept, Knows}
use Rattle.lock_rule.proofs.Prefixes.{nothing}
use Rattle.lock_rule.proofs.Splitting.{sees_nothing}

only : (a : View) (k : ℕ) (v : View) → get_elem? (a ∷ []) k ≡ some v → a ≡ v
only a zero v at = some-injective a v at
only a (suc k) v at = absurd (some-ne-none v (sym at))

first_fits : (o : OpeningView) (l : Bounds) → Fits o l [] (first_view o l)
first_fits o l = record {
  fragment = record { begins = nothing []; within = λ x there. absurd (omega arith) };
  incoming = sees_nothing [];
  about = λ _. refl;
  empty = λ none_left. absurd (omega arith);
}

none_below : (x : ℕ) → 0 ≡ once_below x 0
none_below x = grind (arith, nat_tests)

first_window : (j : LongView) → j ≡ window j.tables.opening j.bounds 0 [] → IsWindow j.tables.opening j.bounds [] j
first_window j is = let none_forgotten : j.first ≡ 0 = ap (λ (z : LongView). z.first) is in record {
  is = is ∙ ap (λ (n : ℕ). window j.tables.opening j.bounds n []) (sym none_forgotten);
  opened = refl;
  within = record { below = omega arith; room = omega arith; whole = λ _. none_forgotten };
}

pub first_kept : (j : LongView) → j ≡ window j.tables.opening j.bounds 0 [] →
    IsKept j.tables.opening j.bounds (opening (0 ∷ []) (j ∷ []) (first_view j.tables.opening j.bounds))
first_kept j is = let o = j.tables.opening in let l = j.bounds in record {
  log = [];
  first = 0;
  lock = inl (record {
    words = refl;
    journal = j;
    first_is = ap (λ (z : LongView). z.first) is;
    homes = refl;
    window = first_window j is;
    none_holds = λ k v at. ap (λ (z : View). z.held) (sym (only (first_view o l) k v at));
  });
  legal = tt;
  known = record {
    fits = λ k v at. subst (λ (z : View). Fits o l [] z) (only (first_view o l) k v at) (first_fits o l);
    shares = refl;
    once = λ x. none_below x;
  };
  forgot = λ k v at. subst (λ (z : View). Knows 0 z) (only (first_view o l) k v at) (omega arith, omega arith, λ has. omega arith);
  right = omega arith;
}
