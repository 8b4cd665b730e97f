-- What a failure changes, counted by destination.
use Rattle.std.proofs.Common.{◌≡◌, ⊎_elim, ℕ, suc, zero, ◌+◌, ◌==◌, nat_lt, min, Bool, true, false, not, ◌&&◌, cond, if◌then◌else◌, List, refl, sym, ap, ◌∙◌, arith}
use Rattle.std.proofs.lemmas.Bool.{and_left, and_parts, and_right, cases_Bool, eq-eqb, eqb-true, le-ltb, not_from_true}
use Rattle.domain_routes.specs.Still.{lesser_of_two}
use Rattle.domain_routes.specs.declared.best.Best.{Best}
use Rattle.domain_cmds.specs.ByColumn.{changed_to, lost_to, route_effect}
use Rattle.domain_cmds.specs.Failures.{changed_routes, count_below, is_changed, is_lost, is_moved, is_told, lost_routes}
use Rattle.domain_cmds.specs.Failures.{one_if, still_to, still_told, sum_below, told_lesser}
use Rattle.domain_cmds.specs.Texts.{distances, is_same, is_same_via, route_of}
use Rattle.domain_cmds.specs.declared.failure.Failing.{Failing}

-- ---- a route that is the same

module _ (size : ℕ) (what : Failing) (before after : List (List Best)) (u v : ℕ)
    (same : is_same (route_of size after u v) (route_of size before u v) ≡ true) where
  not_changed : is_changed size what before after u v ≡ false
  not_changed =
      and_right (is_told what u && is_told what v) (not (is_same (route_of size after u v) (route_of size before u v)))
      (not_from_true (is_same (route_of size after u v) (route_of size before u v)) same)

  same_distance : (route_of size after u v).dist ≡ (route_of size before u v).dist
  same_distance =
      let parts = and_parts ((route_of size after u v).dist == (route_of size before u v).dist)
      (is_same_via (route_of size after u v).via (route_of size before u v).via) same in
      eqb-true (route_of size after u v).dist (route_of size before u v).dist (parts.0)

  not_lost : is_lost size what before after u v ≡ false
  not_lost =
      let told : Bool = is_told what u && is_told what v in
      let was : Bool = nat_lt (route_of size before u v).dist size in
      let is : Bool = nat_lt (route_of size after u v).dist size in
      ⊎_elim
      (λ (reached : was ≡ true). and_right (told && was) (not is) (not_from_true is (ap (λ d. nat_lt d size) same_distance ∙ reached)))
      (λ (out : was ≡ false). and_left (told && was) (not is) (and_right told was out))
      (cases_Bool was)

  told_or : (b : Bool) (x : ℕ) → x ≡ size → (if b then x else size) ≡ size
  told_or true x is = is
  told_or false x is = refl

  not_moved : told_lesser size what before after v u ≡ size
  not_moved =
      let was : ℕ = distances size before v u in
      let is : ℕ = distances size after v u in
      told_or (is_told what u) (lesser_of_two size was is) (ap (λ t. cond t size (min was is)) (eq-eqb was is (sym same_distance)))

  pub no_effect : route_effect size what before after u v ≡ record { changed = false; lost = false; still = size }
  no_effect = λ i. record { changed = not_changed i; lost = not_lost i; still = not_moved i }

-- ---- by node and by destination the sum is the same

sum_none : (n : ℕ) → sum_below n (λ v. 0) ≡ 0
sum_none zero = refl
sum_none (suc n) = omega (arith, sum_none n)

sum_both : (n : ℕ) (f g : ℕ → ℕ) → sum_below n (λ v. f v + g v) ≡ sum_below n f + sum_below n g
sum_both zero f g = refl
sum_both (suc n) f g = omega (arith, sum_both n f g)

count_sum : (n : ℕ) (test : ℕ → Bool) → count_below n test ≡ sum_below n (λ v. one_if (test v))
count_sum zero test = refl
count_sum (suc n) test = ap (λ k. k + one_if (test n)) (count_sum n test)

sum_turned : (n m : ℕ) (test : ℕ → ℕ → Bool) → sum_below n (λ u. count_below m (test u)) ≡ sum_below m (λ v. count_below n (λ u. test u v))
sum_turned zero m test = sym (sum_none m)
sum_turned (suc n) m test =
    (λ i. sum_turned n m test i + count_sum m (test n) i)
    ∙ sym (sum_both m (λ v. count_below n (λ u. test u v)) (λ v. one_if (test n v)))

-- ---- all destinations

moved_if : (b : Bool) (x size : ℕ) → nat_lt (if b then x else size) size ≡ (b && nat_lt x size)
moved_if true x size = refl
moved_if false x size = le-ltb size size (omega arith)

module _ (size : ℕ) (what : Failing) (before after : List (List Best)) where
  pub moved_at : (v : ℕ) → nat_lt (still_to size what before after v) size ≡ is_moved size what before after v
  moved_at v = moved_if (is_told what v) (still_told size what before after v) size

  pub all_changed : sum_below size (changed_to size what before after) ≡ changed_routes size what before after
  all_changed = sym (sum_turned size size (is_changed size what before after))

  pub all_lost : sum_below size (lost_to size what before after) ≡ lost_routes size what before after
  all_lost = sym (sum_turned size size (is_lost size what before after))
