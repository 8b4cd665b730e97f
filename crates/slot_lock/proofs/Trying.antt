-- Tries, one after another.
use Rattle.std.proofs.Common.{◌≡◌, ◌∙◌, sym, ap, refl, subst, ℕ, ◌+◌, ◌<◌, None, [], arith}
use Rattle.lock_rule.specs.declared.rule.View.{View}
use Rattle.slot_lock.specs.Trying.{AcquiredAfterTries}
use Rattle.lock_rule.specs.Steps.{Acquired, FoundHeld, Seated}
use Rattle.lock_rule.specs.Views.{shares_of, with_failed_tries}

no_failed_tries : (v : View) → v ≡ with_failed_tries 0 v
no_failed_tries v = let none_more : v.fragment.failed_tries ≡ v.fragment.failed_tries + 0 = omega arith in λ i. record v { fragment = record v.fragment { failed_tries = none_more i } }

pub no_try : (m : Seated) → m.1 ≡ [] → m ≡ (with_failed_tries 0 m.0, [])
no_try m empty = λ i. (no_failed_tries m.0 i, empty i)

one_more_failed_try : (v : View) (n : ℕ) → with_failed_tries 1 (with_failed_tries n v) ≡ with_failed_tries (n + 1) v
one_more_failed_try v n =
    let sum : (v.fragment.failed_tries + n) + 1 ≡ v.fragment.failed_tries + (n + 1) = omega arith in
    λ i. record v { fragment = record v.fragment { failed_tries = sum i } }

pub one_more_try : (first m w : Seated) (n : ℕ) → m ≡ (with_failed_tries n first.0, []) → FoundHeld m w → w ≡ (with_failed_tries (n + 1) first.0, [])
one_more_try first m w n is found =
    let view : w.0 ≡ with_failed_tries (n + 1) first.0 =
    found.view ∙ ap (λ (u : Seated). with_failed_tries 1 u.0) is ∙ one_more_failed_try first.0 n in
    let slots : w.1 ≡ [] = found.slots ∙ ap (λ (u : Seated). u.1) is in
    λ i. (view i, slots i)

-- a seat that may try again
pub may_try : (first m : Seated) (n : ℕ) → m ≡ (with_failed_tries n first.0, []) → first.0.held ≡ None → 0 < shares_of first.0 →
    (m.1 ≡ []) × (m.0.held ≡ None) × (0 < shares_of m.0)
may_try first m n is held some_shares =
    subst (λ (u : Seated). (u.1 ≡ []) × (u.0.held ≡ None) × (0 < shares_of u.0)) (sym is) (refl, held, some_shares)

pub acquired_after_tries : (first m w : Seated) (n : ℕ) → m ≡ (with_failed_tries n first.0, []) → Acquired m w → AcquiredAfterTries first w
acquired_after_tries first m w n is acquired = record { tries = n; acquired = subst (λ (u : Seated). Acquired u w) is acquired }
