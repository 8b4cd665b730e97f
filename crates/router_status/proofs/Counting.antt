-- One node more is counted, or not.
use Rattle.std.proofs.Common.{◌≡◌, ◌∙◌, ℕ, ◌+◌, Bool, true, false, ap, arith, refl, sym}
use Rattle.std.proofs.Math.Numerals.{add-one}
use Rattle.std.specs.Prelude.{if◌then◌else◌}
use Rattle.router_status.specs.Status.{count_below}

pub none_counted : (holds : ℕ → Bool) → 0 ≡ count_below 0 holds
unfolding count_below
none_counted holds = refl

counted_by : (holds : ℕ → Bool) (n count : ℕ) → count ≡ count_below n holds → count + (if holds n then 1 else 0) ≡ count_below (n + 1) holds
unfolding count_below
counted_by holds n count before =
    ap (λ (k : ℕ). k + (if holds n then 1 else 0)) before ∙ ap (λ (k : ℕ). count_below k holds) (sym (add-one n))

-- this one is counted
pub one_counted : (holds : ℕ → Bool) (n count : ℕ) → count ≡ count_below n holds → holds n ≡ true → count + 1 ≡ count_below (n + 1) holds
one_counted holds n count before it = ap (λ (b : Bool). count + (if b then 1 else 0)) (sym it) ∙ counted_by holds n count before

-- this one is not
pub other_counted : (holds : ℕ → Bool) (n count : ℕ) → count ≡ count_below n holds → holds n ≡ false → count ≡ count_below (n + 1) holds
other_counted holds n count before it =
    let same : count ≡ count + 0 = omega arith in
    same ∙ ap (λ (b : Bool). count + (if b then 1 else 0)) (sym it) ∙ counted_by holds n count before
