-- What stands before the data of a page, two elements, and what stands behind them, one behind the other.
use Rattle.std.proofs.Common.{◌≡◌, ◌∙◌, ℕ, ◌++◌, List, OnOk, Result, Ok, Err, ap, append_assoc}
use Rattle.std.specs.Bool.{if◌then◌else◌}
use Rattle.std.specs.Result.{is_ok}

regrouped : (old head one two tail : List ℕ) → (((old ++ head) ++ one) ++ two) ++ tail ≡ old ++ (((head ++ one) ++ two) ++ tail)
regrouped old head one two tail =
    ap (λ (l : List ℕ). (l ++ two) ++ tail) (append_assoc old head one)
    ∙ ap (λ (l : List ℕ). l ++ tail) (append_assoc old (head ++ one) two)
    ∙ append_assoc old ((head ++ one) ++ two) tail

pub joined : {T E : Type 0} (r : Result T E) (old first second third now head one two given tail : List ℕ)
    → first ≡ old ++ head → second ≡ first ++ one → third ≡ second ++ two
    → now ≡ (if is_ok r then third ++ given else third) → given ≡ tail
    → OnOk r (now ≡ old ++ (((head ++ one) ++ two) ++ tail))
joined (Ok x) old first second third now head one two given tail begun named filled ended is =
    ended ∙ ap (λ (l : List ℕ). third ++ l) is
    ∙ ap (λ (l : List ℕ). l ++ tail) (filled ∙ ap (λ (l : List ℕ). l ++ two) (named ∙ ap (λ (l : List ℕ). l ++ one) begun))
    ∙ regrouped old head one two tail
joined (Err e) old first second third now head one two given tail begun named filled ended is = tt
