-- Three texts that are put at the end of one, one after another, the last one if there is memory for it.
use Rattle.std.proofs.Common.{◌≡◌, ◌∙◌, ℕ, ◌++◌, List, OnOk, Result, Ok, Err, ap, append_assoc}
use Rattle.std.specs.Bool.{if◌then◌else◌}
use Rattle.std.specs.Result.{is_ok}

pub joined : {T E : Type 0} (r : Result T E) (now second first before head mid tail : List ℕ)
    → now ≡ (if is_ok r then second ++ tail else second) → second ≡ first ++ mid → first ≡ before ++ head
    → OnOk r (now ≡ before ++ (head ++ (mid ++ tail)))
joined (Ok x) now second first before head mid tail third two one =
    third ∙ ap (λ (l : List ℕ). l ++ tail) (two ∙ ap (λ (l : List ℕ). l ++ mid) one) ∙ append_assoc (before ++ head) mid tail
    ∙ append_assoc before head (mid ++ tail)
joined (Err e) now second first before head mid tail third two one = tt
