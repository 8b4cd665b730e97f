-- The filter that is there is compared with that of the use.
use Rattle.std.proofs.lemmas.Result.{IfOk-weaker}
use Rattle.router_operator.proofs.reloading.difference_of.Goals as goal

pub returns-in_ok-text-in-Some : goal.returns-in_ok-text-in-Some
returns-in_ok-text-in-Some c =
    let tells = rw (c.deref.ensures, c.deref-in-Some.ensures) at c.in_ok-text-in-Some.ensures in
    rw c.in-Some.is (IfOk-weaker c.in_one_line.result _ _ (λ told is. (c.in_ok-text-in-Some.text.items, tells, is))
    (rw c.as_slice.ensures.value at c.in_one_line.ensures))
