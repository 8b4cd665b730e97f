use Rattle.std.proofs.Common.{◌≤◌, ◌+◌, ◌-◌, length, arith}
use Rattle.filter_verifier.proofs.Budgets.{sliced_below}
use Rattle.filter_verifier.proofs.bounds.budget_of.Goals as goal

pub overflow_add-greatest : goal.overflow_add-greatest
overflow_add-greatest c =
    let small : c.greatest.result ≤ length c.args.instrs.now = rw c.greatest.ensures
    (sliced_below c.deref.result.now c.args.instrs.now c.loop-at.at ((c.loop-at.at - 1) + 1) _ (omega arith)
    (rw c.deref.ensures.value c.loop-at.invariant.known)) in
    omega (arith, c.requires)
