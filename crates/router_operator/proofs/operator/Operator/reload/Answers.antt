-- What was put in force before a use was refused is told.
use Rattle.std.proofs.Common.{refl}
use Rattle.router_operator.proofs.Putting.{each_breaks, left_after, reload_stops, same_breaks}
use Rattle.router_operator.proofs.operator.Operator.reload.Goals as goal

pub returns-in_err-changes-clause-left : goal.returns-in_err-changes-clause-left
returns-in_err-changes-clause-left g c =
    left_after c.from_residual.result _ (same_breaks c.args.self.now c.args.self.now refl)

pub returns-in_err-told-clause-left : goal.returns-in_err-told-clause-left
returns-in_err-told-clause-left g c =
    left_after c.from_residual-in_err-told.result _ (same_breaks c.args.self.now c.args.self.now refl)

pub returns-then-not-whole-clause-ok : goal.returns-then-not-whole-clause-ok
returns-then-not-whole-clause-ok g c =
    reload_stops c.args.checks c.args.self.now c.put_each.new.self c.args.configured.uses.items c.as_slice-3.result.now c.new-text.result.items
    c.put_each.new.out.items c.as_slice-3.ensures.value c.new-text.ensures.items c.args.number c.args.configured.filters.entries
    c.as_slice-then-not-whole.result.now c.in_ok-whole.whole c.refuse_rest.result c.args.out.now.items
    c.refuse_rest.new.out.items c.if-not-whole.true c.in_ok-whole.ensures.ok c.as_slice-then-not-whole.ensures.value c.refuse_rest.ensures.ok

pub returns-then-not-whole-clause-left : goal.returns-then-not-whole-clause-left
returns-then-not-whole-clause-left g c =
    left_after c.refuse_rest.result _
    (each_breaks c.args.checks c.args.self.now c.as_slice-3.result.now c.new-text.result.items c.in_ok-whole.whole c.put_each.new.out.items
    c.put_each.new.self c.in_ok-whole.ensures.ok)

pub returns-in_err-reply-clause-left : goal.returns-in_err-reply-clause-left
returns-in_err-reply-clause-left g c =
    left_after c.from_residual-in_err-reply.result _
    (each_breaks c.args.checks c.args.self.now c.as_slice-3.result.now c.new-text.result.items c.in_ok-whole.whole c.put_each.new.out.items
    c.put_each.new.self c.in_ok-whole.ensures.ok)
