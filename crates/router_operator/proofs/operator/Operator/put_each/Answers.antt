-- One more is in force, or is refused.
use Rattle.router_operator.proofs.Putting.{before_breaks, breaks_then, left_after, puts_next, puts_stops}
use Rattle.router_operator.proofs.operator.Operator.put_each.Goals as goal

pub returns-in_err-refused-clause-left : goal.returns-in_err-refused-clause-left
returns-in_err-refused-clause-left g c =
    left_after c.from_residual.result _
    (breaks_then c.args.self.now c.loop-used.self c.put_next.new.self
    (before_breaks c.args.checks c.args.self.now c.args.uses.now c.loop-used.used-index c.args.out.now.items c.loop-used.out.items c.loop-used.self
    c.loop-used.invariant)
    c.in_err-refused.ensures.left)

pub returns-then-refused-clause-ok : goal.returns-then-refused-clause-ok
returns-then-refused-clause-ok g c =
    puts_stops c.args.checks c.args.self.now c.args.uses.now c.args.out.now.items c.loop-used.used-index c.used-item.result c.loop-used.self
    c.put_next.new.self c.loop-used.out.items c.put_next.new.out.items c.in_ok-refused.refused c.used-item.is c.loop-used-test.true
    c.loop-used.invariant c.if-refused.true c.in_ok-refused.ensures.ok

pub loop-used-preserved : goal.loop-used-preserved
loop-used-preserved g c =
    puts_next c.args.checks c.args.self.now c.args.uses.now c.args.out.now.items c.loop-used.used-index c.used-item.result c.loop-used.self
    c.put_next.new.self c.loop-used.out.items c.put_next.new.out.items c.in_ok-refused.refused c.used-item.is c.loop-used-test.true
    c.loop-used.invariant c.if-refused.false c.in_ok-refused.ensures.ok
