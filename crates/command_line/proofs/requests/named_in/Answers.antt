use Rattle.command_line.proofs.Naming.{next_named}
use Rattle.command_line.proofs.requests.named_in.Goals as goal

pub loop-name-preserved : goal.loop-name-preserved
loop-name-preserved c =
    next_named (λ name. name.now) c.args.names.now c.loop-name.name-index _ c.loop-name.sources.items c.push.new.self.items
    c.in_ok-source_of.field-0 c.loop-name-test.true c.loop-name.invariant c.in_ok-source_of.ensures c.in_ok-push.ensures.items
