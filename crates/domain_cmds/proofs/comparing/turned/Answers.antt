-- One node more.
use Rattle.std.proofs.Common.{[]}
use Rattle.domain_cmds.specs.Comparing.{turned_of}
use Rattle.domain_cmds.proofs.Counting.{one_list_more}
use Rattle.domain_cmds.proofs.comparing.turned.Goals as goal

pub loop-u-preserved : goal.loop-u-preserved
loop-u-preserved c =
    one_list_more (turned_of c.args.turn c.args.size c.args.before.now c.args.after.now) c.loop-u.u [] c.loop-u.found.items
    c.push_turned_of.new.found.items c.loop-u.invariant c.in_ok-push_turned_of.ensures
