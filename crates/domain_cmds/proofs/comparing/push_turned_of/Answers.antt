-- One node more.
use Rattle.domain_cmds.specs.Comparing.{turned_at}
use Rattle.domain_cmds.proofs.Counting.{one_list_more}
use Rattle.domain_cmds.proofs.comparing.push_turned_of.Goals as goal

pub loop-v-preserved : goal.loop-v-preserved
loop-v-preserved c =
    one_list_more (turned_at c.args.turn c.args.size c.args.before.now c.args.after.now c.args.u) c.loop-v.v c.args.found.now.items c.loop-v.found.items
    c.push_turned_at.new.found.items c.loop-v.invariant c.in_ok-push_turned_at.ensures
