use Rattle.operator_cmds.proofs.KeptEntries.{line_told}
use Rattle.operator_cmds.proofs.kept.push_history.Goals as goal

pub returns-clause-ok : goal.returns-clause-ok
returns-clause-ok c =
    line_told c.args.journal.now c.args.from c.count_kept-count.result c.args.out.now.items c.extend_from_slice.new.self.items
    c.push_kept.new.out.items c.push.new.self.items c.count_kept-count.ensures c.in_ok-extend_from_slice.ensures.items c.in_ok-push_kept.ensures.ok
    c.in_ok-push.ensures.items
