-- One entry more.
use Rattle.std.proofs.Common.{◌+◌, ◌++◌, arith, drop, map, take}
use Rattle.std.proofs.lemmas.Grind.{common_steps}
use Rattle.history_lines.specs.Views.{entry_view}
use Rattle.route_history.specs.Whole.{whole_entry}
use Rattle.operator_cmds.specs.Looks.{entries_text}
use Rattle.operator_cmds.proofs.Told.{one_told}
use Rattle.operator_cmds.proofs.look.push_entries.Goals as goal

pub loop-told-preserved : goal.loop-told-preserved
loop-told-preserved c =
    let told = c.loop-told.told in
    let all = entries_text c.args.from 0 (map entry_view (take c.args.count (drop c.args.from c.args.entries.now))) in
    record {
      added = one_told c.args.entries.now c.args.from c.args.count told (whole_entry c.entry.result) c.requires.within (omega arith)
          c.entry.ensures (told + 1) c.loop-told.out.items c.push_bar.new.out.items c.push_entry.new.out.items
          (c.args.out.now.items ++ all) (omega arith) c.in_ok-push_bar.ensures.ok c.in_ok-push_entry.ensures.ok
          c.loop-told.invariant.added;
      front = grind (arith, common_steps);
    }
