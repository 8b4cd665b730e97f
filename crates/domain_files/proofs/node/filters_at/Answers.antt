-- One node more.
use Rattle.std.proofs.Common.{◌++◌, [], map, ap, ◌∙◌}
use Rattle.domain_cmds.proofs.Counting.{one_list_more}
use Rattle.domain_files.specs.FileView.{use_of}
use Rattle.domain_files.specs.Nodes.{at_name, filter_at_of, name_at}
use Rattle.domain_files.proofs.node.filters_at.Goals as goal

pub loop-node-preserved : goal.loop-node-preserved
loop-node-preserved c =
    one_list_more (name_at (map use_of c.args.uses.now) c.args.direction c.args.me) c.loop-node.node [] (map filter_at_of c.loop-node.filters.items)
    (map filter_at_of c.push_filter_at.new.filters.items) c.loop-node.invariant
    (c.in_ok-push_filter_at.ensures
    ∙ ap (λ name. map filter_at_of c.loop-node.filters.items ++ at_name name c.loop-node.node) c.find_name.ensures)
