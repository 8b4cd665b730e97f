-- One use more.
use Rattle.std.specs.Option.{option_map}
use Rattle.domain_files.proofs.Names.{one_use_more}
use Rattle.domain_files.proofs.node.find_name.Goals as goal

pub loop-used-preserved : goal.loop-used-preserved
loop-used-preserved c =
    one_use_more c.args.direction c.args.u c.args.w c.args.uses.now c.loop-used.used-index c.used-item.result
    (option_map (λ name. name.now) c.loop-used.name) (option_map (λ name. name.now) c.name_after-name.result) c.loop-used-test.true c.used-item.is
    c.loop-used.invariant c.name_after-name.ensures
