use Rattle.std.proofs.Common.{◌-◌, drop, length, take}
use Rattle.prefix_patterns.proofs.Leaves.{first_and_rest, leaves_more}
use Rattle.prefix_patterns.proofs.leaf.leaves_of.Goals as goal

pub rest-preserved : goal.rest-preserved
rest-preserved c =
    let (done, split, are) = c.rest.invariant in
    let rest = c.rest.rest.now in
    let count = c.min-count.result in
    leaves_more c.rest.leaves.items c.push.new.self.items c.of.result c.args.patterns.now done rest (take count rest)
    (take (length rest - count) (drop count rest)) split are c.of.ensures c.in_ok-push.ensures.items (first_and_rest rest count)
