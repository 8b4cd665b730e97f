use Rattle.std.proofs.Common.{arith}
use Rattle.prefix_patterns.proofs.Leaves.{any_of_eight, told_at}
use Rattle.prefix_patterns.proofs.leaf.Leaf.matches.Goals as goal

pub returns : goal.returns
returns c = λ part h.
    let leaf = c.args.self.now in
    let prefix = c.args.prefix.now in
    let first =
    told_at leaf prefix part 0 c.matches_at.result c.matches_at.ensures.filled c.matches_at.ensures.empty h (omega arith) in
    let second =
    told_at leaf prefix part 1 c.matches_at-2.result c.matches_at-2.ensures.filled c.matches_at-2.ensures.empty h (omega arith) in
    let third =
    told_at leaf prefix part 2 c.matches_at-3.result c.matches_at-3.ensures.filled c.matches_at-3.ensures.empty h (omega arith) in
    let fourth =
    told_at leaf prefix part 3 c.matches_at-4.result c.matches_at-4.ensures.filled c.matches_at-4.ensures.empty h (omega arith) in
    let fifth =
    told_at leaf prefix part 4 c.matches_at-5.result c.matches_at-5.ensures.filled c.matches_at-5.ensures.empty h (omega arith) in
    let sixth =
    told_at leaf prefix part 5 c.matches_at-6.result c.matches_at-6.ensures.filled c.matches_at-6.ensures.empty h (omega arith) in
    let seventh =
    told_at leaf prefix part 6 c.matches_at-7.result c.matches_at-7.ensures.filled c.matches_at-7.ensures.empty h (omega arith) in
    let eighth =
    told_at leaf prefix part 7 c.matches_at-8.result c.matches_at-8.ensures.filled c.matches_at-8.ensures.empty h (omega arith) in
    rw (first, second, third, fourth, fifth, sixth, seventh, eighth) (any_of_eight prefix part h.few)
