use Rattle.std.proofs.Common.{◌+◌, ◌-◌, ◌/◌, ◌^◌, ◌<◌, ◌≤◌, sym, ap, ◌∙◌, arith, length, take}
use Rattle.prefix_patterns.specs.Trees.{index_of}
use Rattle.prefix_patterns.specs.BitLists.{length-prefix_bits}
use Rattle.prefix_patterns.proofs.BitsAt.{index-take-prefix_bits}
use Rattle.prefix_patterns.proofs.prefix.Prefix.heap_index.Goals as goal

pub returns : goal.returns
returns c =
    let p = c.self.inside in
    let count = c.args.count in
    let within : count ≤ p.len =
    omega (arith, length-prefix_bits p.address p.len c.self.invariant.limit, ap length c.self.view_is, c.requires) in
    let fits : p.address < 2 ^ 32 = omega arith in
    ap (λ n. (2 ^ 32 + n) / 2 ^ (32 - count)) c.from.ensures
    ∙ sym (index-take-prefix_bits p.address p.len count fits c.self.invariant.limit within)
    ∙ ap (λ bits. index_of (take count bits)) c.self.view_is
