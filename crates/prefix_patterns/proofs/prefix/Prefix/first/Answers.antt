use Rattle.std.proofs.Common.{◌≤◌, sym, ◌∙◌, ap, length, take, arith}
use Rattle.std.proofs.lemmas.List.{take-take}
use Rattle.prefix_patterns.specs.Bits.{address_bits}
use Rattle.prefix_patterns.specs.BitLists.{length-prefix_bits}
use Rattle.prefix_patterns.proofs.prefix.Prefix.first.Goals as goal

pub masked-requires : goal.masked-requires
masked-requires c =
    omega (
      arith,
      c.self.invariant.limit,
      length-prefix_bits c.self.inside.address c.self.inside.len c.self.invariant.limit,
      ap length c.self.view_is,
    )

pub returns : goal.returns
returns c =
    let p = c.self.inside in
    let within : c.args.len ≤ p.len = omega (arith, length-prefix_bits p.address p.len c.self.invariant.limit, ap length c.self.view_is) in
    c.masked.ensures ∙ sym (take-take c.args.len p.len (address_bits p.address) within) ∙ ap (take c.args.len) c.self.view_is
