use Rattle.std.proofs.Common.{◌-◌, ◌==◌, Some, slice_get, sym, ap, ◌∙◌, arith, length}
use Rattle.std.proofs.lemmas.Option.{slice_get_past}
use Rattle.std.proofs.lemmas.Nat.Bits.{shr_and_one}
use Rattle.prefix_patterns.specs.BitLists.{length-prefix_bits}
use Rattle.prefix_patterns.proofs.BitsAt.{bit_of_prefix}
use Rattle.prefix_patterns.proofs.prefix.Prefix.bit.Goals as goal

pub returns-then-depth-self-clause-value : goal.returns-then-depth-self-clause-value
returns-then-depth-self-clause-value c =
    let p = c.self.inside in
    ap (λ bit. Some (bit == 1)) (shr_and_one p.address (31 - c.args.depth))
    ∙ sym (bit_of_prefix p.address p.len c.args.depth c.self.invariant.limit c.if-depth-self.true)
    ∙ ap (λ bits. slice_get bits c.args.depth) c.self.view_is

pub returns-then-depth-self-clause-limit : goal.returns-then-depth-self-clause-limit
returns-then-depth-self-clause-limit c = λ _. omega (arith, c.self.invariant.limit)

pub returns-else-depth-self-clause-value : goal.returns-else-depth-self-clause-value
returns-else-depth-self-clause-value c =
    let p = c.self.inside in
    let same = length-prefix_bits p.address p.len c.self.invariant.limit in
    sym (slice_get_past c.args.self.now c.args.depth (omega (arith, same, ap length c.self.view_is)))
