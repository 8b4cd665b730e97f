use Rattle.std.proofs.Common.{◌-◌, ◌/◌, ◌^◌, ◌<◌, ◌≤◌, sym, ap, ◌∙◌, arith, length, take}
use Rattle.std.proofs.lemmas.List.{length-take-le}
use Rattle.prefix_patterns.specs.Bits.{number}
use Rattle.prefix_patterns.specs.BitLists.{length-prefix_bits, number_lt}
use Rattle.prefix_patterns.proofs.BitsAt.{number-take-prefix_bits}
use Rattle.prefix_patterns.proofs.prefix.Prefix.leading.Goals as goal

pub returns-clause-value : goal.returns-clause-value
returns-clause-value c =
    let p = c.self.inside in
    let count = c.args.count in
    let within : count ≤ p.len =
    omega (arith, length-prefix_bits p.address p.len c.self.invariant.limit, ap length c.self.view_is, c.requires) in
    let fits : p.address < 2 ^ 32 = omega arith in
    ap (λ n. n / 2 ^ (32 - count)) c.from.ensures
    ∙ sym (number-take-prefix_bits p.address p.len count fits c.self.invariant.limit within)
    ∙ ap (λ bits. number (take count bits)) c.self.view_is

pub returns-clause-limit : goal.returns-clause-limit
returns-clause-limit c =
    let value = returns-clause-value c in
    let below = number_lt (take c.args.count c.args.self.now) in
    let len = length-take-le c.args.count c.args.self.now c.requires in
    rw value (rw len at below)
