use Rattle.std.proofs.Common.{◌-◌, ◌/◌, ◌≤◌, arith, rules}
use Rattle.filter_code.proofs.TaggedValues.{number_of_value, prefix_there}
use Rattle.filter_code.proofs.tagged.Tagged.as_prefix.Goals as goal

pub overflow_cast-self-inside-then-self-ge-PREFIX : goal.overflow_cast-self-inside-then-self-ge-PREFIX
overflow_cast-self-inside-then-self-ge-PREFIX c =
    let p = prefix_there _ _ (number_of_value _ _ c.self.view_is c.self.invariant) c.if-self-ge-PREFIX.true in
    omega (arith, p.upper_half, p.limit)

pub unwrap-requires : goal.unwrap-requires
unwrap-requires c =
    let p = prefix_there _ _ (number_of_value _ _ c.self.view_is c.self.invariant) c.if-self-ge-PREFIX.true in
    let limit : c.self.inside.0 / 4294967296 - 4 ≤ 32 = omega (arith, p.upper_half, p.limit) in
    search rules
