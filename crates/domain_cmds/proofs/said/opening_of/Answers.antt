-- The prefixes of a plan are those of a domain.
use Rattle.std.proofs.Common.{◌≡◌, length, sym, ap, ◌∙◌, arith}
use Rattle.netchange_core.proofs.Openings.{is_there}
use Rattle.domain_cmds.proofs.said.opening_of.Goals as goal

pub unwrap-requires : goal.unwrap-requires
unwrap-requires c =
    let long : length c.in_ok-prefixes.prefixes.items ≡ c.args.plan.now.size = ap length c.in_ok-prefixes.ensures.items ∙ c.prefixes.ensures.one_a_node in
    let limits = c.size.ensures.limits in
    is_there c.new.result _ _ c.new.ensures (record {
      from_two = omega (arith, limits.size.from_two, c.size.ensures.value);
      to_largest = omega (arith, limits.size.to_largest, c.size.ensures.value);
      member = omega (arith, limits.size.from_two, c.size.ensures.value);
      one_a_node = long ∙ sym c.size.ensures.value;
    })
