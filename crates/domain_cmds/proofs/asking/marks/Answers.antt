-- The prefixes of a plan are those of a plan.
use Rattle.std.proofs.Common.{◌≡◌, ◌∙◌, ap, length, arith}
use Rattle.netchange_core.proofs.Openings.{is_there}
use Rattle.domain_cmds.proofs.asking.marks.Goals as goal

pub unwrap-unlinked-requires : goal.unwrap-unlinked-requires
unwrap-unlinked-requires c =
    let long : length c.in_ok-prefixes-in-None.prefixes.items ≡ c.args.plan.now.size =
    ap length c.in_ok-prefixes-in-None.ensures.items ∙ c.prefixes.ensures.one_a_node in
    let limits = c.size-nodes.ensures.limits in
    is_there c.in_ok-new-in-None.field-0 _ _ c.in_ok-new-in-None.ensures
    (record { from_two = omega (arith, long, limits.size.from_two); to_largest = omega (arith, long, limits.size.to_largest) })
