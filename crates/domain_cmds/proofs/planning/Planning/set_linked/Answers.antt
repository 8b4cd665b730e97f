-- Where its filters come from is known of the domain with the link, or without it.
use Rattle.std.proofs.Common.{◌<◌, arith}
use Rattle.domain_cmds.proofs.Noting.{kept_linked}
use Rattle.domain_cmds.proofs.planning.Planning.set_linked.Goals as goal

pub invariant_of-self-2 : goal.invariant_of-self-2
invariant_of-self-2 c =
    let i = c.self.inside in
    let pair = c.are_a_pair.ensures.apart c.if-not-are_a_pair.false in
    let from : c.args.u < i.domain.size = omega (arith, pair.0, c.size-size.ensures.value) in
    let to : c.args.w < i.domain.size = omega (arith, pair.1, c.size-size.ensures.value) in
    kept_linked i.filters.size i.since i.domain i.origins i.filters.named c.self.invariant c.set_linked.new.self c.args.u c.args.w c.size-size.result
    c.args.linked c.loosen_link.new.since c.set_linked.ensures c.size-size.ensures.limits from to pair.2 c.loosen_link.ensures.fits
    c.size-size.ensures.value
