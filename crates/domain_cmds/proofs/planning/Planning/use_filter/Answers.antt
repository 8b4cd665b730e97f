-- Where its filters come from is known of the domain in which one more is used.
use Rattle.std.proofs.Common.{◌≡◌, ◌<◌, Option, Some, ap, ◌∙◌, arith}
use Rattle.std.specs.Option.{option_map}
use Rattle.std.specs.declared.sync.Arc.{Arc}
use Rattle.std.specs.declared.alloc.Global.{Global}
use Rattle.filter_verifier.specs.VerifiedView.{VerifiedView}
use Rattle.domain_cmds.specs.State.{filter_named}
use Rattle.domain_cmds.proofs.Noting.{kept_unnoted, kept_used}
use Rattle.domain_cmds.proofs.planning.Planning.use_filter.Goals as goal

-- memory was refused, and nothing is noted
pub invariant_of-self-in_err-note_use : goal.invariant_of-self-in_err-note_use
invariant_of-self-in_err-note_use c =
    let i = c.self.inside in
    kept_unnoted i.filters.size i.since i.domain i.origins i.filters.named c.self.invariant c.note_use.new.self c.in_err-note_use.ensures.err

pub invariant_of-self-2 : goal.invariant_of-self-2
invariant_of-self-2 c =
    let i = c.self.inside in
    let pair = c.are_a_pair.ensures.apart c.if-not-are_a_pair.false in
    let from : c.args.u < i.domain.size = omega (arith, pair.0, c.size-size.ensures.value) in
    let to : c.args.w < i.domain.size = omega (arith, pair.1, c.size-size.ensures.value) in
    let found : filter_named i.filters.named c.args.name.now ≡ Some c.in-Some.filter.value =
    c.in_ok-filter.ensures.found ∙ ap (λ (o : Option (Arc VerifiedView Global)). option_map (λ f. f.value) o) c.in-Some.is in
    kept_used i.filters.size i.since i.domain i.origins i.filters.named c.self.invariant c.set_filter.new.self c.args.direction c.in-Some.filter.value
    c.args.u c.args.w c.size-size.result c.args.name.now c.loosen_filter.new.since c.note_use.new.self c.set_filter.ensures c.size-size.ensures.limits
    from to found c.in_ok-note_use.ensures.ok c.loosen_filter.ensures.fits c.size-size.ensures.value
