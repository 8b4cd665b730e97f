use Rattle.std.proofs.Common.{◌≡◌, ◌<◌, true, [], length, subst, sym, ap, ◌∙◌, arith}
use Rattle.routing_domain.specs.Domain.{IsInOrder, are_linked}
use Rattle.routing_domain.specs.Events.{cuts}
use Rattle.routing_domain.proofs.Cuts.{cuts_in_order}
use Rattle.domain_player.specs.Play.{domain}
use Rattle.domain_player.proofs.Domains.{are_routers, whole_of}
use Rattle.domain_player.proofs.routers.Routers.cut.Goals as goal

pub invariant_of-self : goal.invariant_of-self
invariant_of-self c =
    let was = c.deref_mut.result.now in
    let same = c.deref_mut.ensures.value ∙ c.self.view_is in
    are_routers c.self.inside.tables.len c.cut_both.new.tables was c.self.inside.tables.items c.deref_mut.ensures.value
    c.deref_mut.ensures.len c.cut_both.auto.tables c.self.invariant
    (λ o. subst IsInOrder (sym c.in-Ok.ensures)
    (cuts_in_order (domain was) c.args.u c.args.w o (omega (arith, c.requires.from, ap length same)) (omega (arith, c.requires.to, ap length same))
    (subst (λ ws. are_linked (domain ws) c.args.u c.args.w ≡ true) (sym same) c.requires.linked)))

pub returns-in-Ok-clause-cut : goal.returns-in-Ok-clause-cut
returns-in-Ok-clause-cut c =
    ap domain (whole_of c.self.inside.tables.len c.cut_both.new.tables c.deref_mut.result.now c.self.inside.tables.items
    c.deref_mut.ensures.value c.deref_mut.ensures.len c.cut_both.auto.tables)
    ∙ c.in-Ok.ensures
    ∙ ap (λ ws. cuts (domain ws) c.args.u c.args.w) (c.deref_mut.ensures.value ∙ c.self.view_is)
