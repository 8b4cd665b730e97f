use Rattle.std.proofs.Common.{[], subst, sym, ap, ◌∙◌}
use Rattle.routing_domain.specs.Domain.{IsInOrder}
use Rattle.routing_domain.specs.Events.{links}
use Rattle.routing_domain.proofs.Links.{links_in_order}
use Rattle.domain_player.specs.Play.{domain}
use Rattle.domain_player.proofs.Domains.{are_routers, whole_of}
use Rattle.domain_player.proofs.routers.Routers.link.Goals as goal

pub invariant_of-self : goal.invariant_of-self
invariant_of-self c =
    are_routers c.self.inside.tables.len c.link_both.new.tables c.deref_mut.result.now c.self.inside.tables.items c.deref_mut.ensures.value
    c.deref_mut.ensures.len c.link_both.auto.tables c.self.invariant
    (λ o. subst IsInOrder (sym c.in-Ok.ensures.linked) (links_in_order (domain c.deref_mut.result.now) c.args.u c.args.w o c.in-Ok.ensures.left))

pub returns-in-Ok-clause-linked : goal.returns-in-Ok-clause-linked
returns-in-Ok-clause-linked c =
    ap domain (whole_of c.self.inside.tables.len c.link_both.new.tables c.deref_mut.result.now c.self.inside.tables.items
    c.deref_mut.ensures.value c.deref_mut.ensures.len c.link_both.auto.tables)
    ∙ c.in-Ok.ensures.linked
    ∙ ap (λ ws. links (domain ws) c.args.u c.args.w) (c.deref_mut.ensures.value ∙ c.self.view_is)
