use Rattle.std.proofs.Common.{◌<◌, Ok, Err, Result, length, subst, sym, ap, ◌∙◌, arith}
use Rattle.std.proofs.lemmas.Result.{on_err_weaker, on_ok_weaker}
use Rattle.routing_domain.specs.Domain.{IsInOrder}
use Rattle.routing_domain.proofs.Filters.{exporting_keeps_order}
use Rattle.domain_player.specs.Play.{domain}
use Rattle.domain_player.proofs.Domains.{are_routers, either_way, whole_of}
use Rattle.domain_player.proofs.routers.Routers.set_export.Goals as goal

pub invariant_of-self : goal.invariant_of-self
invariant_of-self c =
    let was = c.deref_mut.result.now in
    let same = c.deref_mut.ensures.value ∙ c.self.view_is in
    are_routers c.self.inside.tables.len c.enter.new.tables was c.self.inside.tables.items c.deref_mut.ensures.value
    c.deref_mut.ensures.len c.enter.auto.tables c.self.invariant
    (λ o. either_way c.enter.result
    (on_ok_weaker c.enter.result
    (λ e. subst IsInOrder (sym e) (exporting_keeps_order (domain was) c.args.u c.args.w c.args.filter o (omega (arith, c.requires.from, ap length same))))
    c.enter.ensures.entered)
    (on_err_weaker c.enter.result (λ e. subst (λ ws. IsInOrder (domain ws)) (sym e) o) c.enter.ensures.same))

pub returns-clause-same : goal.returns-clause-same
returns-clause-same c =
    on_err_weaker c.enter.result
    (λ e. whole_of c.self.inside.tables.len c.enter.new.tables c.deref_mut.result.now c.self.inside.tables.items c.deref_mut.ensures.value
    c.deref_mut.ensures.len c.enter.auto.tables ∙ e ∙ c.deref_mut.ensures.value ∙ c.self.view_is)
    c.enter.ensures.same
