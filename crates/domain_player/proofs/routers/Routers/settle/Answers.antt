use Rattle.std.proofs.Common.{◌≡◌, ◌<◌, ◌++◌, drop, length, take, subst, sym, ap, ◌∙◌, arith}
use Rattle.netchange_core.specs.Best.{distance}
use Rattle.routing_domain.specs.Domain.{KeepsLinksAndFilters, topology}
use Rattle.routing_domain.specs.Phases.{AreWithin}
use Rattle.routing_domain.specs.Rest.{IsRest}
use Rattle.routing_domain.proofs.Ending.{run_keeps}
use Rattle.domain_player.specs.Play.{domain, router_at}
use Rattle.domain_player.proofs.Domains.{whole_of}
use Rattle.domain_player.proofs.Played.{settled_rest}
use Rattle.domain_player.proofs.routers.Routers.settle.Goals as goal

pub returns-in-Ok-clause-kept : goal.returns-in-Ok-clause-kept
returns-in-Ok-clause-kept c =
    subst (λ ws. KeepsLinksAndFilters (domain ws) (domain (take c.self.inside.tables.len (c.play.new.tables ++ drop (length c.play.new.tables) c.self.inside.tables.items))))
    (c.deref_mut.ensures.value ∙ c.self.view_is)
    (subst (λ ws. KeepsLinksAndFilters (domain c.deref_mut.result.now) (domain ws))
    (sym (whole_of c.self.inside.tables.len c.play.new.tables c.deref_mut.result.now c.self.inside.tables.items c.deref_mut.ensures.value
    c.deref_mut.ensures.len c.play.auto.tables))
    (run_keeps c.in-Ok.ensures.played.steps (domain c.deref_mut.result.now) (domain c.play.new.tables) c.in-Ok.ensures.played.run))

pub returns-in-Ok-clause-rest : goal.returns-in-Ok-clause-rest
returns-in-Ok-clause-rest c = λ v below.
    let same = c.deref_mut.ensures.value ∙ c.self.view_is in
    subst (λ ws. IsRest (topology (domain ws) v) v (λ u. distance (router_at (take c.self.inside.tables.len (c.play.new.tables ++ drop (length c.play.new.tables) c.self.inside.tables.items)) u) v)) same
    (subst (λ ws. IsRest (topology (domain c.deref_mut.result.now) v) v (λ u. distance (router_at ws u) v))
    (sym (whole_of c.self.inside.tables.len c.play.new.tables c.deref_mut.result.now c.self.inside.tables.items c.deref_mut.ensures.value
    c.deref_mut.ensures.len c.play.auto.tables))
    (settled_rest c.deref_mut.result.now c.play.new.tables c.in-Ok.settled.messages c.in-Ok.ensures.played c.in-Ok.ensures.quiet
    c.play.auto.tables v (omega (arith, below, ap length same))))

pub returns-in-Ok-clause-soon : goal.returns-in-Ok-clause-soon
returns-in-Ok-clause-soon c = λ j within.
    c.in-Ok.ensures.soon j (subst (λ ws. AreWithin j (domain ws)) (sym (c.deref_mut.ensures.value ∙ c.self.view_is)) within)
