use Rattle.std.proofs.Common.{◌≡◌, [], length, slice_set, subst, sym, ap, ◌∙◌, arith, length-set}
use Rattle.std.proofs.lemmas.Result.{on_ok_weaker}
use Rattle.netchange_core.specs.declared.event.Event.TheVariants as event
use Rattle.netchange_core.specs.Next.{next}
use Rattle.domain_player.specs.Play.{domain_of, router_at}
use Rattle.domain_player.proofs.Domains.{router_place}
use Rattle.domain_player.proofs.Linking.{links_as}
use Rattle.domain_player.proofs.links.link_both.Goals as goal

pub returns-clause-linked : goal.returns-clause-linked
returns-clause-linked c =
    let ws = c.args.tables.now in
    let first = router_place ws c.from.result c.args.u c.index-tables-from.result c.from.ensures c.requires.from in
    let second = router_place (slice_set ws c.from.result c.enter_up.new.router) c.from-2.result c.args.w c.index-tables-from-2.result
    c.from-2.ensures (omega (arith, c.requires.to, length-set ws c.from.result c.enter_up.new.router)) in
    on_ok_weaker c.enter_up-2.result
    (λ up.
    ap (λ i. domain_of (slice_set (slice_set ws i c.enter_up.new.router) c.from-2.result c.enter_up-2.new.router) []) c.from.ensures
    ∙ ap (λ j. domain_of (slice_set (slice_set ws c.args.u c.enter_up.new.router) j c.enter_up-2.new.router) []) c.from-2.ensures
    ∙ links_as ws c.args.u c.args.w c.enter_up.new.router c.enter_up-2.new.router c.requires.from c.requires.to
    (c.in_ok-enter_up.ensures.up ∙ ap (λ y. (next y (event.Up c.args.w)).world) first)
    (up ∙ ap (λ y. (next y (event.Up c.args.u)).world)
    (second ∙ ap (λ i. router_at (slice_set ws i c.enter_up.new.router) c.args.w) c.from.ensures)))
    c.enter_up-2.ensures.up
