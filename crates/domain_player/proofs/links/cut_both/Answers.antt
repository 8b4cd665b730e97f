use Rattle.std.proofs.Common.{[], slice_set, ap, ◌∙◌, arith, length-set}
use Rattle.std.proofs.lemmas.Result.{on_ok_weaker}
use Rattle.netchange_core.specs.Calls.{session_of}
use Rattle.routing_domain.specs.Events.{in_session}
use Rattle.domain_player.specs.Play.{domain_of, router_at}
use Rattle.domain_player.proofs.Domains.{router_place}
use Rattle.domain_player.proofs.Linking.{cuts_as, goes, linked_apart}
use Rattle.domain_player.proofs.links.cut_both.Goals as goal

pub returns : goal.returns
returns c =
    let ws = c.args.tables.now in
    let r = c.enter_down.new.router in
    let first = router_place ws c.from.result c.args.u c.index-tables-from.result c.from.ensures c.requires.from in
    let second = router_place (slice_set ws c.from.result r) c.from-2.result c.args.w c.index-tables-from-2.result
    c.from-2.ensures (omega (arith, c.requires.to, length-set ws c.from.result r)) in
    on_ok_weaker c.enter_down-2.result
    (λ down.
    ap (λ i. domain_of (slice_set (slice_set ws i r) c.from-2.result c.enter_down-2.new.router) []) c.from.ensures
    ∙ ap (λ j. domain_of (slice_set (slice_set ws c.args.u r) j c.enter_down-2.new.router) []) c.from-2.ensures
    ∙ cuts_as ws c.args.u c.args.w r c.enter_down-2.new.router c.requires.from c.requires.to
    (linked_apart (domain_of ws []) c.args.u c.args.w c.requires.order c.requires.from c.requires.linked)
    (c.in_ok-enter_down.ensures ∙ ap (λ y. in_session y (session_of y c.args.w) goes) first)
    (down ∙ ap (λ y. in_session y (session_of y c.args.u) goes)
    (second ∙ ap (λ i. router_at (slice_set ws i r) c.args.w) c.from.ensures)))
    c.enter_down-2.ensures
