use Rattle.std.proofs.Common.{◌++◌, All, length, map, slice_set, take, subst, sym, ap, ◌∙◌}
use Rattle.netchange_core.specs.Calls.{carried, session_of}
use Rattle.netchange_core.proofs.Holders.{up_in}
use Rattle.routing_domain.specs.Domain.{neighbour}
use Rattle.domain_player.specs.Play.{IsBetween, domain_of, sent_by}
use Rattle.domain_player.proofs.Domains.{router_place}
use Rattle.domain_player.proofs.Played.{take_answers}
use Rattle.domain_player.proofs.Queues.{all_between, sent_by_both, take_past}
use Rattle.domain_player.proofs.sending.send_some.Goals as goal

pub unreachable-requires : goal.unreachable-requires
unreachable-requires c =
    let ws = c.args.tables.now in
    let x = c.index-tables-from.result in
    let linked = up_in (neighbour (domain_of ws c.args.sents.now.items) c.args.from c.args.to) c.requires.linked in
    c.in_default.not-Some linked.0
    (c.present_session.ensures.value
    ∙ ap (λ y. session_of y c.args.to) (router_place ws c.from.result c.args.from x c.from.ensures c.requires.from)
    ∙ linked.1)

pub unreachable-requires-in_default-2 : goal.unreachable-requires-in_default-2
unreachable-requires-in_default-2 c =
    let d = domain_of c.args.tables.now c.args.sents.now.items in
    c.in_default-2.not-Messages (take 65535 (neighbour d c.args.from c.args.to).queue)
    (take_answers d c.args.from c.args.to 65535 c.in-Some.session _ c.apply.new.self c.in_ok-messages.field-0 c.requires.order
    c.requires.from c.requires.to
    (router_place c.args.tables.now c.from.result c.args.from c.index-tables-from.result c.from.ensures c.requires.from)
    (sym c.present_session.ensures.value ∙ c.in-Some.is) c.in_ok-messages.ensures.done)

pub returns-clause-sent : goal.returns-clause-sent
returns-clause-sent c =
    let ws = c.args.tables.now in
    let f = sent_by c.args.from c.args.to in
    ap (domain_of (slice_set ws c.from.result c.apply.new.self))
    (c.loop-message.invariant
    ∙ ap (λ q. c.args.sents.now.items ++ map f q)
    (take_past c.loop-message.message-index _ c.loop-message-test.false ∙ c.as_slice-message-items.ensures
    ∙ sym (ap carried c.in-Messages.is)))
    ∙ sent_by_both ws c.args.sents.now.items c.args.from c.args.to c.from.result c.in-Some.session c.index-tables-from.result
    c.apply.new.self c.in_ok-messages.field-0 c.requires.from c.requires.to c.requires.order c.from.ensures
    (sym c.present_session.ensures.value ∙ c.in-Some.is) c.in_ok-messages.ensures.done

pub returns-clause-between : goal.returns-clause-between
returns-clause-between c = λ before.
    subst (All (IsBetween (length c.args.tables.now))) (sym c.loop-message.invariant)
    (all_between (length c.args.tables.now) c.args.from c.args.to c.args.sents.now.items _ c.requires.from c.requires.to before)
