use Rattle.std.proofs.Common.{length, sym, ap, ◌∙◌}
use Rattle.netchange_core.specs.Calls.{queued_of, session_of}
use Rattle.domain_player.specs.Play.{router_at}
use Rattle.domain_player.proofs.Domains.{router_read}
use Rattle.domain_player.proofs.Entering.{none_queued, queued_all}
use Rattle.domain_player.proofs.sending.waiting.Goals as goal

pub returns-in-Some : goal.returns-in-Some
returns-in-Some c =
    let ws = c.args.tables.now in
    let x = c.index-tables-from.result in
    let s = c.in-Some.session in
    let is = router_read ws c.from.result c.args.from x c.from.ensures c.requires.from c.index-tables-from.is in
    c.queued.ensures
    ∙ ap (λ y. queued_of y s) is
    ∙ queued_all (length ws) (router_at ws c.args.from) c.args.to s c.requires.sound
    (ap (λ y. session_of y c.args.to) (sym is) ∙ sym c.present_session.ensures.value ∙ c.in-Some.is)

pub returns-in-None : goal.returns-in-None
returns-in-None c =
    let ws = c.args.tables.now in
    let x = c.index-tables-from.result in
    let is = router_read ws c.from.result c.args.from x c.from.ensures c.requires.from c.index-tables-from.is in
    none_queued (length ws) (router_at ws c.args.from) c.args.to c.requires.sound c.requires.to
    (ap (λ y. session_of y c.args.to) (sym is) ∙ sym c.present_session.ensures.value ∙ c.in-None.is)
