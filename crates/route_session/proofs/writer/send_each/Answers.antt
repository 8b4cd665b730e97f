use Rattle.std.proofs.Common.{◌≡◌, ◌∙◌, ap, subst, ◌∷◌, List}
use Rattle.std.specs.Prelude.{slice_get}
use Rattle.netchange_core.specs.declared.message.Message.{Message}
use Rattle.route_session.proofs.Writing.{IsSending, front_taken, sends_on}
use Rattle.route_session.proofs.writer.send_each.Goals as goal

pub loop-message-preserved : goal.loop-message-preserved
loop-message-preserved g c =
    let front : c.loop-message.unsent.items ≡ c.in-Some.message ∷ c.remove.new.self.items =
    front_taken c.loop-message.unsent.items c.remove.new.self.items c.in-Some.message
    (c.in-Some.ensures ∙ c.first.ensures.value ∙ ap (λ (l : List Message). slice_get l 0) c.deref.ensures.value) c.remove.ensures.items in
    sends_on (g.L.Link.trace c.args.link.now) c.args.messages.items c.in-Some.message c.remove.new.self.items
    (g.L.Link.trace c.loop-message.link) (g.L.Link.trace c.send.new.self)
    (subst (λ (l : List Message). IsSending (g.L.Link.trace c.args.link.now) c.args.messages.items l
    (g.L.Link.trace c.loop-message.link)) front c.loop-message.invariant)
    c.in-Ok.ensures
