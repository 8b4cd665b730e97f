-- A network changes by events of its routers that are not refused.
use Rattle.std.proofs.Common.{◌≡◌, ℕ, ◌+◌, ◌<◌, List, take, sym, ap, ◌∙◌, arith}
use Rattle.std.specs.Prelude.{Some}
use Rattle.std.proofs.lemmas.Bool.{cond_both}
use Rattle.netchange_core.specs.Best.{distance}
use Rattle.netchange_core.specs.Next.{advertising, answered, count_changes, down, gone, next, receive, recomputed, take_from}
use Rattle.netchange_core.specs.declared.event.Event.TheVariants as event
use Rattle.netchange_core.specs.declared.message.Message.{Message}
use Rattle.netchange_core.specs.declared.reply.Reply.TheVariants as reply
use Rattle.netchange_core.specs.World.{changed}
use Rattle.netchange_core.proofs.Holders.{holder_found, up_by}
use Rattle.routing_domain.specs.Domain.{neighbour}
use Rattle.routing_domain.specs.Events.{in_session}
use Rattle.routing_domain.specs.Network.{CanComeUp, IsOrderly, Network, comes_up, gets, goes_down, hands}
use Rattle.routing_domain.specs.Steps.{IsNext, sends, with_router}
use Rattle.routing_domain.proofs.Cuts.{goes}
use Rattle.routing_domain.proofs.GoingDown.{left_by}
use Rattle.routing_domain.proofs.Links.{up_joins}
use Rattle.routing_domain.proofs.Places.{router_here}
use Rattle.routing_domain.proofs.Receives.{received_by}
use Rattle.routing_domain.proofs.Sends.{sender}

pub up_by_event : (n : Network) (u w : ℕ) → IsOrderly n → CanComeUp n.domain u w →
    next (n.domain.router u) (event.Up w) ≡ answered ((comes_up n u w).domain.router u) (reply.Opened ((n.domain.router u).sessions + 1))
up_by_event n u w o c =
    let r = n.domain.router u in
    let joins = up_joins n.domain.size u w r (o.members u c.from) c.to (λ h. c.apart (sym h)) c.unlinked c.left in
    joins ∙ ap (λ x. answered x (reply.Opened (r.sessions + 1)))
    (sym (router_here n.domain u (next r (event.Up w)).world ∙ ap (λ a. a.world) joins))

pub down_by_event : (n : Network) (u w s : ℕ) → IsOrderly n → u < n.domain.size → w < n.domain.size → (neighbour n.domain u w).session ≡ Some s →
    (k : ℕ) × (next (n.domain.router u) (event.Down s) ≡ answered ((goes_down n u w).domain.router u) (reply.Done k))
down_by_event n u w s o from to held =
    let r = n.domain.router u in
    let m = o.members u from in
    let session = (neighbour n.domain u w).session in
    let after = recomputed r (changed r w (gone r.opening)) in (
      count_changes (distance r) (distance (changed r w (gone r.opening))) r.opening.size,
      ap (λ h. down r h) (holder_found r.neighbours s w m.sound.apart held)
          ∙ ap (λ x. answered x after.reply)
          (sym (router_here n.domain u (in_session r session goes) ∙ left_by n.domain.size u w r m (up_by (neighbour n.domain u w) s held))),
    )

pub take_by_event : (n : Network) (u w max s : ℕ) → IsOrderly n → u < n.domain.size → w < n.domain.size → (neighbour n.domain u w).session ≡ Some s →
    next (n.domain.router u) (event.Take s max)
    ≡ answered ((hands n u w max).domain.router u) (reply.Messages (take max (neighbour n.domain u w).queue))
take_by_event n u w max s o from to held =
    let r = n.domain.router u in
    ap (λ h. take_from r h max) (holder_found r.neighbours s w (o.members u from).sound.apart held)
    ∙ ap (λ x. answered x (reply.Messages (take max (neighbour n.domain u w).queue)))
    (sym (cond_both (n.carries u w) (sends n.domain u w max) (with_router n.domain u (sender r w max)) (λ e. e.router u ≡ sender r w max)
    (λ _. router_here n.domain u (sender r w max)) (λ _. router_here n.domain u (sender r w max))))

pub receive_by_event : (n : Network) (u w s : ℕ) (m : Message) (rest : List Message) → IsOrderly n → IsNext n.domain u w m rest →
    (neighbour n.domain w u).session ≡ Some s →
    (k : ℕ) × (next (n.domain.router w) (event.Receive s m.dest m.dist) ≡ answered ((gets n u w m rest).domain.router w) (reply.Done k))
receive_by_event n u w s m rest o i held =
    let r = n.domain.router w in
    let mine = o.members w i.to in
    let after = recomputed r (changed r u (advertising m.dest m.dist)) in
    let received = received_by r u m.dest m.dist (omega (arith, i.dest, mine.size)) (omega (arith, i.dist, mine.size)) in (
      count_changes (distance r) (distance (changed r u (advertising m.dest m.dist))) r.opening.size,
      ap (λ h. receive r h m.dest m.dist) (holder_found r.neighbours s u mine.sound.apart held)
          ∙ received
          ∙ ap (λ x. answered x after.reply) (sym (router_here n.domain w (receive r (Some u) m.dest m.dist).world ∙ ap (λ a. a.world) received)),
    )
