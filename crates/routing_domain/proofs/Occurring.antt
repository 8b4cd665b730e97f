-- What steps are as events, and events that are refused.
use Rattle.std.proofs.Common.{◌≡◌, ⊎_elim, inl, inr, ℕ, ◌+◌, ◌<◌, true, false, cond, nat_eq, nat_le, Option}
use Rattle.std.proofs.Common.{Some, None, List, [], ◌∷◌, length, take, refl, sym, ap, subst, ◌∙◌, arith}
use Rattle.std.specs.Prelude.{nat_lt}
use Rattle.std.proofs.lemmas.Bool.{cases_Bool, cond_both}
use Rattle.netchange_core.specs.declared.event.Event.{Event}
use Rattle.netchange_core.specs.declared.event.Event.TheVariants as event
use Rattle.netchange_core.specs.declared.message.Message.{Message}
use Rattle.netchange_core.specs.declared.reply.EventRefusal.{EventRefusal}
use Rattle.netchange_core.specs.declared.reply.EventRefusal.TheVariants as refusal
use Rattle.netchange_core.specs.declared.reply.Reply.TheVariants as reply
use Rattle.netchange_core.specs.Best.{best, distance}
use Rattle.netchange_core.specs.Next.{Answered, advertising, answered, count_changes, down, exporting}
use Rattle.netchange_core.specs.Next.{gone, importing, is_no_neighbour, joined, last_session}
use Rattle.netchange_core.specs.Next.{next, receive, recomputed, refused, take_from}
use Rattle.netchange_core.specs.World.{World, changed, holder, is_up, neighbour_at}
use Rattle.netchange_core.proofs.Holders.{up_by}
use Rattle.routing_domain.specs.Domain.{Domain, IsInOrder, IsQuiet, IsWithin, are_linked, neighbour}
use Rattle.routing_domain.specs.Events.{CanLink, cuts, enters, links}
use Rattle.routing_domain.specs.Steps.{IsNext, receives, sends, with_router}
use Rattle.routing_domain.proofs.Cuts.{cut_one, cut_other, down_leaves, holds}
use Rattle.routing_domain.proofs.Receives.{received_by}
use Rattle.routing_domain.proofs.Links.{linked_one, linked_other, up_at_one, up_at_other}
use Rattle.routing_domain.proofs.Order.{at_receiver}
use Rattle.routing_domain.proofs.Places.{router_same}
use Rattle.routing_domain.proofs.Sends.{at_sender}

pub take_sends : (d : Domain) (u w max s : ℕ) → IsInOrder d → u < d.size → (neighbour d u w).session ≡ Some s →
    next (d.router u) (event.Take s max)
    ≡ answered ((sends d u w max).router u) (reply.Messages (take max (neighbour d u w).queue))
take_sends d u w max s o short held =
    ap (λ h. take_from (d.router u) h max) (holds d u w s o short held)
    ∙ ap (λ r. answered r (reply.Messages (take max (neighbour d u w).queue))) (sym (at_sender d u w max))

-- what is first on its way is received
linked_flight : (d : Domain) (u w : ℕ) (m : Message) (rest : List Message) → IsInOrder d → u < d.size → w < d.size → d.flight u w ≡ m ∷ rest →
    are_linked d u w ≡ true
linked_flight d u w m rest o from to first = elim (cases_Bool (are_linked d u w)) [
  | inl linked ↦ linked
  | inr down ↦ absurd (let h : m ∷ rest ≡ [] = sym first ∙ o.silent u w from to down in cc)
]

pub first_is_next : (d : Domain) (u w : ℕ) (m : Message) (rest : List Message) → IsInOrder d → u < d.size → w < d.size → d.flight u w ≡ m ∷ rest →
    IsNext d u w m rest
first_is_next d u w m rest o from to first =
    let linked : are_linked d u w ≡ true = linked_flight d u w m rest o from to first in
    let fits : IsWithin d.size m = head (subst (λ ms. Rattle.std.proofs.Common.All (IsWithin d.size) ms) first (o.within u w from to)) in
    record {
      from = from;
      to = to;
      apart = λ same. (let h : true ≡ false = sym (subst (λ x. are_linked d u x ≡ true) (sym same) linked) ∙ o.apart u from in cc);
      linked = o.both_ways u w from to linked;
      first = first;
      dest = fits.dest;
      dist = fits.dist;
    }
  where
    head : Rattle.std.proofs.Common.All (IsWithin d.size) (m ∷ rest) → IsWithin d.size m
    head all = all 0 m (omega arith)

pub receive_receives : (d : Domain) (u w s : ℕ) (m : Message) (rest : List Message) → IsInOrder d → IsNext d u w m rest →
    (neighbour d w u).session ≡ Some s →
    (changed : ℕ) × (next (d.router w) (event.Receive s m.dest m.dist) ≡ answered ((receives d u w m rest).router w) (reply.Done changed))
receive_receives d u w s m rest o n held =
    let r = d.router w in
    let a = recomputed r (changed r u (advertising m.dest m.dist)) in (
      count_changes (distance r) (distance (changed r u (advertising m.dest m.dist))) r.opening.size,
      ap (λ h. receive r h m.dest m.dist) (holds d w u s o n.to held)
          ∙ received_by r u m.dest m.dist (omega (arith, n.dest, o.size w n.to)) (omega (arith, n.dist, o.size w n.to))
          ∙ ap (λ x. answered x a.reply) (sym (at_receiver d u w m rest o n)),
    )

pub up_links : (d : Domain) (u w : ℕ) → IsInOrder d → CanLink d u w →
    next (d.router u) (event.Up w) ≡ answered ((links d u w).router u) (reply.Opened ((d.router u).sessions + 1))
up_links d u w o c = up_at_one d u w o c ∙ ap (λ x. answered x (reply.Opened ((d.router u).sessions + 1))) (sym (linked_one d u w o c))

pub up_links_back : (d : Domain) (u w : ℕ) → IsInOrder d → CanLink d u w →
    next (d.router w) (event.Up u) ≡ answered ((links d u w).router w) (reply.Opened ((d.router w).sessions + 1))
up_links_back d u w o c = up_at_other d u w o c ∙ ap (λ x. answered x (reply.Opened ((d.router w).sessions + 1))) (sym (linked_other d u w o c))

pub down_cuts : (d : Domain) (u w s : ℕ) → IsInOrder d → u < d.size → w < d.size → (neighbour d u w).session ≡ Some s →
    (changed : ℕ) × (next (d.router u) (event.Down s) ≡ answered ((cuts d u w).router u) (reply.Done changed))
down_cuts d u w s o from to held =
    let r = d.router u in
    let a = recomputed r (changed r w (gone r.opening)) in (
      count_changes (distance r) (distance (changed r w (gone r.opening))) r.opening.size,
      down_leaves d u w s o from held
          ∙ ap (λ x. answered x a.reply) (sym (cut_one d u w o from to (up_by (neighbour d u w) s held))),
    )

pub down_cuts_back : (d : Domain) (u w s : ℕ) → IsInOrder d → u < d.size → w < d.size → (neighbour d w u).session ≡ Some s →
    (changed : ℕ) × (next (d.router w) (event.Down s) ≡ answered ((cuts d u w).router w) (reply.Done changed))
down_cuts_back d u w s o from to held =
    let r = d.router w in
    let a = recomputed r (changed r u (gone r.opening)) in (
      count_changes (distance r) (distance (changed r u (gone r.opening))) r.opening.size,
      down_leaves d w u s o to held
          ∙ ap (λ x. answered x a.reply) (sym (cut_other d u w o from to (o.both_ways w u to from (up_by (neighbour d w u) s held)))),
    )

-- an event that is refused leaves the world
abbrev StaysIfRefused : World → EventRefusal → Answered → Type 0
StaysIfRefused w why a = a.reply ≡ reply.Refused why → a.world ≡ w

refused_stays : (w : World) (e : Event) (why : EventRefusal) → StaysIfRefused w why (next w e)
refused_stays w (event.Up k) why =
    let last = answered (record (changed w k (joined w.opening (distance w) (w.sessions + 1))) { sessions = w.sessions + 1 }) (reply.Opened (w.sessions + 1)) in
    cond_both (is_no_neighbour w.opening k) (refused w refusal.NoNode)
    (cond (is_up (neighbour_at w.neighbours k)) (refused w refusal.AlreadyUp) (cond (nat_eq w.sessions last_session) (refused w refusal.NoSession) last))
    (StaysIfRefused w why) (λ _ _. refl)
    (λ _. cond_both (is_up (neighbour_at w.neighbours k)) (refused w refusal.AlreadyUp) (cond (nat_eq w.sessions last_session) (refused w refusal.NoSession) last)
    (StaysIfRefused w why) (λ _ _. refl)
    (λ _. cond_both (nat_eq w.sessions last_session) (refused w refusal.NoSession) last (StaysIfRefused w why) (λ _ _. refl) (λ _ h. absurd (cc))))
refused_stays w (event.Down s) why = by_holder (holder w s)
  where
    by_holder : (o : Option ℕ) → StaysIfRefused w why (down w o)
    by_holder None h = refl
    by_holder (Some k) h = absurd (cc)
refused_stays w (event.Receive s v d) why = by_holder (holder w s)
  where
    in_range : (k : ℕ) → StaysIfRefused w why (receive w (Some k) v d)
    in_range k =
        let last = recomputed w (changed w k (advertising v d)) in
        cond_both (nat_le w.opening.size v) (refused w refusal.BadDest) (cond (nat_lt w.opening.size d) (refused w refusal.BadDist) last)
        (StaysIfRefused w why) (λ _ _. refl)
        (λ _. cond_both (nat_lt w.opening.size d) (refused w refusal.BadDist) last (StaysIfRefused w why) (λ _ _. refl) (λ _ h. absurd (cc)))

    by_holder : (o : Option ℕ) → StaysIfRefused w why (receive w o v d)
    by_holder None h = refl
    by_holder (Some k) h = in_range k h
refused_stays w (event.Take s max) why = by_holder (holder w s)
  where
    by_holder : (o : Option ℕ) → StaysIfRefused w why (take_from w o max)
    by_holder None h = refl
    by_holder (Some k) h = absurd (cc)
refused_stays w (event.SetImport k f) why =
    let last = recomputed w (changed w k (importing f.value)) in
    cond_both (is_no_neighbour w.opening k) (refused w refusal.NoNode) (cond (nat_eq f.value.size w.opening.size) last (refused w refusal.OtherSize))
    (StaysIfRefused w why) (λ _ _. refl)
    (λ _. cond_both (nat_eq f.value.size w.opening.size) last (refused w refusal.OtherSize) (StaysIfRefused w why) (λ _ h. absurd (cc)) (λ _ _. refl))
refused_stays w (event.SetExport k f) why =
    let last = answered (changed w k (exporting w.opening (distance w) f.value)) (reply.Done 0) in
    cond_both (is_no_neighbour w.opening k) (refused w refusal.NoNode) (cond (nat_eq f.value.size w.opening.size) last (refused w refusal.OtherSize))
    (StaysIfRefused w why) (λ _ _. refl)
    (λ _. cond_both (nat_eq f.value.size w.opening.size) last (refused w refusal.OtherSize) (StaysIfRefused w why) (λ _ h. absurd (cc)) (λ _ _. refl))
refused_stays w (event.Show v) why =
    cond_both (nat_le w.opening.size v) (refused w refusal.BadDest) (answered w (reply.Route (best w v).dist (best w v).via))
    (StaysIfRefused w why) (λ _ _. refl) (λ _ _. refl)

pub refused_changes_nothing : (d : Domain) (u : ℕ) (e : Event) (why : EventRefusal) → (next (d.router u) e).reply ≡ reply.Refused why → enters d u e ≡ d
refused_changes_nothing d u e why h = ap (λ r. with_router d u r) (refused_stays (d.router u) e why h) ∙ router_same d u

-- a domain in order is quiet if its links are
pub quiet_links : (d : Domain) → IsInOrder d →
    ((u w : ℕ) → u < d.size → w < d.size → are_linked d u w ≡ true → (neighbour d u w).queue ≡ []) →
    ((u w : ℕ) → u < d.size → w < d.size → are_linked d u w ≡ true → d.flight u w ≡ []) → IsQuiet d
quiet_links d o queues flights = record {
  queues = λ u w from to. elim (cases_Bool (are_linked d u w)) [
    | inl linked ↦ queues u w from to linked
    | inr down ↦ ((o.sound u from).queues w to).idle down
  ];
  flights = λ u w from to. elim (cases_Bool (are_linked d u w)) [
    | inl linked ↦ flights u w from to linked
    | inr down ↦ o.silent u w from to down
  ];
}
