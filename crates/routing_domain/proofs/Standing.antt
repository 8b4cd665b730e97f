-- Distances below a bound stand still while links, routers and filters change that no route below it needs.
use mathlib.Core.Logic.{inl, inr}
use Rattle.std.proofs.Common.{◌≡◌, ◌⊎◌, ⊎_elim, ℕ, ◌+◌, ◌<◌, ◌≤◌, zero, suc, true, false, cond, nat_eq, All, Option, Some, List, [], ◌∷◌, ◌++◌, length, slice_index, replicate, take, refl, sym, ap, subst, ◌∙◌, arith, eq-eqb, ne_eqb}
use Rattle.std.proofs.Common.{Global}
use Rattle.std.specs.declared.sync.Arc.{Arc}
use Rattle.std.specs.Prelude.{◌≢◌, is_some}
use Rattle.std.proofs.lemmas.Bool.{cases_eq, cond_both, eqb-true}
use Rattle.std.proofs.lemmas.List.Elements.{All-append, All-cons, All-drop, All-head, All-nil, All-tail, All-take, All-weaker}
use Rattle.filter_verifier.specs.VerifiedView.{VerifiedView}
use Rattle.netchange_core.specs.declared.event.Event.TheVariants as event
use Rattle.netchange_core.specs.declared.message.Message.{Message}
use Rattle.netchange_core.specs.Best.{distance}
use Rattle.netchange_core.specs.FilteredDistance.{filtered_distance}
use Rattle.netchange_core.specs.Calls.{opened}
use Rattle.netchange_core.specs.declared.reply.EventRefusal.TheVariants as refusal
use Rattle.netchange_core.specs.declared.reply.Reply.TheVariants as reply
use Rattle.netchange_core.specs.Next.{Answered, advertising, all_messages, answered, dequeued, exporting, gone, importing, is_no_neighbour, joined, message_of, next, receive, recomputed, refused}
use Rattle.netchange_core.specs.OpeningView.{OpeningView}
use Rattle.netchange_core.specs.World.{NeighbourView, World, change, changed, is_up, neighbour_at, nobody}
use Rattle.netchange_core.proofs.Change.{changed_at}
use Rattle.netchange_core.proofs.Goes.{neighbour_below}
use Rattle.routing_domain.specs.Domain.{Domain, IsMember, are_linked, neighbour}
use Rattle.routing_domain.specs.Events.{in_session}
use Rattle.routing_domain.specs.Failures.{HappenAll, Happens, Hands, Gets, Loses, Up, Down, Import, Export, Restart, Loose}
use Rattle.routing_domain.specs.Network.{CanComeUp, Network, comes_up, enters_there, fails, gets, goes_down, hands, restarts}
use Rattle.routing_domain.specs.Steps.{IsNext, sends, with_flight, with_router}
use Rattle.routing_domain.proofs.ComingUp.{unreached_at}
use Rattle.routing_domain.proofs.Cuts.{goes, leaver, leaver_down, leaver_member}
use Rattle.routing_domain.proofs.Fair.{Fair, HearsFair, IsWatched, Sees, distance_fair, told_fair}
use Rattle.routing_domain.proofs.Filters.{export_member, exporter, exporter_distance, import_member}
use Rattle.routing_domain.proofs.Getting.{receiver_member}
use Rattle.routing_domain.proofs.GoingDown.{left_by, unlike_member}
use Rattle.routing_domain.proofs.Handing.{sender_member}
use Rattle.routing_domain.proofs.Links.{joiner, joiner_at, joiner_distance, joiner_member, up_joins}
use Rattle.routing_domain.proofs.Moving.{set_heard}
use Rattle.routing_domain.proofs.Nearing.{IsRight}
use Rattle.routing_domain.proofs.Places.{flight_from_other, flight_here, flight_to_other, router_here, router_other, router_same}
use Rattle.routing_domain.proofs.Receives.{received_by, receiver, receiver_advertised}
use Rattle.routing_domain.proofs.Recomputed.{changed_other}
use Rattle.routing_domain.proofs.Restarting.{opened_member}
use Rattle.routing_domain.proofs.Seen.{changed_seen, recomputed_other, recomputed_seen}
use Rattle.routing_domain.proofs.Sends.{advertised_still, seen_here, sender, session_still}
use Rattle.routing_domain.proofs.Starting.{down_at, idle_at}
use Rattle.routing_domain.proofs.Telling.{IsSaid, Queues, QueuesAfter, receiver_queues, recomputed_queues}
use Rattle.routing_domain.proofs.Turning.{IsAbout}

-- all that was told about the destination, waits or is on its way is fair
pub record Stands (d : Domain) (v k : ℕ) (loose : Loose) (a : ℕ → ℕ) (e : Domain) : Type 0 where
  pub size : e.size ≡ d.size
  pub sees : (u : ℕ) → u < d.size → Sees d v loose u (e.router u)
  pub hears : (u : ℕ) → u < d.size → HearsFair d v k loose a u (e.router u)
  pub queues : (u w : ℕ) → u < d.size → w < d.size → All (IsAbout v (Fair d v k loose a u w)) (neighbour e u w).queue
  pub flights : (u w : ℕ) → u < d.size → w < d.size → All (IsAbout v (Fair d v k loose a u w)) (e.flight u w)

-- a message is fair, or says what the router's distance comes to
abbrev OrTold : Domain → ℕ → ℕ → Loose → (ℕ → ℕ) → ℕ → ℕ → World → ℕ → Type 0
OrTold d v k loose a u w s z = (Fair d v k loose a u w z) ⊎ (z ≡ filtered_distance s.opening (neighbour_at s.neighbours w).exports v (distance s v))

-- one router is in a new world, in which it heard what is fair and queued what is fair or says its distance
record IsEvent (d : Domain) (v k : ℕ) (loose : Loose) (a : ℕ → ℕ) (e f : Domain) (u : ℕ) (s : World) : Type 0 where
  size : f.size ≡ d.size
  now : f.router u ≡ s
  others : (x : ℕ) → x ≢ u → f.router x ≡ e.router x
  sees : Sees d v loose u s
  hears : HearsFair d v k loose a u s
  queues : (w : ℕ) → w < d.size → All (IsAbout v (OrTold d v k loose a u w s)) (neighbour_at s.neighbours w).queue
  flights : (x y : ℕ) → x < d.size → y < d.size → All (IsAbout v (Fair d v k loose a x y)) (f.flight x y)

event_stands : (d : Domain) (v k : ℕ) (loose : Loose) (a b : ℕ → ℕ) (e f : Domain) (u : ℕ) (s : World) → IsWatched d v k loose a b → u < d.size → Stands d v k loose a e →
    IsEvent d v k loose a e f u s → Stands d v k loose a f
event_stands d v k loose a b e f u s watched short was i = record {
  size = i.size;
  sees = λ x from. ⊎_elim (λ (here : x ≡ u). subst (λ y. Sees d v loose y (f.router y)) (sym here) (subst (Sees d v loose u) (sym i.now) i.sees))
      (λ (far : x ≡ u → ⊥). subst (Sees d v loose x) (sym (i.others x far)) (was.sees x from)) (cases_eq x u);
  hears = λ x from. ⊎_elim (λ (here : x ≡ u). subst (λ y. HearsFair d v k loose a y (f.router y)) (sym here) (subst (HearsFair d v k loose a u) (sym i.now) i.hears))
      (λ (far : x ≡ u → ⊥). subst (HearsFair d v k loose a x) (sym (i.others x far)) (was.hears x from)) (cases_eq x u);
  queues = λ x w from to. ⊎_elim
      (λ (here : x ≡ u). subst (λ y. All (IsAbout v (Fair d v k loose a y w)) (neighbour_at (f.router y).neighbours w).queue) (sym here)
      (subst (λ r. All (IsAbout v (Fair d v k loose a u w)) (neighbour_at r.neighbours w).queue) (sym i.now) (queue w to)))
      (λ (far : x ≡ u → ⊥). subst (λ r. All (IsAbout v (Fair d v k loose a x w)) (neighbour_at r.neighbours w).queue) (sym (i.others x far)) (was.queues x w from to))
      (cases_eq x u);
  flights = i.flights;
}
  where
    right : IsRight k (a u) (a u) (distance s v)
    right = distance_fair d v k loose a b u s watched i.sees i.hears short

    queue : (w : ℕ) → w < d.size → All (IsAbout v (Fair d v k loose a u w)) (neighbour_at s.neighbours w).queue
    queue w to =
        All-weaker (IsAbout v (OrTold d v k loose a u w s)) (IsAbout v (Fair d v k loose a u w))
        (λ m says about. ⊎_elim
        (λ (fair : Fair d v k loose a u w m.dist). fair)
        (λ (told : m.dist ≡ filtered_distance s.opening (neighbour_at s.neighbours w).exports v (distance s v)).
        subst (Fair d v k loose a u w) (sym told) (told_fair d v k loose a u s i.sees right w))
        (says about))
        (neighbour_at s.neighbours w).queue (i.queues w to)

-- what is fair, or says a distance
fair_only : (d : Domain) (v k : ℕ) (loose : Loose) (a : ℕ → ℕ) (u w : ℕ) (s : World) (ms : List Message) → All (IsAbout v (Fair d v k loose a u w)) ms →
    All (IsAbout v (OrTold d v k loose a u w s)) ms
fair_only d v k loose a u w s ms all =
    All-weaker (IsAbout v (Fair d v k loose a u w)) (IsAbout v (OrTold d v k loose a u w s)) (λ m fair about. inl (fair about)) ms all

said_only : (d : Domain) (v k : ℕ) (loose : Loose) (a : ℕ → ℕ) (u w : ℕ) (s : World) (ms : List Message) →
    All (IsSaid s.opening (neighbour_at s.neighbours w).exports (distance s)) ms → All (IsAbout v (OrTold d v k loose a u w s)) ms
said_only d v k loose a u w s ms all =
    All-weaker (IsSaid s.opening (neighbour_at s.neighbours w).exports (distance s)) (IsAbout v (OrTold d v k loose a u w s))
    (λ m said about. inr (said ∙ ap (λ x. filtered_distance s.opening (neighbour_at s.neighbours w).exports x (distance s x)) about)) ms all

-- a router sees as before
sees_on : (d : Domain) (v : ℕ) (loose : Loose) (u : ℕ) (r s : World) → Sees d v loose u r → IsMember d.size u s → s.opening ≡ r.opening →
    ((w : ℕ) → loose.links u w ≡ false → is_up (neighbour_at s.neighbours w) ≡ is_up (neighbour_at r.neighbours w)) →
    ((w : ℕ) → loose.filters u w ≡ false → (neighbour_at s.neighbours w).imports ≡ (neighbour_at r.neighbours w).imports) →
    ((w : ℕ) → loose.filters w u ≡ false → (neighbour_at s.neighbours w).exports ≡ (neighbour_at r.neighbours w).exports) → Sees d v loose u s
sees_on d v loose u r s was member opening up imports exports = record {
  member = member;
  up = λ w beside. up w beside ∙ was.up w beside;
  imports = λ w fixed z. same z (imports w fixed) ∙ was.imports w fixed z;
  exports = λ w fixed z. same z (exports w fixed) ∙ was.exports w fixed z;
}
  where
    same : {x y : Option VerifiedView} (z : ℕ) → x ≡ y → filtered_distance s.opening x v z ≡ filtered_distance r.opening y v z
    same z h = λ i. filtered_distance (opening i) (h i) v z

-- a node hands over
hands_event : (d : Domain) (v k : ℕ) (loose : Loose) (a : ℕ → ℕ) (e f : Domain) (u w max : ℕ) → Stands d v k loose a e → u < d.size → w < d.size →
    f.size ≡ e.size → f.router u ≡ sender (e.router u) w max → ((x : ℕ) → x ≢ u → f.router x ≡ e.router x) →
    ((x y : ℕ) → x < d.size → y < d.size → All (IsAbout v (Fair d v k loose a x y)) (f.flight x y)) →
    IsEvent d v k loose a e f u (sender (e.router u) w max)
hands_event d v k loose a e f u w max was from to size now others flights = record {
  size = size ∙ was.size;
  now = now;
  others = others;
  sees = sees_on d v loose u r (sender r w max) mine (sender_member d.size u w max r mine.member to) refl
      (λ b _. ap is_some (session_still r w max b near))
      (λ b _. changed_seen (λ n. n.imports) r w (dequeued max) b refl)
      (λ b _. changed_seen (λ n. n.exports) r w (dequeued max) b refl);
  hears = λ b below up.
      subst (λ xs. Fair d v k loose a b u (slice_index xs v)) (sym (advertised_still r w max b near))
      (was.hears u from b below (sym (ap is_some (session_still r w max b near)) ∙ up));
  queues = λ b below. fair_only d v k loose a u b (sender r w max) (neighbour_at (sender r w max).neighbours b).queue
      (⊎_elim
      (λ (here : b ≡ w). subst (λ y. All (IsAbout v (Fair d v k loose a u y)) (neighbour_at (sender r w max).neighbours y).queue) (sym here)
      (subst (λ n. All (IsAbout v (Fair d v k loose a u w)) n.queue) (sym (seen_here r w max near))
      (All-drop (IsAbout v (Fair d v k loose a u w)) max (neighbour_at r.neighbours w).queue (was.queues u w from to))))
      (λ (far : b ≡ w → ⊥). subst (λ n. All (IsAbout v (Fair d v k loose a u b)) n.queue) (sym (changed_other w b (dequeued max) r.neighbours near far))
      (was.queues u b from below))
      (cases_eq b w));
  flights = flights;
}
  where
    r : World
    r = e.router u

    mine : Sees d v loose u r
    mine = was.sees u from

    near : w < length r.neighbours
    near = omega (arith, to, mine.member.tables.one_a_node)

-- what is on its way between two nodes, where it is set to something for one pair
flights_set : (d : Domain) (v k : ℕ) (loose : Loose) (a : ℕ → ℕ) (e f : Domain) (u w : ℕ) (ms : List Message) → Stands d v k loose a e →
    ((x y : ℕ) → f.flight x y ≡ (with_flight e u w ms).flight x y) →
    All (IsAbout v (Fair d v k loose a u w)) ms → (x y : ℕ) → x < d.size → y < d.size → All (IsAbout v (Fair d v k loose a x y)) (f.flight x y)
flights_set d v k loose a e f u w ms was set all x y from to =
    subst (All (IsAbout v (Fair d v k loose a x y))) (sym (set x y))
    (⊎_elim
    (λ (one : x ≡ u). ⊎_elim
    (λ (two : y ≡ w).
    subst (λ z. All (IsAbout v (Fair d v k loose a z y)) ((with_flight e u w ms).flight z y)) (sym one)
    (subst (λ z. All (IsAbout v (Fair d v k loose a u z)) ((with_flight e u w ms).flight u z)) (sym two)
    (subst (All (IsAbout v (Fair d v k loose a u w))) (sym (flight_here e u w ms)) all)))
    (λ (far : y ≡ w → ⊥). subst (All (IsAbout v (Fair d v k loose a x y))) (sym (flight_to_other e u w ms x y far)) (was.flights x y from to))
    (cases_eq y w))
    (λ (far : x ≡ u → ⊥). subst (All (IsAbout v (Fair d v k loose a x y))) (sym (flight_from_other e u w ms x y far)) (was.flights x y from to))
    (cases_eq x u))

hands_stands : (d : Domain) (v k : ℕ) (loose : Loose) (a b : ℕ → ℕ) → IsWatched d v k loose a b → (n : Network) (u w max : ℕ) → Stands d v k loose a n.domain →
    u < d.size → w < d.size → Stands d v k loose a (hands n u w max).domain
hands_stands d v k loose a b watched n u w max was from to =
    cond_both (n.carries u w) (sends e u w max) (with_router e u (sender (e.router u) w max)) (Stands d v k loose a)
    (λ _. event_stands d v k loose a b e (sends e u w max) u s watched from was
    (hands_event d v k loose a e (sends e u w max) u w max was from to refl (router_here e u s) (λ x far. router_other e u s x far)
    (flights_set d v k loose a e (sends e u w max) u w (e.flight u w ++ take max (neighbour e u w).queue) was (λ x y. refl)
    (All-append (IsAbout v (Fair d v k loose a u w)) (e.flight u w) (take max (neighbour e u w).queue) (was.flights u w from to)
    (All-take (IsAbout v (Fair d v k loose a u w)) max (neighbour e u w).queue (was.queues u w from to))))))
    (λ _. event_stands d v k loose a b e (with_router e u s) u s watched from was
    (hands_event d v k loose a e (with_router e u s) u w max was from to refl (router_here e u s) (λ x far. router_other e u s x far) was.flights))
  where
    e : Domain
    e = n.domain

    s : World
    s = sender (e.router u) w max

-- a node gets a message
gets_stands : (d : Domain) (v k : ℕ) (loose : Loose) (a b : ℕ → ℕ) → IsWatched d v k loose a b → (n : Network) (u w : ℕ) (m : Message) (rest : List Message) →
    Stands d v k loose a n.domain → IsNext n.domain u w m rest → Stands d v k loose a (gets n u w m rest).domain
gets_stands d v k loose a b watched n u w m rest was is_next =
    event_stands d v k loose a b e (gets n u w m rest).domain w (receiver r u m) watched to was (record {
      size = was.size;
      now = router_here e w (receive r (Some u) m.dest m.dist).world
          ∙ ap (λ x. x.world) (received_by r u m.dest m.dist (omega (arith, dest, mine.member.size)) (omega (arith, dist, mine.member.size)));
      others = λ x far. router_other e w (receive r (Some u) m.dest m.dist).world x far;
      sees = sees_on d v loose w r (receiver r u m) mine (receiver_member d.size w u r m mine.member from dest dist) refl
          (λ x _. recomputed_seen is_up r u f x (λ _ _. refl) refl)
          (λ x _. recomputed_seen (λ y. y.imports) r u f x (λ _ _. refl) refl)
          (λ x _. recomputed_seen (λ y. y.exports) r u f x (λ _ _. refl) refl);
      hears = hears;
      queues = queues;
      flights = flights_set d v k loose a e (gets n u w m rest).domain u w rest was (λ x y. refl) (All-tail (IsAbout v (Fair d v k loose a u w)) m rest on_way);
    })
  where
    e : Domain
    e = n.domain

    r : World
    r = e.router w

    f : NeighbourView → NeighbourView
    f = advertising m.dest m.dist

    from : u < d.size
    from = omega (arith, is_next.from, was.size)

    to : w < d.size
    to = omega (arith, is_next.to, was.size)

    dest : m.dest < d.size
    dest = omega (arith, is_next.dest, was.size)

    dist : m.dist ≤ d.size
    dist = omega (arith, is_next.dist, was.size)

    mine : Sees d v loose w r
    mine = was.sees w to

    near : u < length r.neighbours
    near = omega (arith, from, mine.member.tables.one_a_node)

    on_way : All (IsAbout v (Fair d v k loose a u w)) (m ∷ rest)
    on_way = subst (All (IsAbout v (Fair d v k loose a u w))) is_next.first (was.flights u w from to)

    was_up : (x : ℕ) → x < d.size → is_up (neighbour_at (receiver r u m).neighbours x) ≡ true → is_up (neighbour_at r.neighbours x) ≡ true
    was_up x below up = sym (recomputed_seen is_up r u f x (λ _ _. refl) refl) ∙ up

    told : Fair d v k loose a u w (cond (nat_eq m.dest v) m.dist (slice_index (neighbour_at r.neighbours u).advertised v))
    told = cond_both (nat_eq m.dest v) m.dist (slice_index (neighbour_at r.neighbours u).advertised v) (Fair d v k loose a u w)
        (λ same. All-head (IsAbout v (Fair d v k loose a u w)) m rest on_way (eqb-true m.dest v same))
        (λ _. was.hears w to u from is_next.linked)

    hears : HearsFair d v k loose a w (receiver r u m)
    hears x below up =
        subst (λ xs. Fair d v k loose a x w (slice_index xs v)) (sym (receiver_advertised r u x m (omega (arith, below, mine.member.tables.one_a_node))))
        (⊎_elim
        (λ (here : x ≡ u). subst (λ y. Fair d v k loose a y w (slice_index (neighbour_at (change u f r.neighbours) y).advertised v)) (sym here)
        (subst (λ y. Fair d v k loose a u w (slice_index y.advertised v)) (sym (changed_at u f r.neighbours near))
        (subst (Fair d v k loose a u w)
        (sym (set_heard (neighbour_at r.neighbours u).advertised m.dest m.dist v
        (omega (arith, dest, (mine.member.tables.each u nobody near).one_a_node))))
        told)))
        (λ (far : x ≡ u → ⊥). subst (λ y. Fair d v k loose a x w (slice_index y.advertised v)) (sym (changed_other u x f r.neighbours near far))
        (was.hears w to x below (was_up x below up)))
        (cases_eq x u))

    queues : (x : ℕ) → x < d.size → All (IsAbout v (OrTold d v k loose a w x (receiver r u m))) (neighbour_at (receiver r u m).neighbours x).queue
    queues x below =
        let y : Queues d.size r (receiver r u m) x =
        receiver_queues d.size r u x m mine.member.size (omega (arith, below, mine.member.tables.one_a_node)) in
        subst (All (IsAbout v (OrTold d v k loose a w x (receiver r u m)))) (sym y.queue)
        (All-append (IsAbout v (OrTold d v k loose a w x (receiver r u m))) (neighbour_at r.neighbours x).queue y.more
        (fair_only d v k loose a w x (receiver r u m) (neighbour_at r.neighbours x).queue (was.queues w x to below))
        (said_only d v k loose a w x (receiver r u m) y.more y.says))

-- a direction fails
loses_stands : (d : Domain) (v k : ℕ) (loose : Loose) (a : ℕ → ℕ) (n : Network) (u w kept : ℕ) → Stands d v k loose a n.domain → u < d.size → w < d.size →
    Stands d v k loose a (fails n u w kept).domain
loses_stands d v k loose a n u w kept was from to = record {
  size = was.size;
  sees = was.sees;
  hears = was.hears;
  queues = was.queues;
  flights = flights_set d v k loose a n.domain (fails n u w kept).domain u w (take kept (n.domain.flight u w)) was (λ x y. refl)
      (All-take (IsAbout v (Fair d v k loose a u w)) kept (n.domain.flight u w) (was.flights u w from to));
}

-- all distances told, as they were
all_said : (o : OpeningView) (exports : Option VerifiedView) (dist : ℕ → ℕ) (count : ℕ) → All (IsSaid o exports dist) (all_messages o exports dist count)
all_said o exports dist zero = All-nil (IsSaid o exports dist)
all_said o exports dist (suc v) =
    All-append (IsSaid o exports dist) (all_messages o exports dist v) (message_of o exports v (dist v) ∷ []) (all_said o exports dist v)
    (All-cons (IsSaid o exports dist) (message_of o exports v (dist v)) [] refl (All-nil (IsSaid o exports dist)))

-- an end of the link comes up
comes_up_stands : (d : Domain) (v k : ℕ) (loose : Loose) (a b : ℕ → ℕ) → IsWatched d v k loose a b → (n : Network) (u w : ℕ) → Stands d v k loose a n.domain →
    loose.links u w ≡ true → CanComeUp n.domain u w → Stands d v k loose a (comes_up n u w).domain
comes_up_stands d v k loose a b watched n u w was ends can =
    event_stands d v k loose a b e (comes_up n u w).domain u s watched from was (record {
      size = was.size;
      now = router_here e u (next r (event.Up w)).world
          ∙ ap (λ x. x.world) (up_joins d.size u w r mine.member to (λ h. can.apart (sym h)) can.unlinked can.left);
      others = λ x far. router_other e u (next r (event.Up w)).world x far;
      sees = sees_on d v loose u r s mine (joiner_member d.size u w r mine.member to (λ h. can.apart (sym h))) refl
          (λ x beside. ap is_up (changed_other w x f r.neighbours near (λ h. unlike x beside h)))
          (λ x _. changed_seen (λ y. y.imports) r w f x refl)
          (λ x _. changed_seen (λ y. y.exports) r w f x refl);
      hears = hears;
      queues = queues;
      flights = flights_set d v k loose a e (comes_up n u w).domain u w [] was (λ x y. refl) (All-nil (IsAbout v (Fair d v k loose a u w)));
    })
  where
    e : Domain
    e = n.domain

    r : World
    r = e.router u

    s : World
    s = joiner r w

    f : NeighbourView → NeighbourView
    f = joined r.opening (distance r) (r.sessions + 1)

    from : u < d.size
    from = omega (arith, can.from, was.size)

    to : w < d.size
    to = omega (arith, can.to, was.size)

    mine : Sees d v loose u r
    mine = was.sees u from

    near : w < length r.neighbours
    near = omega (arith, to, mine.member.tables.one_a_node)

    unlike : (x : ℕ) → loose.links u x ≡ false → x ≡ w → ⊥
    unlike x beside here = let both : true ≡ false = sym ends ∙ ap (loose.links u) (sym here) ∙ beside in cc

    back : loose.links w u ≡ true
    back = watched.loose_ends.back u w ends

    nothing_yet : slice_index (neighbour_at s.neighbours w).advertised v ≡ d.size
    nothing_yet =
        ap (λ y. slice_index y.advertised v) (joiner_at d.size u w r mine.member to)
        ∙ ap (λ z. slice_index (replicate z z) v) mine.member.size
        ∙ unreached_at d.size v watched.there

    hears : HearsFair d v k loose a u s
    hears x below up = ⊎_elim
        (λ (here : x ≡ w). subst (λ y. Fair d v k loose a y u (slice_index (neighbour_at s.neighbours y).advertised v)) (sym here)
        (subst (Fair d v k loose a w u) (sym nothing_yet)
        (inr (inr ((λ beside. absurd (let both : true ≡ false = sym back ∙ beside in cc)), watched.fits)))))
        (λ (far : x ≡ w → ⊥).
        let same : neighbour_at s.neighbours x ≡ neighbour_at r.neighbours x = changed_other w x f r.neighbours near far in
        subst (λ y. Fair d v k loose a x u (slice_index y.advertised v)) (sym same) (was.hears u from x below (sym (ap is_up same) ∙ up)))
        (cases_eq x w)

    all_told : All (IsAbout v (OrTold d v k loose a u w s)) (neighbour_at s.neighbours w).queue
    all_told =
        subst (λ y. All (IsAbout v (OrTold d v k loose a u w s)) y.queue) (sym (joiner_at d.size u w r mine.member to))
        (All-weaker (IsSaid r.opening (neighbour_at r.neighbours w).exports (distance r)) (IsAbout v (OrTold d v k loose a u w s))
        (λ m said about. inr (
        said
        ∙ ap (λ x. filtered_distance r.opening (neighbour_at r.neighbours w).exports x (distance r x)) about
        ∙ ap (λ x. filtered_distance r.opening x v (distance r v)) (sym (changed_seen (λ y. y.exports) r w f w refl))
        ∙ ap (filtered_distance r.opening (neighbour_at s.neighbours w).exports v)
        (sym (joiner_distance d.size u w v r mine.member can.unlinked watched.there))))
        (all_messages r.opening (neighbour_at r.neighbours w).exports (distance r) r.opening.size)
        (all_said r.opening (neighbour_at r.neighbours w).exports (distance r) r.opening.size))

    queues : (x : ℕ) → x < d.size → All (IsAbout v (OrTold d v k loose a u x s)) (neighbour_at s.neighbours x).queue
    queues x below = ⊎_elim
        (λ (here : x ≡ w). subst (λ y. All (IsAbout v (OrTold d v k loose a u y s)) (neighbour_at s.neighbours y).queue) (sym here) all_told)
        (λ (far : x ≡ w → ⊥).
        subst (λ y. All (IsAbout v (OrTold d v k loose a u x s)) y.queue) (sym (changed_other w x f r.neighbours near far))
        (fair_only d v k loose a u x s (neighbour_at r.neighbours x).queue (was.queues u x from below)))
        (cases_eq x w)

-- an end of the link goes down
goes_down_stands : (d : Domain) (v k : ℕ) (loose : Loose) (a b : ℕ → ℕ) → IsWatched d v k loose a b → (n : Network) (u w : ℕ) → Stands d v k loose a n.domain →
    loose.links u w ≡ true → u < d.size → w < d.size → are_linked n.domain u w ≡ true → Stands d v k loose a (goes_down n u w).domain
goes_down_stands d v k loose a b watched n u w was ends from to linked =
    event_stands d v k loose a b e (goes_down n u w).domain u s watched from was (record {
      size = was.size;
      now = router_here e u (in_session r (neighbour e u w).session goes) ∙ left_by d.size u w r mine.member linked;
      others = λ x far. router_other e u (in_session r (neighbour e u w).session goes) x far;
      sees = sees_on d v loose u r s mine (leaver_member d.size u w r mine.member to apart) refl
          (λ x beside. recomputed_other is_up r w f x (λ _ _. refl) near (λ h. unlike x beside h))
          (λ x _. recomputed_seen (λ y. y.imports) r w f x (λ _ _. refl) refl)
          (λ x _. recomputed_seen (λ y. y.exports) r w f x (λ _ _. refl) refl);
      hears = hears;
      queues = queues;
      flights = flights_set d v k loose a e (goes_down n u w).domain w u [] was (λ x y. refl) (All-nil (IsAbout v (Fair d v k loose a w u)));
    })
  where
    e : Domain
    e = n.domain

    r : World
    r = e.router u

    s : World
    s = leaver r w

    f : NeighbourView → NeighbourView
    f = gone r.opening

    mine : Sees d v loose u r
    mine = was.sees u from

    near : w < length r.neighbours
    near = omega (arith, to, mine.member.tables.one_a_node)

    apart : w ≡ u → ⊥
    apart h = unlike_member d.size u w r mine.member linked (sym h)

    unlike : (x : ℕ) → loose.links u x ≡ false → x ≡ w → ⊥
    unlike x beside here = let both : true ≡ false = sym ends ∙ ap (loose.links u) (sym here) ∙ beside in cc

    hears : HearsFair d v k loose a u s
    hears x below up = ⊎_elim
        (λ (here : x ≡ w). absurd (
        let both : true ≡ false = sym up ∙ ap (λ y. is_up (neighbour_at s.neighbours y)) here ∙ leaver_down d.size u w r mine.member to in cc))
        (λ (far : x ≡ w → ⊥).
        subst (λ y. Fair d v k loose a x u (slice_index y v)) (sym (recomputed_other (λ y. y.advertised) r w f x (λ _ _. refl) near far))
        (was.hears u from x below (sym (recomputed_other is_up r w f x (λ _ _. refl) near far) ∙ up)))
        (cases_eq x w)

    kept : (x : ℕ) → x < d.size → All (IsAbout v (Fair d v k loose a u x)) (neighbour_at (change w f r.neighbours) x).queue
    kept x below = ⊎_elim
        (λ (here : x ≡ w). subst (λ y. All (IsAbout v (Fair d v k loose a u y)) (neighbour_at (change w f r.neighbours) y).queue) (sym here)
        (subst (λ y. All (IsAbout v (Fair d v k loose a u w)) y.queue) (sym (changed_at w f r.neighbours near)) (All-nil (IsAbout v (Fair d v k loose a u w)))))
        (λ (far : x ≡ w → ⊥).
        subst (λ y. All (IsAbout v (Fair d v k loose a u x)) y.queue) (sym (changed_other w x f r.neighbours near far)) (was.queues u x from below))
        (cases_eq x w)

    queues : (x : ℕ) → x < d.size → All (IsAbout v (OrTold d v k loose a u x s)) (neighbour_at s.neighbours x).queue
    queues x below =
        let y : QueuesAfter d.size r w f x = recomputed_queues d.size r w x f mine.member.size (omega (arith, below, mine.member.tables.one_a_node)) in
        subst (All (IsAbout v (OrTold d v k loose a u x s))) (sym y.queue)
        (All-append (IsAbout v (OrTold d v k loose a u x s)) (neighbour_at (change w f r.neighbours) x).queue y.more
        (fair_only d v k loose a u x s (neighbour_at (change w f r.neighbours) x).queue (kept x below))
        (said_only d v k loose a u x s y.more y.says))

-- a filter is replaced, or its event refused
import_stands : (d : Domain) (v k : ℕ) (loose : Loose) (a b : ℕ → ℕ) → IsWatched d v k loose a b → (n : Network) (u w : ℕ) (f : Arc VerifiedView Global) →
    Stands d v k loose a n.domain → loose.filters u w ≡ true → u < d.size → Stands d v k loose a (enters_there n u (event.SetImport w f)).domain
import_stands d v k loose a b watched n u w f was changes from =
    cond_both (is_no_neighbour r.opening w) (refused r refusal.NoNode) (cond (nat_eq f.value.size r.opening.size) after (refused r refusal.OtherSize)) P (λ _. same)
    (λ is. cond_both (nat_eq f.value.size r.opening.size) after (refused r refusal.OtherSize) P
    (λ fits. set (omega (arith, mine.member.size, neighbour_below r.opening w is)) (eqb-true f.value.size r.opening.size fits)) (λ _. same))
  where
    e : Domain
    e = n.domain

    r : World
    r = e.router u

    g : NeighbourView → NeighbourView
    g = importing f.value

    after : Answered
    after = recomputed r (changed r w g)

    s : World
    s = after.world

    P : Answered → Type 0
    P x = Stands d v k loose a (with_router e u x.world)

    same : P (refused r refusal.NoNode)
    same = subst (Stands d v k loose a) (sym (router_same e u)) was

    mine : Sees d v loose u r
    mine = was.sees u from

    unlike : (x : ℕ) → loose.filters u x ≡ false → x ≡ w → ⊥
    unlike x fixed here = let both : true ≡ false = sym changes ∙ ap (loose.filters u) (sym here) ∙ fixed in cc

    set : w < d.size → f.value.size ≡ r.opening.size → P after
    set to fits = event_stands d v k loose a b e (with_router e u s) u s watched from was (record {
      size = was.size;
      now = router_here e u s;
      others = λ x far. router_other e u s x far;
      sees = sees_on d v loose u r s mine (import_member d.size u w r f.value mine.member to fits) refl
          (λ x _. recomputed_seen is_up r w g x (λ _ _. refl) refl)
          (λ x fixed. recomputed_other (λ y. y.imports) r w g x (λ _ _. refl) (omega (arith, to, mine.member.tables.one_a_node)) (λ h. unlike x fixed h))
          (λ x _. recomputed_seen (λ y. y.exports) r w g x (λ _ _. refl) refl);
      hears = λ x below up.
          subst (λ ys. Fair d v k loose a x u (slice_index ys v)) (sym (recomputed_seen (λ y. y.advertised) r w g x (λ _ _. refl) refl))
          (was.hears u from x below (sym (recomputed_seen is_up r w g x (λ _ _. refl) refl) ∙ up));
      queues = queues;
      flights = was.flights;
    })
      where
        queues : (x : ℕ) → x < d.size → All (IsAbout v (OrTold d v k loose a u x s)) (neighbour_at s.neighbours x).queue
        queues x below =
            let y : QueuesAfter d.size r w g x = recomputed_queues d.size r w x g mine.member.size (omega (arith, below, mine.member.tables.one_a_node)) in
            subst (All (IsAbout v (OrTold d v k loose a u x s))) (sym (y.queue ∙ ap (λ q. q ++ y.more) (changed_seen (λ z. z.queue) r w g x refl)))
            (All-append (IsAbout v (OrTold d v k loose a u x s)) (neighbour_at r.neighbours x).queue y.more
            (fair_only d v k loose a u x s (neighbour_at r.neighbours x).queue (was.queues u x from below))
            (said_only d v k loose a u x s y.more y.says))

export_stands : (d : Domain) (v k : ℕ) (loose : Loose) (a b : ℕ → ℕ) → IsWatched d v k loose a b → (n : Network) (u w : ℕ) (f : Arc VerifiedView Global) →
    Stands d v k loose a n.domain → loose.filters w u ≡ true → u < d.size → Stands d v k loose a (enters_there n u (event.SetExport w f)).domain
export_stands d v k loose a b watched n u w f was changes from =
    cond_both (is_no_neighbour r.opening w) (refused r refusal.NoNode) (cond (nat_eq f.value.size r.opening.size) after (refused r refusal.OtherSize)) P (λ _. same)
    (λ is. cond_both (nat_eq f.value.size r.opening.size) after (refused r refusal.OtherSize) P
    (λ fits. set (omega (arith, mine.member.size, neighbour_below r.opening w is)) (eqb-true f.value.size r.opening.size fits)) (λ _. same))
  where
    e : Domain
    e = n.domain

    r : World
    r = e.router u

    g : NeighbourView → NeighbourView
    g = exporting r.opening (distance r) f.value

    s : World
    s = exporter r w f.value

    after : Answered
    after = answered s (reply.Done 0)

    P : Answered → Type 0
    P x = Stands d v k loose a (with_router e u x.world)

    same : P (refused r refusal.NoNode)
    same = subst (Stands d v k loose a) (sym (router_same e u)) was

    mine : Sees d v loose u r
    mine = was.sees u from

    unlike : (x : ℕ) → loose.filters x u ≡ false → x ≡ w → ⊥
    unlike x fixed here = let both : true ≡ false = sym changes ∙ ap (λ y. loose.filters y u) (sym here) ∙ fixed in cc

    set : w < d.size → f.value.size ≡ r.opening.size → P after
    set to fits = event_stands d v k loose a b e (with_router e u s) u s watched from was (record {
      size = was.size;
      now = router_here e u s;
      others = λ x far. router_other e u s x far;
      sees = sees_on d v loose u r s mine (export_member d.size u w r f.value mine.member to fits) refl
          (λ x _. changed_seen is_up r w g x refl)
          (λ x _. changed_seen (λ y. y.imports) r w g x refl)
          (λ x fixed. ap (λ y. y.exports) (changed_other w x g r.neighbours near (λ h. unlike x fixed h)));
      hears = λ x below up.
          subst (λ ys. Fair d v k loose a x u (slice_index ys v)) (sym (changed_seen (λ y. y.advertised) r w g x refl))
          (was.hears u from x below (sym (changed_seen is_up r w g x refl) ∙ up));
      queues = queues;
      flights = was.flights;
    })
      where
        near : w < length r.neighbours
        near = omega (arith, to, mine.member.tables.one_a_node)

        it : NeighbourView
        it = neighbour_at r.neighbours w

        told_all : All (IsAbout v (OrTold d v k loose a u w s)) (all_messages r.opening (Some f.value) (distance r) r.opening.size)
        told_all =
            All-weaker (IsSaid r.opening (Some f.value) (distance r)) (IsAbout v (OrTold d v k loose a u w s))
            (λ m said about. inr (
            said
            ∙ ap (λ x. filtered_distance r.opening (Some f.value) x (distance r x)) about
            ∙ ap (λ x. filtered_distance r.opening (Some f.value) v x) (sym (exporter_distance r w f.value v))
            ∙ ap (λ y. filtered_distance r.opening y.exports v (distance s v)) (sym (changed_at w g r.neighbours near))))
            (all_messages r.opening (Some f.value) (distance r) r.opening.size)
            (all_said r.opening (Some f.value) (distance r) r.opening.size)

        at_it : All (IsAbout v (OrTold d v k loose a u w s)) (neighbour_at s.neighbours w).queue
        at_it =
            let old = fair_only d v k loose a u w s it.queue (was.queues u w from to) in
            subst (λ y. All (IsAbout v (OrTold d v k loose a u w s)) y.queue) (sym (changed_at w g r.neighbours near))
            (cond_both (is_up it) (it.queue ++ all_messages r.opening (Some f.value) (distance r) r.opening.size) it.queue
            (All (IsAbout v (OrTold d v k loose a u w s)))
            (λ _. All-append (IsAbout v (OrTold d v k loose a u w s)) it.queue (all_messages r.opening (Some f.value) (distance r) r.opening.size) old told_all)
            (λ _. old))

        queues : (x : ℕ) → x < d.size → All (IsAbout v (OrTold d v k loose a u x s)) (neighbour_at s.neighbours x).queue
        queues x below = ⊎_elim
            (λ (here : x ≡ w). subst (λ y. All (IsAbout v (OrTold d v k loose a u y s)) (neighbour_at s.neighbours y).queue) (sym here) at_it)
            (λ (far : x ≡ w → ⊥).
            subst (λ y. All (IsAbout v (OrTold d v k loose a u x s)) y.queue) (sym (changed_other w x g r.neighbours near far))
            (fair_only d v k loose a u x s (neighbour_at r.neighbours x).queue (was.queues u x from below)))
            (cases_eq x w)

-- a router ends and is opened anew
restart_stands : (d : Domain) (v k : ℕ) (loose : Loose) (a b : ℕ → ℕ) → IsWatched d v k loose a b → (n : Network) (u : ℕ) (o : OpeningView) →
    Stands d v k loose a n.domain → ((w : ℕ) → loose.filters u w ≡ true) → ((w : ℕ) → loose.filters w u ≡ true) → u < d.size → o.size ≡ d.size → o.me ≡ u →
    Stands d v k loose a (restarts n u o).domain
restart_stands d v k loose a b watched n u o was told tells from size me =
    event_stands d v k loose a b n.domain f u (opened o) watched from was (record {
      size = was.size;
      now = ap (λ t. cond t (opened o) (n.domain.router u)) (eq-eqb u u refl);
      others = λ x far. ap (λ t. cond t (opened o) (n.domain.router x)) (ne_eqb x u far);
      sees = record {
        member = opened_member d.size u o size me;
        up = λ w beside. absurd (let both : true ≡ false = sym (watched.loose_ends.within u w (told w)) ∙ beside in cc);
        imports = λ w fixed. absurd (let both : true ≡ false = sym (told w) ∙ fixed in cc);
        exports = λ w fixed. absurd (let both : true ≡ false = sym (tells w) ∙ fixed in cc);
      };
      hears = λ w below up. absurd (let both : true ≡ false = sym up ∙ down_at o w in cc);
      queues = λ w below. subst (All (IsAbout v (OrTold d v k loose a u w (opened o)))) (sym ((idle_at o w).1)) (All-nil (IsAbout v (OrTold d v k loose a u w (opened o))));
      flights = λ x y below near. cond_both (nat_eq y u) [] (n.domain.flight x y) (All (IsAbout v (Fair d v k loose a x y)))
          (λ _. All-nil (IsAbout v (Fair d v k loose a x y))) (λ _. was.flights x y below near);
    })
  where
    f : Domain
    f = (restarts n u o).domain

-- whatever happens
happens_stands : (d : Domain) (v k : ℕ) (loose : Loose) (a b : ℕ → ℕ) → IsWatched d v k loose a b → (n m : Network) → Stands d v k loose a n.domain → Happens loose n m →
    Stands d v k loose a m.domain
happens_stands d v k loose a b watched n m was (Hands h) =
    subst (λ x. Stands d v k loose a x.domain) (sym h.after)
    (hands_stands d v k loose a b watched n h.from h.to h.max was (omega (arith, h.member, was.size)) (omega (arith, h.member_there, was.size)))
happens_stands d v k loose a b watched n m was (Gets g) =
    subst (λ x. Stands d v k loose a x.domain) (sym g.after) (gets_stands d v k loose a b watched n g.from g.to g.message g.rest was g.is_next)
happens_stands d v k loose a b watched n m was (Loses l) =
    subst (λ x. Stands d v k loose a x.domain) (sym l.after)
    (loses_stands d v k loose a n l.from l.to l.kept was (omega (arith, l.member, was.size)) (omega (arith, l.member_there, was.size)))
happens_stands d v k loose a b watched n m was (Up c) =
    subst (λ x. Stands d v k loose a x.domain) (sym c.after) (comes_up_stands d v k loose a b watched n c.from c.to was c.ends c.can)
happens_stands d v k loose a b watched n m was (Down g) =
    subst (λ x. Stands d v k loose a x.domain) (sym g.after)
    (goes_down_stands d v k loose a b watched n g.from g.to was g.ends (omega (arith, g.member, was.size)) (omega (arith, g.member_there, was.size)) g.linked)
happens_stands d v k loose a b watched n m was (Import i) =
    subst (λ x. Stands d v k loose a x.domain) (sym i.after)
    (import_stands d v k loose a b watched n i.at i.told_by i.filter was i.changes (omega (arith, i.member, was.size)))
happens_stands d v k loose a b watched n m was (Export i) =
    subst (λ x. Stands d v k loose a x.domain) (sym i.after)
    (export_stands d v k loose a b watched n i.at i.told i.filter was i.changes (omega (arith, i.member, was.size)))
happens_stands d v k loose a b watched n m was (Restart r) =
    subst (λ x. Stands d v k loose a x.domain) (sym r.after)
    (restart_stands d v k loose a b watched n r.at r.opening was r.told r.tells (omega (arith, r.member, was.size)) (r.size ∙ was.size) r.me)

pub all_stand : (j : ℕ) (d : Domain) (v k : ℕ) (loose : Loose) (a b : ℕ → ℕ) → IsWatched d v k loose a b → (n m : Network) → Stands d v k loose a n.domain → HappenAll j loose n m →
    Stands d v k loose a m.domain
all_stand zero d v k loose a b watched n m was happen = subst (λ x. Stands d v k loose a x.domain) happen was
all_stand (suc j) d v k loose a b watched n m was happen =
    all_stand j d v k loose a b watched (happen.0) m (happens_stands d v k loose a b watched n (happen.0) was (happen.1)) (happen.2)

pub distance_stands : (d : Domain) (v k : ℕ) (loose : Loose) (a b : ℕ → ℕ) → IsWatched d v k loose a b → (e : Domain) → Stands d v k loose a e → (u : ℕ) → u < d.size →
    a u < k → distance (e.router u) v ≡ a u
distance_stands d v k loose a b watched e s u short near =
    ⊎_elim
    (λ (is : distance (e.router u) v ≡ a u). is)
    (λ (past : (k ≤ a u) × (k ≤ distance (e.router u) v)). absurd (omega (arith, past.0, near)))
    (distance_fair d v k loose a b u (e.router u) watched (s.sees u short) (s.hears u short) short)
