-- What sending and receiving leave, one after another.
use mathlib.Core.Logic.{inl, inr}
use Rattle.std.proofs.Common.{◌≡◌, ⊎_elim, ℕ, ◌+◌, ◌<◌, ◌≤◌, zero, suc, nat_eq, Option, Some, All, List, [], ◌∷◌}
use Rattle.std.proofs.Common.{length, drop, get_or, slice_set, take, refl, sym, ap, subst, ◌∙◌, arith}
use Rattle.std.proofs.lemmas.Bool.{cases_eq, cond_both, eqb-true}
use Rattle.std.proofs.lemmas.List.{drop_more}
use Rattle.netchange_core.specs.declared.message.Message.{Message}
use Rattle.netchange_core.specs.declared.event.Event.{Event}
use Rattle.netchange_core.specs.declared.event.Event.TheVariants as event
use Rattle.netchange_core.specs.declared.reply.Reply.{Reply}
use Rattle.netchange_core.specs.declared.reply.Reply.TheVariants as reply
use Rattle.netchange_core.specs.Best.{distance}
use Rattle.netchange_core.specs.Calls.{carried, session_of}
use Rattle.netchange_core.specs.Next.{answered, dequeued, next}
use Rattle.netchange_core.specs.World.{World, changed, neighbour_at}
use Rattle.netchange_core.proofs.Change.{changed_at}
use Rattle.netchange_core.proofs.Holders.{up_in}
use Rattle.routing_domain.specs.Domain.{Domain, IsInOrder, IsQuiet, neighbour, topology}
use Rattle.routing_domain.specs.Events.{in_session}
use Rattle.routing_domain.specs.Phases.{AreWithin, Phases}
use Rattle.routing_domain.specs.Rest.{IsRest}
use Rattle.routing_domain.specs.Steps.{IsNext, receives, sends}
use Rattle.routing_domain.proofs.Emptied.{quiet_after, quiet_soon, stays_quiet}
use Rattle.routing_domain.proofs.Ending.{run_size, run_topology}
use Rattle.routing_domain.proofs.Joined.{IsJoined, phases_more, round_is_phase, runs_join}
use Rattle.routing_domain.proofs.Recomputed.{changed_other}
use Rattle.routing_domain.proofs.Receiving.{receiving_is_lighter}
use Rattle.routing_domain.proofs.Lighter.{sending_is_lighter}
use Rattle.routing_domain.proofs.Occurring.{first_is_next, receive_receives, take_sends}
use Rattle.routing_domain.proofs.Order.{receiving_keeps_order}
use Rattle.routing_domain.proofs.Quiet.{quiet_rests}
use Rattle.routing_domain.proofs.Sends.{sending_keeps_order}
use Rattle.domain_player.specs.declared.sent.Sent.{Sent}
use Rattle.domain_player.specs.Play.{AreSent, IsBetween, IsPlayed, domain, domain_of, router_at, under_way}
use Rattle.domain_player.proofs.Domains.{receives_as, router_place}
use Rattle.domain_player.proofs.Ways.{under_way_first}

pub nothing_played : (d : Domain) → IsInOrder d → IsPlayed d d 0
nothing_played d o = record { steps = 0; run = refl; in_order = o; lighter = omega arith }

pub played_on : (d e f : Domain) (j k : ℕ) → IsPlayed d e j → IsPlayed e f k → IsPlayed d f (j + k)
played_on d e f j k before after =
    let both : IsJoined before.steps after.steps d e f before.run after.run = runs_join before.steps after.steps d e f before.run after.run in
    record {
      steps = both.steps;
      run = both.run;
      in_order = after.in_order;
      lighter = omega (arith, before.lighter, after.lighter);
    }

pub receives_played : (d : Domain) (u w : ℕ) (m : Message) (rest : List Message) → IsInOrder d → IsNext d u w m rest → IsPlayed d (receives d u w m rest) 1
receives_played d u w m rest o n = record {
  steps = suc zero;
  run = (receives d u w m rest, inl (record { from = u; to = w; message = m; rest = rest; is_next = n; after = refl }), refl);
  in_order = receiving_keeps_order d u w m rest o n;
  lighter = omega (arith, receiving_is_lighter d u w m rest o n);
}

pub nothing_sent : (d : Domain) → IsInOrder d → AreSent d d
nothing_sent d o = record { played = nothing_played d o; still_empty = λ u w empty. empty }

pub sent_on : (d e f : Domain) → AreSent d e → AreSent e f → AreSent d f
sent_on d e f before after = record {
  played = played_on d e f 0 0 before.played after.played;
  still_empty = λ u w empty. after.still_empty u w (before.still_empty u w empty);
}

-- what waits after sending: where nothing waited nothing waits
abbrev nothing : List Message
nothing = []

drop_nil : (k : ℕ) → drop k nothing ≡ nothing
drop_nil zero = refl
drop_nil (suc k) = refl

still_empty_here : (r : World) (w max b : ℕ) → w < length r.neighbours → (neighbour_at r.neighbours b).queue ≡ [] →
    (neighbour_at (changed r w (dequeued max)).neighbours b).queue ≡ []
still_empty_here r w max b near empty =
    ⊎_elim
    (λ here. ap (λ y. (neighbour_at (changed r w (dequeued max)).neighbours y).queue) here
    ∙ ap (λ n. n.queue) (changed_at w (dequeued max) r.neighbours near)
    ∙ ap (drop max) (ap (λ y. (neighbour_at r.neighbours y).queue) (sym here) ∙ empty)
    ∙ drop_nil max)
    (λ other. ap (λ n. n.queue) (changed_other w b (dequeued max) r.neighbours near other) ∙ empty)
    (cases_eq b w)

pub sends_sent : (d : Domain) (u w max : ℕ) → IsInOrder d → u < d.size → w < d.size →
    0 < length (take max (neighbour d u w).queue) → AreSent d (sends d u w max)
sends_sent d u w max o from to some = record {
  played = record {
    steps = suc zero;
    run = (
      sends d u w max,
      inr (inl (record { from = u; to = w; max = max; member = from; member_there = to; some = some; after = refl })),
      refl,
    );
    in_order = sending_keeps_order d u w max o from to;
    lighter = omega (arith, sending_is_lighter d u w max o from to some);
  };
  still_empty = λ a b empty.
      cond_both (nat_eq a u) (changed (d.router u) w (dequeued max)) (d.router a) (λ r. (neighbour_at r.neighbours b).queue ≡ [])
      (λ same. still_empty_here (d.router u) w max b near (ap (λ x. (neighbour d x b).queue) (sym (eqb-true a u same)) ∙ empty))
      (λ _. empty);
}
  where
    near : w < length (d.router u).neighbours
    near = omega (arith, to, (o.tables u from).one_a_node)

-- a message is received in a session
abbrev pub receiving : Message → ℕ → Event
receiving m session = event.Receive session m.dest m.dist

-- one message more is received
pub receive_on : (d : Domain) (i : ℕ) (ws : List World) (s : Sent) (rest : List Sent) (r : World) → IsPlayed d (domain_of ws (s ∷ rest)) i →
    IsBetween (length ws) s →
    r ≡ in_session (router_at ws s.to) (session_of (router_at ws s.to) s.from) (receiving s.message) →
    IsPlayed d (domain_of (slice_set ws s.to r) rest) (i + 1)
receive_on d i ws s rest r played between router =
    played_on d e (domain_of (slice_set ws s.to r) rest) i 1 played
    (subst (λ f. IsPlayed e f 1) (sym (receives_as ws s rest r between.to received))
    (receives_played e s.from s.to s.message (under_way rest s.from s.to) played.in_order first))
  where
    e : Domain
    e = domain_of ws (s ∷ rest)

    first : IsNext e s.from s.to s.message (under_way rest s.from s.to)
    first = first_is_next e s.from s.to s.message (under_way rest s.from s.to) played.in_order between.from between.to (under_way_first s rest)

    received : r ≡ (receives e s.from s.to s.message (under_way rest s.from s.to)).router s.to
    received =
        let there = up_in (neighbour e s.to s.from) first.linked in
        router ∙ ap (λ (o : Option ℕ). in_session (router_at ws s.to) o (receiving s.message)) there.1
        ∙ ap (λ a. a.world)
        (receive_receives e s.from s.to there.0 s.message (under_way rest s.from s.to) played.in_order first there.1).1

-- what Take gave was sent
pub record IsTaken (d : Domain) (u w max : ℕ) (r : World) (ms : List Message) : Type 0 where
  pub router : r ≡ (sends d u w max).router u
  pub messages : ms ≡ take max (neighbour d u w).queue

take_as : (d : Domain) (u w max s : ℕ) (x r : World) (p : Reply) → IsInOrder d → u < d.size → w < d.size →
    x ≡ d.router u → session_of x w ≡ Some s → next x (event.Take s max) ≡ answered r p →
    answered r p ≡ answered ((sends d u w max).router u) (reply.Messages (take max (neighbour d u w).queue))
take_as d u w max s x r p o from to is held done =
    sym done ∙ ap (λ y. next y (event.Take s max)) is
    ∙ take_sends d u w max s o from (ap (λ y. session_of y w) (sym is) ∙ held)

pub taken : (d : Domain) (u w max s : ℕ) (x r : World) (p : Reply) → IsInOrder d → u < d.size → w < d.size →
    x ≡ d.router u → session_of x w ≡ Some s → next x (event.Take s max) ≡ answered r p → IsTaken d u w max r (carried p)
taken d u w max s x r p o from to is held done =
    let same = take_as d u w max s x r p o from to is held done in
    record { router = ap (λ a. a.world) same; messages = ap (λ a. carried a.reply) same }

pub take_answers : (d : Domain) (u w max s : ℕ) (x r : World) (p : Reply) → IsInOrder d → u < d.size → w < d.size →
    x ≡ d.router u → session_of x w ≡ Some s → next x (event.Take s max) ≡ answered r p → p ≡ reply.Messages (take max (neighbour d u w).queue)
take_answers d u w max s x r p o from to is held done =
    ap (λ a. a.reply) (take_as d u w max s x r p o from to is held done)

-- a message that says nothing, for a place where there is none
abbrev pub no_sent : Sent
no_sent = record { from = 0; to = 0; message = record { dest = 0; dist = 0 } }

-- the message in a place is received
pub received_more : (d : Domain) (ss : List Sent) (i n : ℕ) (ws : List World) (to : ℕ) (x r : World) → i < length ss → n ≡ length ws →
    All (IsBetween n) ss → to ≡ (get_or ss i no_sent).to →
    r ≡ in_session (get_or ws to x) (session_of (get_or ws to x) (get_or ss i no_sent).from) (receiving (get_or ss i no_sent).message) →
    IsPlayed d (domain_of ws (drop i ss)) i → IsPlayed d (domain_of (slice_set ws to r) (drop (i + 1) ss)) (i + 1)
received_more d ss i n ws to x r below wide between at received played =
    subst (λ t. IsPlayed d (domain_of (slice_set ws t r) (drop (i + 1) ss)) (i + 1)) (sym at)
    (receive_on d i ws s (drop (i + 1) ss) r (subst (λ l. IsPlayed d (domain_of ws l) i) (drop_more ss i no_sent below) played) here
    (received ∙ ap (λ y. in_session y (session_of y s.from) (receiving s.message)) there))
  where
    s : Sent
    s = get_or ss i no_sent

    here : IsBetween (length ws) s
    here = subst (λ m. IsBetween m s) wide (between i no_sent below)

    there : get_or ws to x ≡ router_at ws s.to
    there = router_place ws to s.to x at here.to

-- one round more
pub round_more : (d e f g : Domain) (m h n : ℕ) → IsPlayed d e m → AreSent e f → IsPlayed f g h → m + h ≡ n → IsPlayed d g n
round_more d e f g m h n before sent received count =
    subst (IsPlayed d g) (let sum : m + (0 + h) ≡ n = omega (arith, count) in sum)
    (played_on d e g m (0 + h) before (played_on e f g 0 h sent.played received))

pub last_sent : (d e f : Domain) (m : ℕ) → IsPlayed d e m → AreSent e f → IsPlayed d f m
last_sent d e f m before sent =
    subst (IsPlayed d f) (let sum : m + 0 ≡ m = omega arith in sum) (played_on d e f m 0 before sent.played)

-- one round more is one phase more
pub rounds_more : (j : ℕ) (d e f g : Domain) (h : ℕ) → IsInOrder d → IsInOrder e → Phases j d e → AreSent e f → IsPlayed f g h →
    ((u w : ℕ) → u < e.size → w < e.size → (neighbour f u w).queue ≡ []) → ((u w : ℕ) → u < e.size → w < e.size → g.flight u w ≡ []) →
    Phases (j + 1) d g
rounds_more j d e f g h begin order phases sent received none gone =
    subst (λ n. Phases n d g) (let more : suc j ≡ j + 1 = omega arith in more)
    (phases_more j d e g begin phases (round_is_phase sent.played.steps received.steps e f g order sent.played.run received.run none gone))

-- in a quiet domain nothing is sent
nothing_under_way : (ws : List World) (ss : List Sent) → All (IsBetween (length ws)) ss → IsQuiet (domain_of ws ss) → 0 < length ss → ⊥
nothing_under_way ws [] between q some = omega (arith, some)
nothing_under_way ws (s ∷ ss) between q some =
    let at : IsBetween (length ws) s = between 0 s (omega arith) in
    let none : s.message ∷ under_way ss s.from s.to ≡ [] = sym (under_way_first s ss) ∙ q.flights s.from s.to at.from at.to in cc

something_sent : (e : Domain) (ws : List World) (ss : List Sent) → AreSent e (domain_of ws ss) → All (IsBetween e.size) ss → 0 < length ss → IsQuiet e → ⊥
something_sent e ws ss sent between some quiet =
    nothing_under_way ws ss (subst (λ n. All (IsBetween n) ss) (sym (run_size sent.played.steps e (domain_of ws ss) sent.played.run)) between)
    (stays_quiet sent.played.steps e (domain_of ws ss) sent.played.run quiet) some

-- so while something is sent there were fewer rounds than nodes, and no more than the longest distance at rest
pub few_rounds : (j : ℕ) (d e : Domain) (ws : List World) (ss : List Sent) → IsInOrder d → Phases j d e → AreSent e (domain_of ws ss) →
    All (IsBetween e.size) ss → 0 < length ss → j ≤ d.size → j + 1 ≤ d.size
few_rounds j d e ws ss o phases sent between some few =
    ⊎_elim
    (λ (full : j ≡ d.size). absurd (something_sent e ws ss sent between some (quiet_after d e o (subst (λ n. Phases n d e) full phases))))
    (λ (other : j ≡ d.size → ⊥). omega (arith, few, other))
    (cases_eq j d.size)

pub soon_rounds : (j : ℕ) (d e : Domain) (ws : List World) (ss : List Sent) → IsInOrder d → Phases j d e → AreSent e (domain_of ws ss) →
    All (IsBetween e.size) ss → 0 < length ss → ((k : ℕ) → AreWithin k d → j ≤ k + 1) → (k : ℕ) → AreWithin k d → j + 1 ≤ k + 1
soon_rounds j d e ws ss o phases sent between some soon k within =
    ⊎_elim
    (λ (full : j ≡ k + 1).
    absurd (something_sent e ws ss sent between some
    (quiet_soon k d e o within (subst (λ n. Phases n d e) (let same : j ≡ suc k = omega (arith, full) in same) phases))))
    (λ (other : j ≡ k + 1 → ⊥). omega (arith, soon k within, other))
    (cases_eq j (k + 1))

-- routers that are quiet after they were played are at rest
pub settled_rest : (was new : List World) (n : ℕ) → IsPlayed (domain was) (domain new) n → IsQuiet (domain new) → length new ≡ length was →
    (v : ℕ) → v < length was → IsRest (topology (domain was) v) v (λ u. distance (router_at new u) v)
settled_rest was new n played quiet same v below =
    subst (λ m. IsRest m v (λ u. distance (router_at new u) v)) (run_topology played.steps (domain was) (domain new) v played.run)
    (quiet_rests (domain new) played.in_order quiet v (omega (arith, below, same)))
