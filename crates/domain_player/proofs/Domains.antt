-- The domain of a list of routers, after one of them entered an event.
use Rattle.std.proofs.Common.{◌≡◌, ⊎_elim, ℕ, ◌<◌, Bool, true, false, cond, nat_eq, List, [], ◌∷◌, ◌++◌, length}
use Rattle.std.proofs.Common.{drop, get_or, map, slice_set, take, refl, sym, ap, subst, ◌∙◌, arith, eq-eqb}
use Rattle.std.proofs.Common.{ne_eqb, get_or-set_same, get_or-set_other, length-drop, length-set}
use Rattle.std.specs.Prelude.{Err, Ok, OnErr, OnOk, Option, Result, Some}
use Rattle.std.proofs.lemmas.Bool.{cases_eq}
use Rattle.std.proofs.lemmas.List.{append-nil, get_or_default, get_or_read, nil_from_length}
use Rattle.netchange_core.specs.declared.event.Event.{Event}
use Rattle.netchange_core.specs.declared.message.Message.{Message}
use Rattle.netchange_core.specs.Next.{dequeued, next, receive}
use Rattle.netchange_core.specs.World.{World, changed}
use Rattle.routing_domain.specs.Domain.{Domain, IsInOrder, neighbour}
use Rattle.routing_domain.specs.Events.{enters, enters_in, in_session}
use Rattle.routing_domain.specs.Steps.{receives, sends, with_flight}
use Rattle.domain_player.specs.declared.sent.Sent.{Sent}
use Rattle.domain_player.specs.Play.{AreRouters, domain, domain_of, nowhere, router_at, sent_by, under_way}
use Rattle.domain_player.proofs.Ways.{other_from, other_to, under_way_other, under_way_sent, under_way_unsent}

pub router_set : (ws : List World) (u : ℕ) (r : World) (x : ℕ) → u < length ws → router_at (slice_set ws u r) x ≡ cond (nat_eq x u) r (router_at ws x)
router_set ws u r x here =
    ⊎_elim
    (λ same. ap (router_at (slice_set ws u r)) same ∙ get_or-set_same ws u r nowhere here
    ∙ sym (ap (λ b. cond b r (router_at ws x)) (eq-eqb x u same)))
    (λ other. get_or-set_other ws u x r nowhere other ∙ sym (ap (λ b. cond b r (router_at ws x)) (ne_eqb x u other)))
    (cases_eq x u)

-- the domain of these routers where one is in another world, and other messages are on their way
abbrev pub replaced : List World → ℕ → World → (ℕ → ℕ → List Message) → Domain
replaced ws u r flight = record { size = length ws; router = λ x. cond (nat_eq x u) r (router_at ws x); flight = flight }

pub domain_with : (ws : List World) (ts : List Sent) (u : ℕ) (r : World) (flight : ℕ → ℕ → List Message) → u < length ws →
    ((a b : ℕ) → under_way ts a b ≡ flight a b) → domain_of (slice_set ws u r) ts ≡ replaced ws u r flight
domain_with ws ts u r flight here flights = λ i. record {
  size = length-set ws u r i;
  router = λ x. router_set ws u r x here i;
  flight = λ a b. flights a b i;
}

-- an event of which nothing is sent or received
pub enters_as : (ws : List World) (ss : List Sent) (u : ℕ) (r : World) (e : Event) → u < length ws → r ≡ (next (router_at ws u) e).world →
    domain_of (slice_set ws u r) ss ≡ enters (domain_of ws ss) u e
enters_as ws ss u r e here is =
    ap (λ s. domain_of (slice_set ws u s) ss) is ∙ domain_with ws ss u (next (router_at ws u) e).world (under_way ss) here (λ a b. refl)

pub enters_in_as : (ws : List World) (ss : List Sent) (u : ℕ) (r : World) (session : Option ℕ) (e : ℕ → Event) → u < length ws →
    r ≡ in_session (router_at ws u) session e → domain_of (slice_set ws u r) ss ≡ enters_in (domain_of ws ss) u session e
enters_in_as ws ss u r session e here is =
    ap (λ s. domain_of (slice_set ws u s) ss) is
    ∙ domain_with ws ss u (in_session (router_at ws u) session e) (under_way ss) here (λ a b. refl)

-- what is on its way after messages were sent, and after one was received
flight_at : (old : ℕ → ℕ → List Message) (u w : ℕ) (ms xs : List Message) (a b : ℕ) → (a ≡ u → b ≡ w → xs ≡ ms) →
    ((a ≡ u → ⊥) → xs ≡ old a b) → ((b ≡ w → ⊥) → xs ≡ old a b) →
    xs ≡ cond (nat_eq a u) (cond (nat_eq b w) ms (old a b)) (old a b)
flight_at old u w ms xs a b here from to =
    ⊎_elim
    (λ at_from.
    ⊎_elim
    (λ at_to. here at_from at_to
    ∙ sym (ap (λ t. cond t (cond (nat_eq b w) ms (old a b)) (old a b)) (eq-eqb a u at_from) ∙ ap (λ t. cond t ms (old a b)) (eq-eqb b w at_to)))
    (λ other. to other
    ∙ sym (ap (λ t. cond t (cond (nat_eq b w) ms (old a b)) (old a b)) (eq-eqb a u at_from) ∙ ap (λ t. cond t ms (old a b)) (ne_eqb b w other)))
    (cases_eq b w))
    (λ other. from other ∙ sym (ap (λ t. cond t (cond (nat_eq b w) ms (old a b)) (old a b)) (ne_eqb a u other)))
    (cases_eq a u)

sent_flight : (ss : List Sent) (u w : ℕ) (ms : List Message) (a b : ℕ) →
    under_way (ss ++ map (sent_by u w) ms) a b ≡ cond (nat_eq a u) (cond (nat_eq b w) (under_way ss u w ++ ms) (under_way ss a b)) (under_way ss a b)
sent_flight ss u w ms a b =
    flight_at (under_way ss) u w (under_way ss u w ++ ms) (under_way (ss ++ map (sent_by u w) ms) a b) a b
    (λ from to. ap (λ x. under_way (ss ++ map (sent_by u w) ms) x b) from ∙ ap (under_way (ss ++ map (sent_by u w) ms) u) to
    ∙ under_way_sent u w ss ms)
    (λ other. under_way_unsent a b u w ss ms (other_from u w a b other))
    (λ other. under_way_unsent a b u w ss ms (other_to u w a b other))

pub sends_as : (ws : List World) (ss : List Sent) (u w max : ℕ) (r : World) (ms : List Message) → u < length ws →
    r ≡ (sends (domain_of ws ss) u w max).router u → ms ≡ take max (neighbour (domain_of ws ss) u w).queue →
    domain_of (slice_set ws u r) (ss ++ map (sent_by u w) ms) ≡ sends (domain_of ws ss) u w max
sends_as ws ss u w max r ms here router messages =
    ap (λ t. domain_of (slice_set ws u t) (ss ++ map (sent_by u w) ms)) (router ∙ stands)
    ∙ ap (λ q. domain_of (slice_set ws u s) (ss ++ map (sent_by u w) q)) messages
    ∙ domain_with ws (ss ++ map (sent_by u w) taken) u s e.flight here (λ a b. sent_flight ss u w taken a b)
  where
    e : Domain
    e = sends (domain_of ws ss) u w max

    taken : List Message
    taken = take max (neighbour (domain_of ws ss) u w).queue

    s : World
    s = changed (router_at ws u) w (dequeued max)

    stands : e.router u ≡ s
    stands = ap (λ b. cond b s (router_at ws u)) (eq-eqb u u refl)

received_flight : (s : Sent) (ss : List Sent) (a b : ℕ) →
    under_way ss a b ≡ cond (nat_eq a s.from) (cond (nat_eq b s.to) (under_way ss s.from s.to) (under_way (s ∷ ss) a b)) (under_way (s ∷ ss) a b)
received_flight s ss a b =
    flight_at (under_way (s ∷ ss)) s.from s.to (under_way ss s.from s.to) (under_way ss a b) a b
    (λ from to. ap (λ x. under_way ss x b) from ∙ ap (under_way ss s.from) to)
    (λ other. sym (under_way_other a b s ss (other_from s.from s.to a b other)))
    (λ other. sym (under_way_other a b s ss (other_to s.from s.to a b other)))

pub receives_as : (ws : List World) (s : Sent) (ss : List Sent) (r : World) → s.to < length ws →
    r ≡ (receives (domain_of ws (s ∷ ss)) s.from s.to s.message (under_way ss s.from s.to)).router s.to →
    domain_of (slice_set ws s.to r) ss ≡ receives (domain_of ws (s ∷ ss)) s.from s.to s.message (under_way ss s.from s.to)
receives_as ws s ss r here router =
    ap (λ t. domain_of (slice_set ws s.to t) ss) (router ∙ stands)
    ∙ domain_with ws ss s.to received e.flight here (λ a b. received_flight s ss a b)
  where
    e : Domain
    e = receives (domain_of ws (s ∷ ss)) s.from s.to s.message (under_way ss s.from s.to)

    received : World
    received = (receive (router_at ws s.to) (Some s.from) s.message.dest s.message.dist).world

    stands : e.router s.to ≡ received
    stands = ap (λ b. cond b received (router_at ws s.to)) (eq-eqb s.to s.to refl)

-- nothing is lost where nothing is on its way
nil_either : (s t : Bool) (xs : List Message) → xs ≡ [] → cond s (cond t [] xs) xs ≡ []
nil_either true true xs e = refl
nil_either true false xs e = e
nil_either false t xs e = e

pub nothing_lost : (e : Domain) (u w : ℕ) → ((a b : ℕ) → e.flight a b ≡ []) → with_flight (with_flight e u w []) w u [] ≡ e
nothing_lost e u w none = λ i. record e { flight = λ a b. (each a b ∙ sym (none a b)) i }
  where
    each : (a b : ℕ) → (with_flight (with_flight e u w []) w u []).flight a b ≡ []
    each a b = nil_either (nat_eq a w) (nat_eq b u) ((with_flight e u w []).flight a b) (nil_either (nat_eq a u) (nat_eq b w) (e.flight a b) (none a b))

-- a router that was read, by its number
pub router_read : (ws : List World) (i u : ℕ) (x : World) → i ≡ u → u < length ws → x ≡ get_or ws i x → x ≡ router_at ws u
router_read ws i u x at here is = get_or_read ws i x (omega (arith, at, here)) is nowhere ∙ ap (router_at ws) at

pub router_place : (ws : List World) (i u : ℕ) (x : World) → i ≡ u → u < length ws → get_or ws i x ≡ router_at ws u
router_place ws i u x at here = get_or_default ws i x nowhere (omega (arith, at, here)) ∙ ap (router_at ws) at

-- the whole of a list, written back
all_taken : (xs : List World) → take (length xs) xs ≡ xs
all_taken [] = refl
all_taken (x ∷ xs) = ap (λ ys. x ∷ ys) (all_taken xs)

whole : (len : ℕ) (xs ys : List World) → len ≡ length xs → length ys ≡ length xs → take len (xs ++ drop (length xs) ys) ≡ xs
whole len xs ys e f =
    ap (λ zs. take len (xs ++ zs)) (nil_from_length (drop (length xs) ys) (omega (arith, length-drop (length xs) ys, f)))
    ∙ ap (take len) (append-nil xs) ∙ ap (λ k. take k xs) e ∙ all_taken xs

pub whole_of : (len : ℕ) (new was items : List World) → was ≡ items → length was ≡ len → length new ≡ length was →
    take len (new ++ drop (length new) items) ≡ new
whole_of len new was items same l a = whole len new items (omega (arith, l, a)) (omega (arith, ap length same, a))

-- and they are routers of a domain in order still
pub are_routers : (len : ℕ) (new was items : List World) → was ≡ items → length was ≡ len → length new ≡ length was → AreRouters items →
    (IsInOrder (domain was) → IsInOrder (domain new)) → AreRouters (take len (new ++ drop (length new) items))
are_routers len new was items same l a r keeps =
    subst AreRouters (sym (whole_of len new was items same l a)) (record {
      in_order = keeps (subst (λ ws. IsInOrder (domain ws)) (sym same) r.in_order);
      most = omega (arith, r.most, ap length same, a);
    })

-- what holds after both outcomes
pub either_way : {T E P : Type 0} (r : Result T E) → OnOk r P → OnErr r P → P
either_way (Ok x) ok err = ok
either_way (Err e) ok err = err
