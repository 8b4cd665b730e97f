-- One node after another sends what waits for its neighbours.
use Rattle.std.proofs.Common.{◌≡◌, ⊎_elim, ℕ, ◌+◌, ◌<◌, ◌≤◌, zero, suc, true, cond, Some, All, List, [], ◌∷◌, ◌++◌, length, drop}
use Rattle.std.proofs.Common.{get_or, map, slice_set, take, refl, sym, ap, subst, ◌∙◌, arith, inl, inr, eq-eqb, length-drop}
use Rattle.std.proofs.lemmas.Bool.{cases_Bool, cases_lt}
use Rattle.std.proofs.lemmas.List.{nil_from_length}
use Rattle.std.proofs.lemmas.List.Elements.{All-append, All-cons, All-nil}
use Rattle.netchange_core.specs.declared.message.Message.{Message}
use Rattle.netchange_core.specs.declared.event.Event.TheVariants as event
use Rattle.netchange_core.specs.declared.reply.Reply.{Reply}
use Rattle.netchange_core.specs.Calls.{carried, session_of}
use Rattle.netchange_core.specs.Next.{answered, dequeued, next}
use Rattle.netchange_core.specs.World.{World, changed, is_up, neighbour_at}
use Rattle.netchange_core.proofs.Change.{changed_at}
use Rattle.routing_domain.specs.Domain.{Domain, IsInOrder, IsSound, neighbour}
use Rattle.routing_domain.specs.Steps.{sends}
use Rattle.domain_player.specs.declared.sent.Sent.{Sent}
use Rattle.domain_player.specs.Play.{AreSent, IsBetween, domain_of, sent_by}
use Rattle.domain_player.proofs.Domains.{router_place, sends_as}
use Rattle.domain_player.proofs.Played.{IsTaken, sends_sent, sent_on, taken}

-- where something waits there is a link
pub waiting_linked : (size : ℕ) (r : World) (k : ℕ) → IsSound size r → k < size → 0 < length (neighbour_at r.neighbours k).queue → is_up (neighbour_at r.neighbours k) ≡ true
waiting_linked size r k sound below some = elim (cases_Bool (is_up (neighbour_at r.neighbours k))) [
  | inl up ↦ up
  | inr down ↦ absurd (omega (arith, some, ap length ((sound.queues k below).idle down)))
]

-- some of what waits is sent
some_taken : (k : ℕ) (xs : List Message) → 0 < length xs → 0 < length (take (suc k) xs)
some_taken k [] some = some
some_taken k (x ∷ xs) some = omega arith

pub sent_more : (d e f : Domain) (u w : ℕ) → AreSent d e → u < e.size → w < e.size → 0 < length (neighbour e u w).queue →
    f ≡ sends e u w 65535 → AreSent d f
sent_more d e f u w before from to some is =
    sent_on d e f before (subst (AreSent e) (sym is) (sends_sent e u w 65535 before.played.in_order from to (some_taken 65534 (neighbour e u w).queue some)))

-- less waits then
pub less_waits : (d f : Domain) (u w : ℕ) → IsInOrder d → u < d.size → w < d.size → 0 < length (neighbour d u w).queue →
    f ≡ sends d u w 65535 → length (neighbour f u w).queue < length (neighbour d u w).queue
less_waits d f u w o from to some is =
    omega (arith, ap length queue, length-drop 65535 (neighbour d u w).queue, some)
  where
    near : w < length (d.router u).neighbours
    near = omega (arith, to, (o.tables u from).one_a_node)

    s : World
    s = changed (d.router u) w (dequeued 65535)

    queue : (neighbour f u w).queue ≡ drop 65535 (neighbour d u w).queue
    queue =
        ap (λ e. (neighbour e u w).queue) is
        ∙ ap (λ r. (neighbour_at r.neighbours w).queue) (ap (λ b. cond b s (d.router u)) (eq-eqb u u refl))
        ∙ ap (λ n. n.queue) (changed_at w (dequeued 65535) (d.router u).neighbours near)

pub none_waits : (xs : List Message) (n : ℕ) → n ≡ length xs → n ≤ 0 → xs ≡ []
none_waits xs n is none = nil_from_length xs (omega (arith, is, none))

-- the node of the next number sent all
pub all_to : (d e : Domain) (u k : ℕ) → AreSent d e → ((w : ℕ) → w < k → (neighbour d u w).queue ≡ []) → (neighbour e u k).queue ≡ [] →
    (w : ℕ) → w < k + 1 → (neighbour e u w).queue ≡ []
all_to d e u k sent before last w below =
    ⊎_elim (λ early. sent.still_empty u w (before w early))
    (λ late. let same : w ≡ k = omega (arith, below, late) in ap (λ x. (neighbour e u x).queue) same ∙ last) (cases_lt w k)

pub all_from : (d e : Domain) (n k : ℕ) → AreSent d e → ((u w : ℕ) → u < k → w < n → (neighbour d u w).queue ≡ []) →
    ((w : ℕ) → w < n → (neighbour e k w).queue ≡ []) → (u w : ℕ) → u < k + 1 → w < n → (neighbour e u w).queue ≡ []
all_from d e n k sent before last u w below short =
    ⊎_elim (λ early. sent.still_empty u w (before u w early short))
    (λ late. let same : u ≡ k = omega (arith, below, late) in ap (λ x. (neighbour e x w).queue) same ∙ last w short) (cases_lt u k)

-- what was taken is on its way
pub sent_by_both : (ws : List World) (ss : List Sent) (u w i s : ℕ) (x r : World) (p : Reply) → u < length ws → w < length ws →
    IsInOrder (domain_of ws ss) → i ≡ u → session_of (get_or ws i x) w ≡ Some s →
    next (get_or ws i x) (event.Take s 65535) ≡ answered r p →
    domain_of (slice_set ws i r) (ss ++ map (sent_by u w) (carried p)) ≡ sends (domain_of ws ss) u w 65535
sent_by_both ws ss u w i s x r p from to o at held done =
    ap (λ k. domain_of (slice_set ws k r) (ss ++ map (sent_by u w) (carried p))) at
    ∙ sends_as ws ss u w 65535 r (carried p) from given.router given.messages
  where
    given : IsTaken (domain_of ws ss) u w 65535 r (carried p)
    given = taken (domain_of ws ss) u w 65535 s (get_or ws i x) r p o from to (router_place ws i u x at from) held done

pub take_past : (k : ℕ) (xs : List Message) → length xs ≤ k → take k xs ≡ xs
take_past zero [] few = refl
take_past zero (x ∷ xs) few = absurd (omega (arith, few))
take_past (suc k) [] few = refl
take_past (suc k) (x ∷ xs) few = ap (λ ys. x ∷ ys) (take_past k xs (omega (arith, few)))

pub all_between : (n u w : ℕ) (ss : List Sent) (ms : List Message) → u < n → w < n → All (IsBetween n) ss → All (IsBetween n) (ss ++ map (sent_by u w) ms)
all_between n u w ss ms from to before = All-append (IsBetween n) ss (map (sent_by u w) ms) before (each ms)
  where
    each : (ms : List Message) → All (IsBetween n) (map (sent_by u w) ms)
    each [] = All-nil (IsBetween n)
    each (m ∷ ms) = All-cons (IsBetween n) (sent_by u w m) (map (sent_by u w) ms) (record { from = from; to = to }) (each ms)

-- the same nodes, where the size is written otherwise
pub between_as : (n m : ℕ) (ss : List Sent) → n ≡ m → All (IsBetween n) ss → All (IsBetween m) ss
between_as n m ss same between = subst (λ k. All (IsBetween k) ss) same between
