-- What a step makes of a link: more messages are on it, the first has come in, or one was left out; and how many are awaited on it then.
use mathlib.Core.Logic.{inl, inr}
use Rattle.std.proofs.Common.{◌≡◌, ◌⊎◌, ⊎_elim, ℕ, ◌-◌, ◌<◌, cond, nat_eq, All, List, [], ◌∷◌, ◌++◌, length, slice_index, slice_set, take, drop}
use Rattle.std.proofs.Common.{refl, sym, ap, subst, ◌∙◌, arith, append_assoc, take-append-drop, eq-eqb, ne_eqb, get_or-set_same, get_or-set_other}
use Rattle.std.proofs.lemmas.Bool.{cases_eq}
use Rattle.std.proofs.lemmas.List.{append-nil}
use Rattle.std.proofs.lemmas.List.Elements.{All-nil}
use Rattle.netchange_core.specs.declared.message.Message.{Message}
use Rattle.netchange_core.specs.Best.{distance}
use Rattle.netchange_core.specs.FilteredDistance.{filtered_distance}
use Rattle.netchange_core.specs.Next.{advertising, dequeued}
use Rattle.netchange_core.specs.World.{World, neighbour_at, nobody}
use Rattle.netchange_core.proofs.Change.{changed_at}
use Rattle.routing_domain.specs.Changes.{is_pair}
use Rattle.routing_domain.specs.Domain.{Domain, IsInOrder, KeepsLinksAndFilters, exported, neighbour, pending}
use Rattle.routing_domain.specs.Phases.{awaited_after, awaited_without}
use Rattle.routing_domain.specs.Runs.{DropsOne, IsStep}
use Rattle.routing_domain.specs.Steps.{IsNext, receives, sends}
use Rattle.routing_domain.proofs.Dropping.{link_is, link_other, link_was}
use Rattle.routing_domain.proofs.Ending.{step_keeps}
use Rattle.routing_domain.proofs.Order.{at_receiver, flight_from_other, flight_here, flight_to_other, wide}
use Rattle.routing_domain.proofs.Order as order
use Rattle.routing_domain.proofs.Places.{IsOther}
use Rattle.routing_domain.proofs.Receives.{receiver_advertised}
use Rattle.routing_domain.proofs.Recomputed.{changed_other}
use Rattle.routing_domain.proofs.Sends as sending
use Rattle.routing_domain.proofs.Telling.{Queues, queues_nothing, receiver_queues}
use Rattle.routing_domain.proofs.Topologies.{pair_is, pair_not}
use Rattle.routing_domain.proofs.Turning.{IsAwaited, is_awaited}

-- what the second node heard of the first about a destination
abbrev pub heard : Domain → ℕ → ℕ → ℕ → ℕ
heard d a b v = slice_index (neighbour d b a).advertised v

-- a message that says what the distance of the first node comes to
abbrev pub Says : Domain → ℕ → ℕ → Message → Type 0
Says d a b m = m.dist ≡ exported d a b m.dest (distance (d.router a) m.dest)

-- nothing came in, and maybe more messages are on the link, which say the distances as they are then
pub record Grows (d e : Domain) (a b : ℕ) : Type 0 where
  pub same : (v : ℕ) → heard e a b v ≡ heard d a b v
  pub more : List Message
  pub messages : pending e a b ≡ pending d a b ++ more
  pub says : All (Says e a b) more
  pub none : ((v : ℕ) → v < d.size → distance (d.router a) v ≡ distance (e.router a) v) → more ≡ []

-- the first message came in
pub record Hears (d e : Domain) (a b : ℕ) : Type 0 where
  pub message : Message
  pub messages : pending d a b ≡ message ∷ pending e a b
  pub told : (v : ℕ) → heard e a b v ≡ cond (nat_eq message.dest v) message.dist (heard d a b v)

-- one was left out, behind which there is a later one about its node
pub record Skips (d e : Domain) (a b : ℕ) : Type 0 where
  pub same : (v : ℕ) → heard e a b v ≡ heard d a b v
  pub before : List Message
  pub message : Message
  pub between : List Message
  pub later : Message
  pub behind : List Message
  pub about : later.dest ≡ message.dest
  pub was : pending d a b ≡ before ++ message ∷ (between ++ later ∷ behind)
  pub now : pending e a b ≡ before ++ (between ++ later ∷ behind)

-- each of them, with how many are awaited of how many that were
abbrev pub GrowsBy : Domain → Domain → ℕ → ℕ → (ℕ → ℕ) → Type 0
GrowsBy d e a b left = (Grows d e a b) × ((n : ℕ) → left n ≡ n)

abbrev pub HearsBy : Domain → Domain → ℕ → ℕ → (ℕ → ℕ) → Type 0
HearsBy d e a b left = (Hears d e a b) × ((n : ℕ) → left n ≡ n - 1)

abbrev pub SkipsBy : Domain → Domain → ℕ → ℕ → (ℕ → ℕ) → Type 0
SkipsBy d e a b left = (s : Skips d e a b) × ((n : ℕ) → IsAwaited n (left n) (length s.before) (length s.between))

abbrev pub Moves : Domain → Domain → ℕ → ℕ → (ℕ → ℕ) → Type 0
Moves d e a b left = (GrowsBy d e a b left) ⊎ ((HearsBy d e a b left) ⊎ (SkipsBy d e a b left))

stays : (d e : Domain) (a b : ℕ) → ((v : ℕ) → heard e a b v ≡ heard d a b v) → pending e a b ≡ pending d a b → Grows d e a b
stays d e a b same messages = record {
  same = same;
  more = [];
  messages = messages ∙ sym (append-nil (pending d a b));
  says = All-nil (Says e a b);
  none = λ each. refl;
}

-- what a router queued, behind what was on its way
grows : (d e : Domain) (a b : ℕ) → ((v : ℕ) → heard e a b v ≡ heard d a b v) → e.flight a b ≡ d.flight a b →
    Queues d.size (d.router a) (e.router a) b → Grows d e a b
grows d e a b same flight q = record {
  same = same;
  more = q.more;
  messages =
      ap (λ f. f ++ (neighbour e a b).queue) flight
      ∙ ap (λ x. d.flight a b ++ x) q.queue
      ∙ sym (append_assoc (d.flight a b) (neighbour d a b).queue q.more);
  says = q.says;
  none = q.none;
}

pub set_heard : (advertised : List ℕ) (x d v : ℕ) → x < length advertised →
    slice_index (slice_set advertised x d) v ≡ cond (nat_eq x v) d (slice_index advertised v)
set_heard advertised x d v h =
    ⊎_elim
    (λ here. ap (λ y. slice_index (slice_set advertised x d) y) here ∙ get_or-set_same advertised x d 0 h
    ∙ sym (ap (λ b. cond b d (slice_index advertised v)) (eq-eqb x v (sym here))))
    (λ other. get_or-set_other advertised x v d 0 other
    ∙ sym (ap (λ b. cond b d (slice_index advertised v)) (ne_eqb x v (λ e. other (sym e)))))
    (cases_eq v x)

receives_moves : (d : Domain) (u w : ℕ) (m : Message) (rest : List Message) → IsInOrder d → IsNext d u w m rest → (a b : ℕ) → a < d.size → b < d.size →
    Moves d (receives d u w m rest) a b (λ n. cond (is_pair u w a b) (n - 1) n)
receives_moves d u w m rest o n a b from to =
    ⊎_elim
    (λ one. ⊎_elim
    (λ two. inr (inl (
      subst (λ x. Hears d e x b) (sym one) (subst (λ y. Hears d e u y) (sym two) hears),
      λ n. ap (λ t. cond t (n - 1) n) (ap (λ x. is_pair u w x b) one ∙ ap (λ y. is_pair u w u y) two ∙ pair_is u w),
    )))
    (λ far. elsewhere (record { other = λ p q. far q }))
    (cases_eq b w))
    (λ far. elsewhere (record { other = λ p q. far p }))
    (cases_eq a u)
  where
    e : Domain
    e = receives d u w m rest

    r : World
    r = d.router w

    hop : u < length r.neighbours
    hop = omega (arith, n.from, wide d o w n.to)

    hears : Hears d e u w
    hears = record {
      message = m;
      messages =
          ap (λ f. f ++ (neighbour d u w).queue) n.first
          ∙ ap (λ f. m ∷ (f ++ (neighbour d u w).queue)) (sym (flight_here d u w m rest))
          ∙ ap (λ x. m ∷ (e.flight u w ++ (neighbour_at x.neighbours w).queue)) (sym (order.at_other d u w m rest u n.apart));
      told = λ v.
          ap (λ x. slice_index (neighbour_at x.neighbours u).advertised v) (at_receiver d u w m rest o n)
          ∙ ap (λ xs. slice_index xs v) (receiver_advertised r u u m hop ∙ ap (λ y. y.advertised) (changed_at u (advertising m.dest m.dist) r.neighbours hop))
          ∙ set_heard (neighbour_at r.neighbours u).advertised m.dest m.dist v (omega (arith, n.dest, ((o.tables w n.to).each u nobody hop).one_a_node));
    }

    queues : Queues d.size (d.router a) (e.router a) b
    queues = ⊎_elim
        (λ here. subst (λ x. Queues d.size (d.router x) (e.router x) b) (sym here)
        (subst (λ s. Queues d.size r s b) (sym (at_receiver d u w m rest o n))
        (receiver_queues d.size r u b m (o.size w n.to) (omega (arith, to, wide d o w n.to)))))
        (λ other. subst (λ s. Queues d.size (d.router a) s b) (sym (order.at_other d u w m rest a other)) (queues_nothing d.size (d.router a) b))
        (cases_eq a w)

    flight : IsOther u w a b → e.flight a b ≡ d.flight a b
    flight i = ⊎_elim (λ here. flight_to_other d u w m rest a b (i.other here)) (λ far. flight_from_other d u w m rest a b far) (cases_eq a u)

    same : IsOther u w a b → (v : ℕ) → heard e a b v ≡ heard d a b v
    same i v = ⊎_elim
        (λ here.
        ap (λ y. heard e a y v) here
        ∙ ap (λ x. slice_index (neighbour_at x.neighbours a).advertised v) (at_receiver d u w m rest o n)
        ∙ ap (λ xs. slice_index xs v) (receiver_advertised r u a m (omega (arith, from, wide d o w n.to))
        ∙ ap (λ y. y.advertised) (changed_other u a (advertising m.dest m.dist) r.neighbours hop (λ one. i.other one here)))
        ∙ ap (λ y. heard d a y v) (sym here))
        (λ other. ap (λ x. slice_index (neighbour_at x.neighbours a).advertised v) (order.at_other d u w m rest b other))
        (cases_eq b w)

    elsewhere : IsOther u w a b → Moves d e a b (λ n. cond (is_pair u w a b) (n - 1) n)
    elsewhere i = inl (grows d e a b (same i) (flight i) queues, λ n. ap (λ t. cond t (n - 1) n) (pair_not u w a b i))

sends_moves : (d : Domain) (u w max : ℕ) → IsInOrder d → u < d.size → w < d.size → (a b : ℕ) → Grows d (sends d u w max) a b
sends_moves d u w max o own to a b = stays d e a b same messages
  where
    e : Domain
    e = sends d u w max

    r : World
    r = d.router u

    near : w < length r.neighbours
    near = omega (arith, to, wide d o u own)

    same : (v : ℕ) → heard e a b v ≡ heard d a b v
    same v = ⊎_elim
        (λ here.
        ap (λ y. heard e a y v) here
        ∙ ap (λ x. slice_index (neighbour_at x.neighbours a).advertised v) (sending.at_sender d u w max)
        ∙ ap (λ xs. slice_index xs v) (sending.advertised_still r w max a near)
        ∙ ap (λ y. heard d a y v) (sym here))
        (λ other. ap (λ x. slice_index (neighbour_at x.neighbours a).advertised v) (sending.at_other d u w max b other))
        (cases_eq b u)

    q : List Message
    q = (neighbour d u w).queue

    on_it : pending e u w ≡ pending d u w
    on_it =
        ap (λ x. e.flight u w ++ (neighbour_at x.neighbours w).queue) (sending.at_sender d u w max)
        ∙ ap (λ x. e.flight u w ++ x.queue) (sending.seen_here r w max near)
        ∙ ap (λ f. f ++ drop max q) (sending.flight_here d u w max)
        ∙ append_assoc (d.flight u w) (take max q) (drop max q)
        ∙ ap (λ ms. d.flight u w ++ ms) (take-append-drop max q)

    beside_it : (b ≡ w → ⊥) → pending e u b ≡ pending d u b
    beside_it other =
        ap (λ x. e.flight u b ++ (neighbour_at x.neighbours b).queue) (sending.at_sender d u w max)
        ∙ ap (λ x. e.flight u b ++ x.queue) (changed_other w b (dequeued max) r.neighbours near other)
        ∙ ap (λ f. f ++ (neighbour d u b).queue) (sending.flight_to_other d u w max u b other)

    messages : pending e a b ≡ pending d a b
    messages = ⊎_elim
        (λ one.
        ap (λ x. pending e x b) one
        ∙ ⊎_elim (λ two. ap (λ y. pending e u y) two ∙ on_it ∙ ap (λ y. pending d u y) (sym two)) (λ other. beside_it other) (cases_eq b w)
        ∙ ap (λ x. pending d x b) (sym one))
        (λ far.
        ap (λ x. e.flight a b ++ (neighbour_at x.neighbours b).queue) (sending.at_other d u w max a far)
        ∙ ap (λ f. f ++ (neighbour d a b).queue) (sending.flight_from_other d u w max a b far))
        (cases_eq a u)

drops_moves : (d e : Domain) (x : DropsOne d e) (a b : ℕ) →
    Moves d e a b (λ n. cond (is_pair x.from x.to a b) (awaited_without n (length x.before) (length x.between)) n)
drops_moves d e x a b =
    ⊎_elim
    (λ (one : a ≡ x.from). ⊎_elim
    (λ (two : b ≡ x.to).
    subst (λ y. Moves d e y b (λ n. cond (is_pair x.from x.to y b) (now n) n)) (sym one)
    (subst (λ y. Moves d e x.from y (λ n. cond (is_pair x.from x.to x.from y) (now n) n)) (sym two) (inr (inr (skips, here)))))
    (λ (far : b ≡ x.to → ⊥). elsewhere (record { other = λ p q. far q }))
    (cases_eq b x.to))
    (λ (far : a ≡ x.from → ⊥). elsewhere (record { other = λ p q. far p }))
    (cases_eq a x.from)
  where
    now : ℕ → ℕ
    now n = awaited_without n (length x.before) (length x.between)

    same : (y z v : ℕ) → heard e y z v ≡ heard d y z v
    same y z v = ap (λ c. heard c y z v) x.after

    skips : Skips d e x.from x.to
    skips = record {
      same = same x.from x.to;
      before = x.before;
      message = x.message;
      between = x.between;
      later = x.later;
      behind = x.behind ++ (neighbour d x.from x.to).queue;
      about = x.about;
      was = link_was d e x;
      now = link_is d e x;
    }

    here : (n : ℕ) → IsAwaited n (cond (is_pair x.from x.to x.from x.to) (now n) n) (length x.before) (length x.between)
    here n = subst (λ t. IsAwaited n (cond t (now n) n) (length x.before) (length x.between)) (sym (pair_is x.from x.to))
        (is_awaited n (length x.before) (length x.between))

    elsewhere : IsOther x.from x.to a b → Moves d e a b (λ n. cond (is_pair x.from x.to a b) (now n) n)
    elsewhere i = inl (stays d e a b (same a b) (link_other d e x a b i), λ n. ap (λ t. cond t (now n) n) (pair_not x.from x.to a b i))

-- each step
pub step_moves : (d e : Domain) → IsInOrder d → (step : IsStep d e) → (a b : ℕ) → a < d.size → b < d.size → Moves d e a b (awaited_after d e step a b)
step_moves d e o (inl h) a b from to =
    subst (λ x. Moves d x a b (λ n. cond (is_pair h.from h.to a b) (n - 1) n)) (sym h.after)
    (receives_moves d h.from h.to h.message h.rest o h.is_next a b from to)
step_moves d e o (inr (inl s)) a b from to =
    subst (λ x. Moves d x a b (λ n. n)) (sym s.after) (inl (sends_moves d s.from s.to s.max o s.member s.member_there a b, λ n. refl))
step_moves d e o (inr (inr x)) a b from to = drops_moves d e x a b

-- and what a distance comes to stays
pub step_exports : (d e : Domain) → IsStep d e → (a b v x : ℕ) → exported e a b v x ≡ exported d a b v x
step_exports d e step a b v x =
    let k : KeepsLinksAndFilters d e = step_keeps d e step in
    λ i. filtered_distance (k.openings a i) (k.exports a b i) v x
