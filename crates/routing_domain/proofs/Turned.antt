-- While messages are sent, received and left out, what is told stays right below a bound, and after each phase it is right below the next one.
use mathlib.Core.Logic.{inl, inr}
use Rattle.std.proofs.Common.{◌≡◌, ℕ, ◌+◌, ◌-◌, ◌<◌, ◌≤◌, zero, suc, true, length, sym, ap, subst, ◌∙◌, arith}
use Rattle.std.proofs.lemmas.List.Elements.{All-weaker}
use Rattle.netchange_core.specs.declared.message.Message.{Message}
use Rattle.netchange_core.specs.Best.{distance, neighbour_distances}
use Rattle.netchange_core.proofs.Opened.{best_within}
use Rattle.routing_domain.specs.Domain.{Domain, IsInOrder, KeepsLinksAndFilters, are_linked, exported, pending, topology}
use Rattle.routing_domain.specs.Phases.{IsPhase, Phases, awaited, awaited_after}
use Rattle.routing_domain.specs.Rest.{IsRest}
use Rattle.routing_domain.specs.Runs.{IsStep, Runs}
use Rattle.routing_domain.proofs.Ending.{run_keeps, step_keeps}
use Rattle.routing_domain.proofs.Moving.{Moves, Says, heard, step_exports, step_moves}
use Rattle.routing_domain.proofs.Nearing.{IsHeard, IsRight, distance_right, less_right, told_right}
use Rattle.routing_domain.proofs.Running.{step_keeps_order}
use Rattle.routing_domain.proofs.Topologies.{kept_on, kept_topology}
use Rattle.routing_domain.proofs.Turning.{IsAbout, Turns, hears_fewer, turns_grows, turns_hears, turns_in_the_end, turns_without}

-- once so many messages came in from a node, all that it told and tells is right below a bound
abbrev pub TellsRight : Domain → ℕ → (ℕ → ℕ) → ℕ → ℕ → ℕ → ℕ → Type 0
TellsRight d v a k x y n = Turns (IsRight k (exported d x y v (a x)) (a x)) v n (heard d x y v) (pending d x y)

-- a domain in order in which all that was told about a node, and all that is on a link, is right below a bound
pub record AreTold (d : Domain) (v : ℕ) (a : ℕ → ℕ) (k : ℕ) : Type 0 where
  pub order : IsInOrder d
  pub there : v < d.size
  pub rest : IsRest (topology d v) v a
  pub right : (x y : ℕ) → x < d.size → y < d.size → are_linked d x y ≡ true → TellsRight d v a k x y 0

pub are_heard : (d : Domain) (v : ℕ) (a : ℕ → ℕ) (k : ℕ) → AreTold d v a k → IsHeard d a v k
are_heard d v a k t = λ x y from to linked. (t.right x y from to linked).0

-- below no bound all is right
pub all_right_below_none : (d : Domain) (v : ℕ) (a : ℕ → ℕ) → IsInOrder d → v < d.size → IsRest (topology d v) v a → AreTold d v a 0
all_right_below_none d v a o there r = record {
  order = o;
  there = there;
  rest = r;
  right = λ x y from to linked. (inr (omega arith, omega arith), λ i m below about. inr (omega arith, omega arith));
}

-- what the first node says after a step is right below the next bound, if what was heard by then is right below the bound
pub says_right : (e : Domain) (v : ℕ) (a : ℕ → ℕ) (k : ℕ) → IsInOrder e → v < e.size → IsRest (topology e v) v a → IsHeard e a v k →
    (x y : ℕ) → x < e.size → (m : Message) → Says e x y m → IsAbout v (IsRight (suc k) (exported e x y v (a x)) (a x)) m
says_right e v a k o there r told x y from m says about =
    subst (IsRight (suc k) (exported e x y v (a x)) (a x))
    (sym (says ∙ ap (λ w. exported e x y w (distance (e.router x) w)) about))
    (told_right e o v (suc k) x y (distance (e.router x) v) (a x) from
    (subst (λ n. distance (e.router x) v ≤ n) (o.size x from) (best_within (e.router x).opening v (neighbour_distances (e.router x) v)))
    (distance_right e o v there a r k told x from))

-- one link, from one step to the next: what turns once so many messages came in turns once as many came in as are awaited then
turns_step : (L : ℕ → Type 0) (d e : Domain) (v x y n : ℕ) (left : ℕ → ℕ) → Moves d e x y left → ((m : Message) → Says e x y m → IsAbout v L m) →
    Turns L v n (heard d x y v) (pending d x y) → Turns L v (left n) (heard e x y v) (pending e x y)
turns_step L d e v x y n left (inl g) says t =
    subst (λ k. Turns L v k (heard e x y v) (pending e x y)) (sym (g.1 n))
    (subst (λ b. Turns L v n b (pending e x y)) (sym ((g.0).same v))
    (subst (Turns L v n (heard d x y v)) (sym (g.0).messages)
    (turns_grows L v n (heard d x y v) (pending d x y) (g.0).more t (All-weaker (Says e x y) (IsAbout v L) says (g.0).more (g.0).says))))
turns_step L d e v x y n left (inr (inl h)) says t =
    subst (λ k. Turns L v k (heard e x y v) (pending e x y)) (sym (h.1 n))
    (subst (λ b. Turns L v (n - 1) b (pending e x y)) (sym ((h.0).told v))
    (turns_hears L v n (heard d x y v) (h.0).message (pending e x y) (subst (Turns L v n (heard d x y v)) (h.0).messages t)))
turns_step L d e v x y n left (inr (inr s)) says t =
    subst (λ b. Turns L v (left n) b (pending e x y)) (sym ((s.0).same v))
    (subst (Turns L v (left n) (heard d x y v)) (sym (s.0).now)
    (turns_without L v n (left n) (heard d x y v) (s.0).before (s.0).message (s.0).between (s.0).later (s.0).behind (s.0).about (s.1 n)
    (subst (Turns L v n (heard d x y v)) (s.0).was t)))

-- and what is heard then, where all had turned
heard_step : (L : ℕ → Type 0) (d e : Domain) (v x y : ℕ) (left : ℕ → ℕ) → Moves d e x y left → Turns L v 0 (heard d x y v) (pending d x y) → L (heard e x y v)
heard_step L d e v x y left (inl g) t = subst L (sym ((g.0).same v)) (t.0)
heard_step L d e v x y left (inr (inl h)) t =
    subst L (sym ((h.0).told v))
    (hears_fewer L v 0 (heard d x y v) (h.0).message (pending e x y) (subst (Turns L v 0 (heard d x y v)) (h.0).messages t)).0
heard_step L d e v x y left (inr (inr s)) t = subst L (sym ((s.0).same v)) (t.0)

-- where none is awaited none is afterwards
none_left : (d e : Domain) (x y : ℕ) (left : ℕ → ℕ) → Moves d e x y left → left 0 ≡ 0
none_left d e x y left (inl g) = g.1 0
none_left d e x y left (inr (inl h)) = omega (arith, h.1 0)
none_left d e x y left (inr (inr s)) = omega (arith, s.1 0)

-- what would do before a step does after it
right_now : (d e : Domain) (v : ℕ) (a : ℕ → ℕ) (k x y n : ℕ) → IsStep d e → TellsRight d v a k x y n →
    Turns (IsRight k (exported e x y v (a x)) (a x)) v n (heard d x y v) (pending d x y)
right_now d e v a k x y n step t =
    subst (λ w. Turns (IsRight k w (a x)) v n (heard d x y v) (pending d x y)) (sym (step_exports d e step x y v (a x))) t

pub step_told : (d e : Domain) (v : ℕ) (a : ℕ → ℕ) (k : ℕ) → AreTold d v a k → IsStep d e → AreTold e v a k
step_told d e v a k t step = record { order = order; there = there; rest = rest; right = right }
  where
    kept : KeepsLinksAndFilters d e
    kept = step_keeps d e step

    order : IsInOrder e
    order = step_keeps_order d e t.order step

    there : v < e.size
    there = omega (arith, t.there, kept.size)

    rest : IsRest (topology e v) v a
    rest = subst (λ m. IsRest m v a) (sym (kept_topology d e v kept)) t.rest

    moves : (x y : ℕ) → x < e.size → y < e.size → Moves d e x y (awaited_after d e step x y)
    moves x y from to = step_moves d e t.order step x y (omega (arith, from, kept.size)) (omega (arith, to, kept.size))

    now : (x y : ℕ) → x < e.size → y < e.size → are_linked e x y ≡ true → Turns (IsRight k (exported e x y v (a x)) (a x)) v 0 (heard d x y v) (pending d x y)
    now x y from to linked =
        right_now d e v a k x y 0 step
        (t.right x y (omega (arith, from, kept.size)) (omega (arith, to, kept.size)) (sym (kept.linked x y) ∙ linked))

    told : IsHeard e a v k
    told x y from to linked =
        heard_step (IsRight k (exported e x y v (a x)) (a x)) d e v x y (awaited_after d e step x y) (moves x y from to) (now x y from to linked)

    right : (x y : ℕ) → x < e.size → y < e.size → are_linked e x y ≡ true → TellsRight e v a k x y 0
    right x y from to linked =
        let L : ℕ → Type 0 = IsRight k (exported e x y v (a x)) (a x) in
        subst (λ n. Turns L v n (heard e x y v) (pending e x y)) (none_left d e x y (awaited_after d e step x y) (moves x y from to))
        (turns_step L d e v x y 0 (awaited_after d e step x y) (moves x y from to)
        (λ m says about. less_right k (exported e x y v (a x)) (a x) m.dist (says_right e v a k order there rest told x y from m says about))
        (now x y from to linked))

pub run_told : (n : ℕ) (d e : Domain) (v : ℕ) (a : ℕ → ℕ) (k : ℕ) → AreTold d v a k → Runs n d e → AreTold e v a k
run_told zero d e v a k t run = subst (λ c. AreTold c v a k) run t
run_told (suc n) d e v a k t run = run_told n (run.0) e v a k (step_told d (run.0) v a k t (run.1)) (run.2)

-- and over a run what a link told turns right below the next bound, once what is awaited came in
link_turns : (n : ℕ) (d e : Domain) (run : Runs n d e) (v : ℕ) (a : ℕ → ℕ) (k x y left : ℕ) → AreTold d v a k → x < d.size → y < d.size →
    TellsRight d v a (suc k) x y left → TellsRight e v a (suc k) x y (awaited n d e run x y left)
link_turns zero d e run v a k x y left t from to turns = subst (λ c. TellsRight c v a (suc k) x y left) run turns
link_turns (suc n) d e run v a k x y left t from to turns =
    link_turns n c e (run.2) v a k x y (awaited_after d c (run.1) x y left) after here (omega (arith, to, size))
    (turns_step (IsRight (suc k) (exported c x y v (a x)) (a x)) d c v x y left (awaited_after d c (run.1) x y) (step_moves d c t.order (run.1) x y from to)
    (λ m says about. says_right c v a k after.order after.there after.rest (are_heard c v a k after) x y here m says about)
    (right_now d c v a (suc k) x y left (run.1) turns))
  where
    c : Domain
    c = run.0

    after : AreTold c v a k
    after = step_told d c v a k t (run.1)

    size : c.size ≡ d.size
    size = (step_keeps d c (run.1)).size

    here : x < c.size
    here = omega (arith, from, size)

-- when a phase begins, that is so once all came in that is pending
phase_begins : (d : Domain) (v : ℕ) (a : ℕ → ℕ) (k x y : ℕ) → AreTold d v a k → x < d.size → y < d.size → are_linked d x y ≡ true →
    TellsRight d v a (suc k) x y (length (pending d x y))
phase_begins d v a k x y t from to linked =
    turns_in_the_end (IsRight (suc k) (exported d x y v (a x)) (a x)) v (length (pending d x y)) (heard d x y v) (pending d x y) (omega arith)
    (subst (IsRight (suc k) (exported d x y v (a x)) (a x)) (sym (t.order.told x y v from to t.there linked))
    (told_right d t.order v (suc k) x y (distance (d.router x) v) (a x) from
    (subst (λ n. distance (d.router x) v ≤ n) (t.order.size x from) (best_within (d.router x).opening v (neighbour_distances (d.router x) v)))
    (distance_right d t.order v t.there a t.rest k (are_heard d v a k t) x from)))

-- after a phase all is right below the next bound
pub phase_told : (d e : Domain) (v : ℕ) (a : ℕ → ℕ) (k : ℕ) → AreTold d v a k → IsPhase d e → AreTold e v a (suc k)
phase_told d e v a k t p = record {
  order = after.order;
  there = after.there;
  rest = after.rest;
  right = λ x y from to linked.
      let below_x : x < d.size = omega (arith, from, kept.size) in
      let below_y : y < d.size = omega (arith, to, kept.size) in
      subst (TellsRight e v a (suc k) x y) (p.all x y below_x below_y)
      (link_turns p.steps d e p.run v a k x y (length (pending d x y)) t below_x below_y
      (phase_begins d v a k x y t below_x below_y (sym (kept.linked x y) ∙ linked)));
}
  where
    after : AreTold e v a k
    after = run_told p.steps d e v a k t p.run

    kept : KeepsLinksAndFilters d e
    kept = run_keeps p.steps d e p.run

pub phases_told : (j : ℕ) (d e : Domain) (v : ℕ) (a : ℕ → ℕ) (k l : ℕ) → AreTold d v a k → Phases j d e → j + k ≡ l → AreTold e v a l
phases_told zero d e v a k l t p sum = subst (AreTold e v a) (let same : k ≡ l = omega (arith, sum) in same) (run_told (p.0) d e v a k t (p.1))
phases_told (suc j) d e v a k l t p sum = phases_told j (p.0) e v a (suc k) l (phase_told d (p.0) v a k t (p.1)) (p.2) (omega (arith, sum))

-- and links and filters are what they were
pub phases_keep : (j : ℕ) (d e : Domain) → Phases j d e → KeepsLinksAndFilters d e
phases_keep zero d e p = run_keeps (p.0) d e (p.1)
phases_keep (suc j) d e p = kept_on d (p.0) e (run_keeps (p.1).steps d (p.0) (p.1).run) (phases_keep j (p.0) e (p.2))
