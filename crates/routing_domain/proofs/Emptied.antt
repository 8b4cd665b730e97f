-- In the last phase no distance changes any more, so nothing new is told, and after it the domain is quiet.
use mathlib.Core.Logic.{inl, inr}
use Rattle.std.proofs.Common.{◌≡◌, ◌⊎◌, ⊎_elim, ℕ, ◌+◌, ◌<◌, ◌≤◌, zero, suc, List, [], ◌∷◌, ◌++◌, length, take, refl, sym, ap, subst, ◌∙◌, arith, length-append}
use Rattle.std.proofs.lemmas.List.{nil_from_length}
use Rattle.netchange_core.specs.declared.message.Message.{Message}
use Rattle.netchange_core.specs.Best.{distance, neighbour_distances}
use Rattle.netchange_core.proofs.Opened.{best_within}
use Rattle.routing_domain.specs.Domain.{Domain, IsInOrder, IsQuiet, KeepsLinksAndFilters, neighbour, pending, topology}
use Rattle.routing_domain.specs.Phases.{AreWithin, IsPhase, Phases, awaited, awaited_after}
use Rattle.routing_domain.specs.Rest.{IsRest}
use Rattle.routing_domain.specs.Runs.{IsStep, Runs}
use Rattle.routing_domain.proofs.Ending.{end_of, end_rests, run_keeps, run_size, step_keeps}
use Rattle.routing_domain.proofs.Moving.{Grows, Moves, Skips, step_moves}
use Rattle.routing_domain.proofs.Nearing.{distance_right}
use Rattle.routing_domain.proofs.Running.{ComesToRest, comes_to_rest, run_order, step_keeps_order}
use Rattle.routing_domain.proofs.Topologies.{kept_itself, kept_on}
use Rattle.routing_domain.proofs.Turned.{AreTold, all_right_below_none, are_heard, phase_told, step_told}

pub step_size : (d e : Domain) → IsStep d e → e.size ≡ d.size
step_size d e step = (step_keeps d e step).size

-- how many messages are on a link from which one was left out
record Lengths (xs ys : List Message) (before between : ℕ) : Type 0 where
  rest : ℕ
  was : length xs ≡ before + between + rest + 2
  now : length ys ≡ before + between + rest + 1

skips_lengths : (d e : Domain) (x y : ℕ) (s : Skips d e x y) → Lengths (pending d x y) (pending e x y) (length s.before) (length s.between)
skips_lengths d e x y s = record {
  rest = length s.behind;
  was = omega (
    arith,
    ap length s.was ∙ length-append s.before (s.message ∷ (s.between ++ s.later ∷ s.behind)),
    length-append s.between (s.later ∷ s.behind),
  );
  now = omega (
    arith,
    ap length s.now ∙ length-append s.before (s.between ++ s.later ∷ s.behind),
    length-append s.between (s.later ∷ s.behind),
  );
}

-- no more are awaited than are on the link
step_awaits : (d e : Domain) (x y n : ℕ) (left : ℕ → ℕ) → Moves d e x y left → n ≤ length (pending d x y) → left n ≤ length (pending e x y)
step_awaits d e x y n left (inl g) few = omega (arith, g.1 n, few, ap length (g.0).messages, length-append (pending d x y) (g.0).more)
step_awaits d e x y n left (inr (inl h)) few = omega (arith, h.1 n, few, ap length (h.0).messages)
step_awaits d e x y n left (inr (inr s)) few =
    let l : Lengths (pending d x y) (pending e x y) (length (s.0).before) (length (s.0).between) = skips_lengths d e x y (s.0) in
    omega (arith, s.1 n, few, l.was, l.now)

pub run_awaits : (k : ℕ) (d e : Domain) (run : Runs k d e) → IsInOrder d → (x y n : ℕ) → x < d.size → y < d.size → n ≤ length (pending d x y) →
    awaited k d e run x y n ≤ length (pending e x y)
run_awaits zero d e run o x y n from to few = omega (arith, few, ap (λ c. length (pending c x y)) run)
run_awaits (suc k) d e run o x y n from to few =
    run_awaits k (run.0) e (run.2) (step_keeps_order d (run.0) o (run.1)) x y (awaited_after d (run.0) (run.1) x y n)
    (omega (arith, from, step_size d (run.0) (run.1))) (omega (arith, to, step_size d (run.0) (run.1)))
    (step_awaits d (run.0) x y n (awaited_after d (run.0) (run.1) x y) (step_moves d (run.0) o (run.1) x y from to) few)

-- so a run that ends quiet is a phase
pub quiet_is_phase : (n : ℕ) (d e : Domain) → IsInOrder d → Runs n d e → IsQuiet e → IsPhase d e
quiet_is_phase n d e o run q = record {
  steps = n;
  run = run;
  all = λ u w from to.
      omega (
        arith,
        run_awaits n d e run o u w (length (pending d u w)) from to (omega arith),
        length-append (e.flight u w) (neighbour e u w).queue,
        ap length (q.flights u w (omega (arith, from, run_size n d e run)) (omega (arith, to, run_size n d e run))),
        ap length (q.queues u w (omega (arith, from, run_size n d e run)) (omega (arith, to, run_size n d e run))),
      );
}

-- about all nodes what was told is right below a bound
abbrev pub AllTold : Domain → (ℕ → ℕ → ℕ) → ℕ → Type 0
AllTold d a k = (v : ℕ) → v < d.size → AreTold d v (a v) k

-- A bound is enough for a domain where each distance is that of rest as soon as all that was told is right below it, whatever messages are under way.
abbrev pub Settles : Domain → (ℕ → ℕ → ℕ) → ℕ → Type 0
Settles d a k = (c : Domain) → KeepsLinksAndFilters d c → IsInOrder c → AllTold c a k → (v x : ℕ) → v < c.size → x < c.size →
    distance (c.router x) v ≡ a v x

settles_on : (d e : Domain) (a : ℕ → ℕ → ℕ) (k : ℕ) → KeepsLinksAndFilters d e → Settles d a k → Settles e a k
settles_on d e a k kept settles = λ c more. settles c (kept_on d e c kept more)

-- so it is where each distance at rest is within it, and where it is one below the size
within_settles : (d : Domain) (a : ℕ → ℕ → ℕ) (k : ℕ) → ((v x : ℕ) → v < d.size → x < d.size → (a v x ≤ k) ⊎ (d.size ≤ suc k)) → Settles d a k
within_settles d a k within = at_rest
  where
    at_rest : (c : Domain) → KeepsLinksAndFilters d c → IsInOrder c → AllTold c a k → (v x : ℕ) → v < c.size → x < c.size → distance (c.router x) v ≡ a v x
    at_rest c kept o all v x there short =
        let t : AreTold c v (a v) k = all v there in
        ⊎_elim
        (λ (same : distance (c.router x) v ≡ a v x). same)
        (λ (past : (suc k ≤ a v x) × (suc k ≤ distance (c.router x) v)).
        ⊎_elim
        (λ (few : a v x ≤ k). absurd (omega (arith, past.0, few)))
        (λ (full : d.size ≤ suc k).
        omega (arith, past.0, past.1, full, kept.size, t.rest.bounded x short, o.size x short, best_within (c.router x).opening v (neighbour_distances (c.router x) v)))
        (within v x (omega (arith, there, kept.size)) (omega (arith, short, kept.size))))
        (distance_right c o v there (a v) t.rest k (are_heard c v (a v) k t) x short)

step_all : (d e : Domain) (a : ℕ → ℕ → ℕ) (k : ℕ) → AllTold d a k → IsStep d e → AllTold e a k
step_all d e a k all step = λ v there. step_told d e v (a v) k (all v (omega (arith, there, step_size d e step))) step

-- then nothing new is said, and all that is on a link is awaited
step_empties : (d e : Domain) (x y n : ℕ) (left : ℕ → ℕ) → Moves d e x y left → ((g : Grows d e x y) → g.more ≡ []) → length (pending d x y) ≤ n →
    length (pending e x y) ≤ left n
step_empties d e x y n left (inl g) nothing most =
    omega (arith, g.1 n, most, ap length (g.0).messages, length-append (pending d x y) (g.0).more, ap length (nothing (g.0)))
step_empties d e x y n left (inr (inl h)) nothing most = omega (arith, h.1 n, most, ap length (h.0).messages)
step_empties d e x y n left (inr (inr s)) nothing most =
    let l : Lengths (pending d x y) (pending e x y) (length (s.0).before) (length (s.0).between) = skips_lengths d e x y (s.0) in
    omega (arith, s.1 n, most, l.was, l.now)

link_empties : (n : ℕ) (d e : Domain) (run : Runs n d e) (a : ℕ → ℕ → ℕ) (k x y left : ℕ) → IsInOrder d → AllTold d a k → Settles d a k →
    x < d.size → y < d.size → length (pending d x y) ≤ left → length (pending e x y) ≤ awaited n d e run x y left
link_empties zero d e run a k x y left o all settles from to most = omega (arith, most, ap (λ c. length (pending c x y)) run)
link_empties (suc n) d e run a k x y left o all settles from to most =
    link_empties n c e (run.2) a k x y (awaited_after d c (run.1) x y left) order after (settles_on d c a k kept settles) here (omega (arith, to, size))
    (step_empties d c x y left (awaited_after d c (run.1) x y) (step_moves d c o (run.1) x y from to) nothing most)
  where
    c : Domain
    c = run.0

    kept : KeepsLinksAndFilters d c
    kept = step_keeps d c (run.1)

    size : c.size ≡ d.size
    size = kept.size

    order : IsInOrder c
    order = step_keeps_order d c o (run.1)

    after : AllTold c a k
    after = step_all d c a k all (run.1)

    here : x < c.size
    here = omega (arith, from, size)

    nothing : (g : Grows d c x y) → g.more ≡ []
    nothing g = g.none (λ v below.
        settles d (kept_itself d) o all v x below from
        ∙ sym (settles c kept order after v x (omega (arith, below, size)) here))

no_messages : (d : Domain) (x y : ℕ) → length (pending d x y) ≤ 0 → (d.flight x y ≡ []) × ((neighbour d x y).queue ≡ [])
no_messages d x y none =
    let both = length-append (d.flight x y) (neighbour d x y).queue in (
      nil_from_length (d.flight x y) (omega (arith, both, none)),
      nil_from_length (neighbour d x y).queue (omega (arith, both, none)),
    )

last_phase : (d e : Domain) (a : ℕ → ℕ → ℕ) (k : ℕ) → IsInOrder d → AllTold d a k → Settles d a k → IsPhase d e → IsQuiet e
last_phase d e a k o all settles p = record {
  queues = λ x y from to. (empty x y from to).1;
  flights = λ x y from to. (empty x y from to).0;
}
  where
    size : e.size ≡ d.size
    size = run_size p.steps d e p.run

    empty : (x y : ℕ) → x < e.size → y < e.size → (e.flight x y ≡ []) × ((neighbour e x y).queue ≡ [])
    empty x y from to =
        let below_x : x < d.size = omega (arith, from, size) in
        let below_y : y < d.size = omega (arith, to, size) in
        no_messages e x y
        (omega (
          arith,
          p.all x y below_x below_y,
          link_empties p.steps d e p.run a k x y (length (pending d x y)) o all settles below_x below_y (omega arith),
        ))

-- nothing happens in a quiet domain
pub none_taken : (k : ℕ) (ms : List Message) → ms ≡ [] → 0 < length (take k ms) → ⊥
none_taken zero ms none some = omega (arith, some)
none_taken (suc k) ms none some = omega (arith, some, ap (λ q. length (take (suc k) q)) none)

none_without : (xs : List Message) (m : Message) (ys : List Message) → xs ++ m ∷ ys ≡ [] → ⊥
none_without [] m ys h = cc
none_without (x ∷ xs) m ys h = cc

no_step : (d e : Domain) → IsQuiet d → IsStep d e → ⊥
no_step d e q (inl h) = none_without [] h.message h.rest (sym h.is_next.first ∙ q.flights h.from h.to h.is_next.from h.is_next.to)
no_step d e q (inr (inl s)) = none_taken s.max (neighbour d s.from s.to).queue (q.queues s.from s.to s.member s.member_there) s.some
no_step d e q (inr (inr x)) =
    none_without x.before x.message (x.between ++ x.later ∷ x.behind) (sym x.flight ∙ q.flights x.from x.to x.member x.member_there)

pub stays_quiet : (n : ℕ) (d e : Domain) → Runs n d e → IsQuiet d → IsQuiet e
stays_quiet zero d e run q = subst IsQuiet run q
stays_quiet (suc n) d e run q = absurd (no_step d (run.0) q (run.1))

-- as many phases as are left
pub quiet_within : (j : ℕ) (d e : Domain) (a : ℕ → ℕ → ℕ) (k l : ℕ) → IsInOrder d → AllTold d a k → k + j ≡ l → Settles d a l → Phases (suc j) d e → IsQuiet e
quiet_within zero d e a k l o all sum settles p =
    stays_quiet (p.2).0 (p.0) e (p.2).1 (last_phase d (p.0) a k o all (subst (Settles d a) (let same : l ≡ k = omega (arith, sum) in same) settles) (p.1))
quiet_within (suc j) d e a k l o all sum settles p =
    quiet_within j (p.0) e a (suc k) l (run_order (p.1).steps d (p.0) o (p.1).run)
    (λ v there. phase_told d (p.0) v (a v) k (all v (omega (arith, there, kept.size))) (p.1))
    (omega (arith, sum)) (settles_on d (p.0) a l kept settles) (p.2)
  where
    kept : KeepsLinksAndFilters d (p.0)
    kept = run_keeps (p.1).steps d (p.0) (p.1).run

-- the distances of some end of it, which are those of rest
pub ends_at : (d : Domain) → IsInOrder d → ℕ → ℕ → ℕ
ends_at d o v u = distance ((comes_to_rest d o).end.router u) v

pub ends_rest : (d : Domain) (o : IsInOrder d) (v : ℕ) → v < d.size → IsRest (topology d v) v (ends_at d o v)
unfolding ends_at
ends_rest d o v there =
    let r : ComesToRest d = comes_to_rest d o in
    end_rests d r.end v (end_of r.steps d r.end v o r.runs) r.quiet there

pub all_told_at_first : (d : Domain) (o : IsInOrder d) → AllTold d (ends_at d o) 0
all_told_at_first d o = λ v there. all_right_below_none d v (ends_at d o v) o there (ends_rest d o v there)

-- after one phase more than the longest distance at rest a domain is quiet
pub quiet_soon : (j : ℕ) (d e : Domain) → IsInOrder d → AreWithin j d → Phases (suc j) d e → IsQuiet e
quiet_soon j d e o within p =
    quiet_within j d e (ends_at d o) 0 j o (all_told_at_first d o) (omega arith)
    (within_settles d (ends_at d o) j (λ v x there short. inl (within v there (ends_at d o v) (ends_rest d o v there) x short))) p

-- after as many phases as there are nodes it is
pub quiet_after : (d e : Domain) → IsInOrder d → Phases d.size d e → IsQuiet e
quiet_after d e o p = by_size d.size refl p
  where
    by_size : (n : ℕ) → d.size ≡ n → Phases n d e → IsQuiet e
    by_size zero none q =
        let size : e.size ≡ d.size = run_size (q.0) d e (q.1) in
        record { queues = λ x y from to. absurd (omega (arith, from, size, none)); flights = λ x y from to. absurd (omega (arith, from, size, none)) }
    by_size (suc j) some q =
        quiet_within j d e (ends_at d o) 0 j o (all_told_at_first d o) (omega arith)
        (within_settles d (ends_at d o) j (λ v x _ _. inr (omega (arith, some)))) q
