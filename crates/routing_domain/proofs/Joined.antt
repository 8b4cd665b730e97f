-- Runs and phases one after another; and a round, in which all is sent that waits and then all is received that was sent, is a phase.
use mathlib.Core.Logic.{inl, inr}
use Rattle.std.proofs.Common.{◌≡◌, ⊎_elim, ℕ, ◌+◌, ◌-◌, ◌<◌, ◌≤◌, zero, suc, Bool, true, false, cond, List, [], ◌∷◌, ◌++◌, length, take, refl, sym, ap, subst, ◌∙◌, arith, length-append}
use Rattle.std.proofs.lemmas.Bool.{cases_eq}
use Rattle.netchange_core.specs.declared.message.Message.{Message}
use Rattle.routing_domain.specs.Changes.{is_pair}
use Rattle.routing_domain.specs.Domain.{Domain, IsInOrder, neighbour, pending}
use Rattle.routing_domain.specs.Phases.{IsPhase, Phases, awaited, awaited_after, awaited_without}
use Rattle.routing_domain.specs.Runs.{IsStep, Runs}
use Rattle.routing_domain.specs.Steps.{sends, with_flight}
use Rattle.routing_domain.proofs.Emptied.{run_awaits}
use Rattle.routing_domain.proofs.Ending.{run_size}
use Rattle.routing_domain.proofs.Places.{IsOther, cond_same, flight_here, flight_other}
use Rattle.routing_domain.proofs.Running.{run_order}
use Rattle.routing_domain.proofs.Topologies.{pair_is, pair_not}
use Rattle.routing_domain.proofs.Turning.{IsAwaited, is_awaited}

-- one run after another
pub record IsJoined (j k : ℕ) (d c e : Domain) (one : Runs j d c) (other : Runs k c e) : Type 0 where
  pub steps : ℕ
  pub run : Runs steps d e
  pub both : (u w n : ℕ) → awaited steps d e run u w n ≡ awaited k c e other u w (awaited j d c one u w n)

pub runs_join : (j k : ℕ) (d c e : Domain) (one : Runs j d c) (other : Runs k c e) → IsJoined j k d c e one other
runs_join zero k d c e one other =
    let here : Same d = λ r. (r, λ u w n. refl) in
    let there : Same c = subst Same one here in
    let from_here : (run : Runs k d e) × ((u w n : ℕ) → awaited k d e run u w n ≡ awaited k c e other u w n) = there other in
    record { steps = k; run = from_here.0; both = λ u w n. from_here.1 u w n }
  where
    Same : Domain → Type 0
    Same x = (r : Runs k x e) → (run : Runs k d e) × ((u w n : ℕ) → awaited k d e run u w n ≡ awaited k x e r u w n)
runs_join (suc j) k d c e one other =
    let rest : IsJoined j k (one.0) c e (one.2) other = runs_join j k (one.0) c e (one.2) other in
    record { steps = suc rest.steps; run = (one.0, one.1, rest.run); both = λ u w n. rest.both u w (awaited_after d (one.0) (one.1) u w n) }

-- the fewer are awaited, the fewer are left
cond_less : (t : Bool) (x y m n : ℕ) → x ≤ y → m ≤ n → cond t x m ≤ cond t y n
cond_less true x y m n one other = one
cond_less false x y m n one other = other

fewer_after : (d e : Domain) (step : IsStep d e) (u w m n : ℕ) → m ≤ n → awaited_after d e step u w m ≤ awaited_after d e step u w n
fewer_after d e (inl h) u w m n less = cond_less (is_pair h.from h.to u w) (m - 1) (n - 1) m n (omega (arith, less)) less
fewer_after d e (inr (inl s)) u w m n less = less
fewer_after d e (inr (inr x)) u w m n less =
    cond_less (is_pair x.from x.to u w) (awaited_without m (length x.before) (length x.between)) (awaited_without n (length x.before) (length x.between)) m n
    (fewer_without m n (awaited_without m (length x.before) (length x.between)) (awaited_without n (length x.before) (length x.between))
    (length x.before) (length x.between) less (is_awaited m (length x.before) (length x.between)) (is_awaited n (length x.before) (length x.between))) less
  where
    fewer_without : (m n s t before between : ℕ) → m ≤ n → IsAwaited m s before between → IsAwaited n t before between → s ≤ t
    fewer_without m n s t before between less i j = omega (arith, less, i, j)

awaits_fewer : (k : ℕ) (d e : Domain) (run : Runs k d e) (u w m n : ℕ) → m ≤ n → awaited k d e run u w m ≤ awaited k d e run u w n
awaits_fewer zero d e run u w m n less = less
awaits_fewer (suc k) d e run u w m n less =
    awaits_fewer k (run.0) e (run.2) u w (awaited_after d (run.0) (run.1) u w m) (awaited_after d (run.0) (run.1) u w n)
    (fewer_after d (run.0) (run.1) u w m n less)

-- a phase that begins later is one
run_then_phase : (n : ℕ) (d c e : Domain) → IsInOrder d → Runs n d c → IsPhase c e → IsPhase d e
run_then_phase n d c e o run p =
    let both : IsJoined n p.steps d c e run p.run = runs_join n p.steps d c e run p.run in
    let size : c.size ≡ d.size = run_size n d c run in
    record {
      steps = both.steps;
      run = both.run;
      all = λ u w from to.
          omega (
            arith,
            both.both u w (length (pending d u w)),
            p.all u w (omega (arith, from, size)) (omega (arith, to, size)),
            awaits_fewer p.steps c e p.run u w (awaited n d c run u w (length (pending d u w))) (length (pending c u w))
                (run_awaits n d c run o u w (length (pending d u w)) from to (omega arith)),
          );
    }

-- one phase more
pub phases_more : (j : ℕ) (d c e : Domain) → IsInOrder d → Phases j d c → IsPhase c e → Phases (suc j) d e
phases_more zero d c e o p last = (e, run_then_phase (p.0) d c e o (p.1) last, (0, refl))
phases_more (suc j) d c e o p last =
    (p.0, p.1, phases_more j (p.0) c e (run_order (p.1).steps d (p.0) o (p.1).run) (p.2) last)

-- and a run more
pub phases_then_run : (j k : ℕ) (d c e : Domain) → Phases j d c → Runs k c e → Phases j d e
phases_then_run zero k d c e p run =
    let both : IsJoined (p.0) k d c e (p.1) run = runs_join (p.0) k d c e (p.1) run in (both.steps, both.run)
phases_then_run (suc j) k d c e p run = (p.0, p.1, phases_then_run j k (p.0) c e (p.2) run)

-- where one link is set: no more are awaited than are on their way, if that was so before
set_flies : (d : Domain) (a b : ℕ) (ms : List Message) (left u w n : ℕ) → (n ≤ length (d.flight a b) → left ≤ length ms) → n ≤ length (d.flight u w) →
    cond (is_pair a b u w) left n ≤ length ((with_flight d a b ms).flight u w)
set_flies d a b ms left u w n here few =
    ⊎_elim
    (λ (one : u ≡ a). ⊎_elim
    (λ (two : w ≡ b).
    subst (λ x. cond (is_pair a b x w) left n ≤ length (e.flight x w)) (sym one)
    (subst (λ y. cond (is_pair a b a y) left n ≤ length (e.flight a y)) (sym two)
    (omega (
      arith,
      ap (λ t. cond t left n) (pair_is a b),
      ap length (flight_here d a b ms),
      here (subst (λ y. n ≤ length (d.flight a y)) two (subst (λ x. n ≤ length (d.flight x w)) one few)),
    ))))
    (λ (far : w ≡ b → ⊥). elsewhere (record { other = λ _ two. far two }))
    (cases_eq w b))
    (λ (far : u ≡ a → ⊥). elsewhere (record { other = λ one _. far one }))
    (cases_eq u a)
  where
    e : Domain
    e = with_flight d a b ms

    elsewhere : IsOther a b u w → cond (is_pair a b u w) left n ≤ length (e.flight u w)
    elsewhere i = omega (arith, ap (λ t. cond t left n) (pair_not a b u w i), ap length (flight_other d a b ms u w i), few)

step_flies : (d e : Domain) (step : IsStep d e) (u w n : ℕ) → n ≤ length (d.flight u w) → awaited_after d e step u w n ≤ length (e.flight u w)
step_flies d e (inl h) u w n few =
    subst (λ x. cond (is_pair h.from h.to u w) (n - 1) n ≤ length (x.flight u w)) (sym h.after)
    (set_flies d h.from h.to h.rest (n - 1) u w n (λ most. omega (arith, most, ap length h.is_next.first)) few)
step_flies d e (inr (inl s)) u w n few =
    subst (λ x. n ≤ length (x.flight u w)) (sym s.after)
    (subst (λ k. k ≤ length ((sends d s.from s.to s.max).flight u w)) (cond_same (is_pair s.from s.to u w) n)
    (set_flies d s.from s.to (d.flight s.from s.to ++ sent) n u w n
    (λ most. omega (arith, most, length-append (d.flight s.from s.to) sent)) few))
  where
    sent : List Message
    sent = take s.max (neighbour d s.from s.to).queue
step_flies d e (inr (inr x)) u w n few =
    subst (λ c. cond (is_pair x.from x.to u w) left n ≤ length (c.flight u w)) (sym x.after)
    (set_flies d x.from x.to (x.before ++ (x.between ++ x.later ∷ x.behind)) left u w n (λ most. fewer most) few)
  where
    left : ℕ
    left = awaited_without n (length x.before) (length x.between)

    fewer : n ≤ length (d.flight x.from x.to) → left ≤ length (x.before ++ (x.between ++ x.later ∷ x.behind))
    fewer most =
        omega (
          arith,
          most,
          is_awaited n (length x.before) (length x.between),
          ap length x.flight,
          length-append x.before (x.message ∷ (x.between ++ x.later ∷ x.behind)),
          length-append x.before (x.between ++ x.later ∷ x.behind),
          length-append x.between (x.later ∷ x.behind),
        )

run_flies : (k : ℕ) (d e : Domain) (run : Runs k d e) (u w n : ℕ) → n ≤ length (d.flight u w) → awaited k d e run u w n ≤ length (e.flight u w)
run_flies zero d e run u w n few = omega (arith, few, ap (λ c. length (c.flight u w)) run)
run_flies (suc k) d e run u w n few =
    run_flies k (run.0) e (run.2) u w (awaited_after d (run.0) (run.1) u w n) (step_flies d (run.0) (run.1) u w n few)

-- so a round is a phase
pub round_is_phase : (j k : ℕ) (d c e : Domain) → IsInOrder d → Runs j d c → Runs k c e →
    ((u w : ℕ) → u < d.size → w < d.size → (neighbour c u w).queue ≡ []) → ((u w : ℕ) → u < d.size → w < d.size → e.flight u w ≡ []) → IsPhase d e
round_is_phase j k d c e o one other sent heard =
    let both : IsJoined j k d c e one other = runs_join j k d c e one other in
    record {
      steps = both.steps;
      run = both.run;
      all = λ u w from to.
          let left : ℕ = awaited j d c one u w (length (pending d u w)) in
          omega (
            arith,
            both.both u w (length (pending d u w)),
            run_flies k c e other u w left
                (omega (
                  arith,
                  run_awaits j d c one o u w (length (pending d u w)) from to (omega arith),
                  length-append (c.flight u w) (neighbour c u w).queue,
                  ap length (sent u w from to),
                )),
            ap length (heard u w from to),
          );
    }
