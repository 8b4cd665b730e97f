-- Every run of a domain in order ends, in whatever order its steps are taken; and there is one that ends quiet.
use mathlib.Core.Logic.{inl, inr}
use Rattle.std.proofs.Common.{◌≡◌, ◌⊎◌, ⊎_elim, ℕ, ◌+◌, ◌<◌, ◌≤◌, zero, suc, List, [], ◌∷◌, length, take, refl, sym, ap, subst, arith}
use Rattle.std.proofs.lemmas.Bool.{cases_eq}
use Rattle.netchange_core.specs.declared.message.Message.{Message}
use Rattle.routing_domain.specs.Domain.{Domain, IsInOrder, IsQuiet, neighbour}
use Rattle.routing_domain.specs.Runs.{IsStep, ReceivesOne, Runs, SendsSome}
use Rattle.routing_domain.specs.Steps.{receives, sends}
use Rattle.routing_domain.specs.Weight.{weight}
use Rattle.routing_domain.proofs.Dropping.{drop_is_lighter, drop_keeps_order}
use Rattle.routing_domain.proofs.Receiving.{receiving_is_lighter}
use Rattle.routing_domain.proofs.Lighter.{sending_is_lighter}
use Rattle.routing_domain.proofs.Occurring.{first_is_next}
use Rattle.routing_domain.proofs.Order.{receiving_keeps_order}
use Rattle.routing_domain.proofs.Sends.{sending_keeps_order}

-- a step keeps order and makes the domain lighter
pub record IsLighter (d e : Domain) : Type 0 where
  pub order : IsInOrder e
  pub lighter : weight e < weight d

step_is_lighter : (d e : Domain) → IsInOrder d → IsStep d e → IsLighter d e
step_is_lighter d e o (inl h) = subst (IsLighter d) (sym h.after) (record {
  order = receiving_keeps_order d h.from h.to h.message h.rest o h.is_next;
  lighter = receiving_is_lighter d h.from h.to h.message h.rest o h.is_next;
})
step_is_lighter d e o (inr (inl s)) = subst (IsLighter d) (sym s.after) (record {
  order = sending_keeps_order d s.from s.to s.max o s.member s.member_there;
  lighter = sending_is_lighter d s.from s.to s.max o s.member s.member_there s.some;
})
step_is_lighter d e o (inr (inr x)) = record { order = drop_keeps_order d e o x; lighter = drop_is_lighter d e x }

pub step_keeps_order : (d e : Domain) → IsInOrder d → IsStep d e → IsInOrder e
step_keeps_order d e o step = (step_is_lighter d e o step).order

-- no run has more steps than the domain weighs
pub run_is_short : (k : ℕ) (d e : Domain) → IsInOrder d → Runs k d e → (IsInOrder e) × (k + weight e ≤ weight d)
run_is_short zero d e o run = (subst IsInOrder run o, omega (arith, ap weight run))
run_is_short (suc k) d e o run =
    let s : IsLighter d run.0 = step_is_lighter d run.0 o run.1 in
    let rest : (IsInOrder e) × (k + weight e ≤ weight run.0) = run_is_short k run.0 e s.order run.2 in
    (rest.0, omega (arith, rest.1, s.lighter))

-- what is true of all nodes below a number, or of one not
search_below : (n : ℕ) (P : ℕ → Type 0) (Q : Type 0) → ((u : ℕ) → u < n → (P u) ⊎ Q) → ((u : ℕ) → u < n → P u) ⊎ Q
search_below zero P Q each = inl (λ u below. absurd (omega (arith, below)))
search_below (suc n) P Q each =
    ⊎_elim
    (λ (rest : (u : ℕ) → u < n → P u).
    ⊎_elim
    (λ (last : P n). inl (λ u below. ⊎_elim (λ (here : u ≡ n). subst P (sym here) last) (λ (other : u ≡ n → ⊥). rest u (omega (arith, below, other)))
    (cases_eq u n)))
    (λ q. inr q)
    (each n (omega arith)))
    (λ q. inr q)
    (search_below n P Q (λ u below. each u (omega (arith, below))))

-- a message that can be received, or sent
abbrev pub HasStep : Domain → Type 0
HasStep d = (e : Domain) × ((ReceivesOne d e) ⊎ (SendsSome d e))

queue_or_step : (d : Domain) (u w : ℕ) → u < d.size → w < d.size → (ms : List Message) → (neighbour d u w).queue ≡ ms →
    ((neighbour d u w).queue ≡ []) ⊎ (HasStep d)
queue_or_step d u w from to [] e = inl e
queue_or_step d u w from to (m ∷ ms) e = inr (
  sends d u w 1,
  inr (record {
    from = u;
    to = w;
    max = 1;
    member = from;
    member_there = to;
    some = subst (λ q. 0 < length (take 1 q)) (sym e) (omega arith);
    after = refl;
  }),
)

flight_or_step : (d : Domain) (u w : ℕ) → IsInOrder d → u < d.size → w < d.size → (ms : List Message) → d.flight u w ≡ ms →
    (d.flight u w ≡ []) ⊎ (HasStep d)
flight_or_step d u w o from to [] e = inl e
flight_or_step d u w o from to (m ∷ ms) e = inr (
  receives d u w m ms,
  inl (record {
    from = u;
    to = w;
    message = m;
    rest = ms;
    is_next = first_is_next d u w m ms o from to e;
    after = refl;
  }),
)

-- a domain in order is quiet, or has a step
pub quiet_or_step : (d : Domain) → IsInOrder d → (IsQuiet d) ⊎ (HasStep d)
quiet_or_step d o =
    ⊎_elim
    (λ (queues : (u : ℕ) → u < d.size → (w : ℕ) → w < d.size → (neighbour d u w).queue ≡ []).
    ⊎_elim
    (λ (flights : (u : ℕ) → u < d.size → (w : ℕ) → w < d.size → d.flight u w ≡ []).
    inl (record { queues = λ u w from to. queues u from w to; flights = λ u w from to. flights u from w to }))
    (λ step. inr step)
    (search_below d.size (λ u. (w : ℕ) → w < d.size → d.flight u w ≡ []) (HasStep d)
    (λ u from. search_below d.size (λ w. d.flight u w ≡ []) (HasStep d) (λ w to. flight_or_step d u w o from to (d.flight u w) refl))))
    (λ step. inr step)
    (search_below d.size (λ u. (w : ℕ) → w < d.size → (neighbour d u w).queue ≡ []) (HasStep d)
    (λ u from. search_below d.size (λ w. (neighbour d u w).queue ≡ []) (HasStep d) (λ w to. queue_or_step d u w from to (neighbour d u w).queue refl)))

-- a run to a quiet domain
pub record ComesToRest (d : Domain) : Type 0 where
  pub steps : ℕ
  pub end : Domain
  pub runs : Runs steps d end
  pub order : IsInOrder end
  pub quiet : IsQuiet end

comes_within : (n : ℕ) (d : Domain) → IsInOrder d → weight d < n → ComesToRest d
comes_within zero d o h = absurd (omega (arith, h))
comes_within (suc n) d o h =
    ⊎_elim
    (λ (q : IsQuiet d). record { steps = 0; end = d; runs = refl; order = o; quiet = q })
    (λ (s : HasStep d).
    let step : IsStep d s.0 = ⊎_elim (λ (h : ReceivesOne d s.0). inl h) (λ (t : SendsSome d s.0). inr (inl t)) s.1 in
    let l : IsLighter d s.0 = step_is_lighter d s.0 o step in
    let rest : ComesToRest s.0 = comes_within n s.0 l.order (omega (arith, h, l.lighter)) in
    record { steps = suc rest.steps; end = rest.end; runs = (s.0, step, rest.runs); order = rest.order; quiet = rest.quiet })
    (quiet_or_step d o)

pub comes_to_rest : (d : Domain) → IsInOrder d → ComesToRest d
comes_to_rest d o = comes_within (suc (weight d)) d o (omega arith)

pub run_order : (n : ℕ) (d e : Domain) → IsInOrder d → Runs n d e → IsInOrder e
run_order n d e o run = (run_is_short n d e o run).0
