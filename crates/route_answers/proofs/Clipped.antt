-- Runs in domains of two sizes: where code reads the metric before it sets it, the run in the smaller domain is that in the larger
-- one with each metric clipped.
use Rattle.std.proofs.Common.{◌≡◌, ℕ, zero, suc, ◌+◌, ◌<◌, ◌≤◌, Bool, true, false, Option, Some, None, List, ◌∷◌, length}
use Rattle.std.proofs.Common.{◌⊎◌, inl, inr, refl, sym, ap, subst, ◌∙◌, arith}
use Rattle.std.proofs.Math.Nat.{eq-or-lt_of_le, min-eq_left}
use Rattle.std.proofs.lemmas.Bool.Decides.{nat_tests}
use Rattle.std.specs.Prelude.{min, slice_get, unwrap_or}
use Rattle.filter_code.specs.CodeView.{CodeView}
use Rattle.filter_code.specs.Machine.{Config, State, Going, Ended, on_one, value_given, value_fault, metric_after}
use Rattle.filter_code.specs.Machine.{overfills, moved_on, unless_fault, unless_full, unless_ended, act, carry_out}
use Rattle.filter_code.specs.Machine.{IsOutcome, start, step, next, after, end_of, outcome_of}
use Rattle.filter_code.specs.RouteView.{RouteView}
use Rattle.filter_code.specs.Table.{Operands, Zero, One, Two, Drawn, Bad, Good, draw}
use Rattle.filter_code.specs.Values.{int_of, kind_of}
use Rattle.filter_code.specs.declared.instruction.Instr.{Instr}
use Rattle.filter_code.specs.declared.instruction.Instr.TheVariants as instr
use Rattle.filter_code.specs.declared.outcome.FaultKind.{FaultKind}
use Rattle.filter_code.specs.declared.outcome.Outcome.{Outcome}
use Rattle.filter_code.specs.declared.outcome.Outcome.TheVariants as outcome
use Rattle.filter_code.specs.declared.value.Value.{Value}
use Rattle.filter_code.specs.declared.value.Value.TheVariants as value
use Rattle.filter_code.proofs.Metrics.{accepted_in_range}
use Rattle.filter_code.proofs.Runs.{Moves, outcome_exists, step_moves}
use Rattle.route_answers.specs.Sizes.{ReadsFirst, clipped}
use Rattle.filter_machine.specs.Verdicts.{announced}

-- a configuration, and a state, with the metric clipped
abbrev with_metric : Config → ℕ → Config
with_metric c metric = record { pc = c.pc; frame = c.frame; metric = metric }

abbrev clipped_state : ℕ → State → State
clipped_state size (Going c) = Going (with_metric c (min c.metric size))
clipped_state size (Ended end) = Ended (clipped size end)

-- the tests stand outside of the clipping
tests_clipped : (size : ℕ) (fault : Option FaultKind) (full : Bool) (pc : ℕ) (state : State) →
    unless_fault fault pc (unless_full full pc (clipped_state size state)) ≡ clipped_state size (unless_fault fault pc (unless_full full pc state))
tests_clipped size None false pc state = refl
tests_clipped size None true pc state = refl
tests_clipped size (Some kind) full pc state = refl

min_min : (n larger smaller : ℕ) → smaller ≤ larger → min n smaller ≡ min (min n larger) smaller
min_min n larger smaller below = grind (arith, nat_tests)

-- what SETMETRIC sets
set_clipped : (smaller larger metric : ℕ) (operands : Operands Value) → smaller ≤ larger →
    unwrap_or (on_one int_of (λ v. min v smaller) operands) (min metric smaller)
    ≡ min (unwrap_or (on_one int_of (λ v. min v larger) operands) metric) smaller
set_clipped smaller larger metric Zero below = refl
set_clipped smaller larger metric (One (value.Int v)) below = min_min v larger smaller below
set_clipped smaller larger metric (One _) below = refl
set_clipped smaller larger metric (Two a b) below = refl

module _ (program : CodeView) (net : List Bool) (received smaller larger : ℕ) (below : smaller ≤ larger) where
  abbrev small : RouteView
  small = announced net received smaller

  abbrev large : RouteView
  large = announced net received larger

  -- an instruction with its operands
  good_clipped : (c : Config) (i : Instr) (operands : Operands Value) (rest : List Value) → (i ≡ instr.Metric → c.metric ≤ smaller) →
      act program small (with_metric c (min c.metric smaller)) i (Good operands rest)
      ≡ clipped_state smaller (act program large c i (Good operands rest))
  good_clipped c instr.Metric operands rest low =
      let here = min-eq_left (low refl) in
      ap (λ metric. unless_full (overfills (Some (value.Int metric)) rest) c.pc (Going (record {
        pc = c.pc + 1;
        frame = record { stack = value.Int metric ∷ rest; locals = c.frame.locals };
        metric = min c.metric smaller;
      }))) here
      ∙ tests_clipped smaller None (overfills (Some (value.Int c.metric)) rest) c.pc (Going (moved_on program large c instr.Metric operands rest))
  good_clipped c instr.SetMetric operands rest low =
      ap (λ metric. unless_fault (value_fault large instr.SetMetric operands) c.pc (Going (record {
        pc = c.pc + 1;
        frame = record { stack = rest; locals = c.frame.locals };
        metric = metric;
      }))) (set_clipped smaller larger c.metric operands below)
      ∙ tests_clipped smaller (value_fault large instr.SetMetric operands) false c.pc (Going (moved_on program large c instr.SetMetric operands rest))
  good_clipped c instr.Accept operands rest low = refl
  good_clipped c instr.Reject operands rest low = refl
  good_clipped c i operands rest low =
      tests_clipped smaller (value_fault large i operands) (overfills (value_given program large c.metric i operands) rest) c.pc
      (Going (moved_on program large c i operands rest))

  act_clipped : (c : Config) (i : Instr) (drawn : Drawn Value) → (i ≡ instr.Metric → c.metric ≤ smaller) →
      act program small (with_metric c (min c.metric smaller)) i drawn ≡ clipped_state smaller (act program large c i drawn)
  act_clipped c i (Bad why) low = refl
  act_clipped c i (Good operands rest) low = good_clipped c i operands rest low

  carried_clipped : (c : Config) (found : Option Instr) → (found ≡ Some instr.Metric → c.metric ≤ smaller) →
      carry_out program small (with_metric c (min c.metric smaller)) found ≡ clipped_state smaller (carry_out program large c found)
  carried_clipped c None low = refl
  carried_clipped c (Some i) low = act_clipped c i (draw kind_of program i c.frame) (λ is. low (ap Some is))

  next_clipped : (state : State) →
      ((c : Config) → state ≡ Going c → slice_get program.instrs c.pc ≡ Some instr.Metric → c.metric ≤ smaller) →
      next program small (clipped_state smaller state) ≡ clipped_state smaller (next program large state)
  next_clipped (Going c) low = carried_clipped c (slice_get program.instrs c.pc) (low c refl)
  next_clipped (Ended end) low = refl

  -- what the tests let through
  went_on : (fault : Option FaultKind) (full : Bool) (end : Option Outcome) (pc : ℕ) (c d : Config) →
      unless_fault fault pc (unless_full full pc (unless_ended end (Going c))) ≡ Going d → c ≡ d
  went_on None false None pc c d e = cc
  went_on None false (Some end) pc c d e = cc
  went_on None true end pc c d e = cc
  went_on (Some kind) full end pc c d e = cc

  -- an instruction sets the metric, or leaves it
  left_unless_set : (metric : ℕ) (i : Instr) (operands : Operands Value) →
      (i ≡ instr.SetMetric) ⊎ (metric_after large metric i operands ≡ metric)
  left_unless_set metric instr.SetMetric operands = inl refl
  left_unless_set metric _ operands = inr refl

  act_leaves : (c : Config) (i : Instr) (drawn : Drawn Value) (d : Config) → act program large c i drawn ≡ Going d →
      (i ≡ instr.SetMetric) ⊎ (c.metric ≡ d.metric)
  act_leaves c i (Bad why) d e = cc
  act_leaves c i (Good operands rest) d e =
      let on : metric_after large c.metric i operands ≡ d.metric = ap (λ (x : Config). x.metric) (went_on _ _ _ _ _ _ e) in
      elim (left_unless_set c.metric i operands) [ inl sets ↦ inl sets | inr leaves ↦ inr (sym leaves ∙ on) ]

  carried_leaves : (c : Config) (found : Option Instr) (d : Config) → carry_out program large c found ≡ Going d →
      (found ≡ Some instr.SetMetric) ⊎ (c.metric ≡ d.metric)
  carried_leaves c None d e = cc
  carried_leaves c (Some i) d e =
      elim (act_leaves c i (draw kind_of program i c.frame) d e) [ inl sets ↦ inl (ap Some sets) | inr leaves ↦ inr leaves ]

  -- the metric is low if an instruction from the place on reads it
  abbrev IsLowIfRead : Config → Type 0
  IsLowIfRead c = (read : ℕ) → c.pc ≤ read → slice_get program.instrs read ≡ Some instr.Metric → c.metric ≤ smaller

  module _ (first : ReadsFirst program.instrs) (reachable : received ≤ smaller) where
    step_low : (c d : Config) → step program large c ≡ Going d → IsLowIfRead c → IsLowIfRead d
    step_low c d e low read ahead reads =
        let moves : Moves program c d = step_moves program large c d e in
        let on : c.pc < d.pc = moves.on in
        elim (carried_leaves c (slice_get program.instrs c.pc) d e) [
          | inl sets ↦ (let before : read < c.pc = first c.pc read sets reads in absurd (omega arith))
          | inr leaves ↦ (let here : c.metric ≤ smaller = low read (omega arith) reads in omega arith)
        ]

    next_low : (state : State) (d : Config) → next program large state ≡ Going d → ((c : Config) → state ≡ Going c → IsLowIfRead c) →
        IsLowIfRead d
    next_low (Going c) d e low = step_low c d e (low c refl)
    next_low (Ended end) d e low = cc

    run_low : (n : ℕ) (c : Config) → after program large n ≡ Going c → IsLowIfRead c
    unfolding after
    run_low zero c e =
        let same : start program large ≡ c = cc in
        subst IsLowIfRead same (λ read ahead reads. reachable)
    run_low (suc n) c e = next_low (after program large n) c e (λ d at. run_low n d at)

    -- the states of both runs after so many steps
    states_clipped : (n : ℕ) → after program small n ≡ clipped_state smaller (after program large n)
    unfolding after
    states_clipped zero = ap (λ metric. Going (with_metric (start program large) metric)) (sym (min-eq_left reachable))
    states_clipped (suc n) =
        ap (next program small) (states_clipped n)
        ∙ next_clipped (after program large n) (λ c at reads. run_low n c at c.pc (omega arith) reads)

    end_clipped : (state : State) → end_of (clipped_state smaller state) ≡ clipped smaller (end_of state)
    end_clipped (Going c) = refl
    end_clipped (Ended end) = refl

    outcome_clipped : outcome_of program small ≡ clipped smaller (outcome_of program large)
    outcome_clipped =
        ap end_of (states_clipped (length program.instrs + 1)) ∙ end_clipped (after program large (length program.instrs + 1))

-- an outcome whose metric is low enough is clipped to itself
clipped_low : (size : ℕ) (end : Outcome) → ((metric : ℕ) → end ≡ outcome.Accept metric → metric ≤ size) → end ≡ clipped size end
clipped_low size (outcome.Accept metric) low = ap outcome.Accept (sym (min-eq_left (low metric refl)))
clipped_low size outcome.Reject low = refl
clipped_low size (outcome.Fault why at) low = refl

-- in a domain of the route's own size
outcome_within : (program : CodeView) (net : List Bool) (received size : ℕ) → received ≤ size →
    outcome_of program (announced net received size) ≡ clipped size (outcome_of program (announced net received size))
outcome_within program net received size reachable =
    let route = announced net received size in
    let exists : IsOutcome program route (outcome_of program route) = outcome_exists program route in
    clipped_low size (outcome_of program route)
    (λ metric accepts. (accepted_in_range program route exists.steps (outcome_of program route) reachable exists.ends metric accepts).1)

-- the outcome is that in a larger domain, clipped, where the code reads the metric before it sets it
pub outcome_served : (program : CodeView) (net : List Bool) (received larger size : ℕ) → size ≤ larger →
    (size < larger → ReadsFirst program.instrs) → received ≤ size →
    outcome_of program (announced net received size) ≡ clipped size (outcome_of program (announced net received larger))
outcome_served program net received larger size within first reachable =
    elim (eq-or-lt_of_le within) [
      | inl same ↦ subst (λ n. outcome_of program (announced net received size) ≡ clipped size (outcome_of program (announced net received n)))
          same (outcome_within program net received size reachable)
      | inr less ↦ outcome_clipped program net received size larger within (first less) reachable
    ]
