-- One step from a configuration that agrees with the in-state at its place: it is no fault, and the next configuration
-- agrees with what is propagated.
use Rattle.std.proofs.Common.{◌≡◌, ℕ, zero, ◌+◌, ◌≤◌, ◌==◌, ◌||◌, Bool, true, false, Option, Some, None, List, [], ◌∷◌, length}
use Rattle.std.proofs.Common.{map, suc, refl, ap, ◌∙◌, subst, arith}
use Rattle.std.specs.Prelude.{slice_get, slice_set, nat_lt, option_and_then, unwrap_or, if◌then◌else◌}
use Rattle.std.proofs.lemmas.Bool.Decides.{nat_tests}
use Rattle.filter_code.specs.declared.instruction.Instr.{Instr}
use Rattle.filter_code.specs.declared.instruction.Instr.TheVariants as instr
use Rattle.filter_code.specs.declared.outcome.FaultKind.{FaultKind}
use Rattle.filter_code.specs.declared.outcome.Outcome.{Outcome}
use Rattle.filter_code.specs.declared.outcome.Outcome.TheVariants as outcome
use Rattle.filter_code.specs.declared.value.Value.{Value}
use Rattle.filter_code.specs.RouteView.{RouteView}
use Rattle.filter_code.specs.Machine.{Config, State, Going, Ended, value_given, value_fault, locals_after, advance, on_one}
use Rattle.filter_code.specs.Machine.{ending_of, overfills, with_given, moved_on, unless_fault, unless_full, unless_ended, act}
use Rattle.filter_code.specs.Machine.{carry_out, step}
use Rattle.filter_code.specs.CodeView.{CodeView}
use Rattle.filter_code.specs.Table.{Frame, Operands, Zero, One, Two, Drawn, Bad, Good, draw, leads}
use Rattle.filter_code.specs.Values.{bool_of, kind_of}
use Rattle.filter_code.proofs.Metrics.{IsInRange, metric_in_range}
use Rattle.filter_verifier.specs.declared.fact.Fact.{Fact}
use Rattle.filter_verifier.specs.Facts.{all_known, fact_fault, fact_given, kind_of_fact}
use Rattle.filter_verifier.specs.InStateView.{InStateView, Known, UnlikeDepths, Unreached}
use Rattle.filter_verifier.specs.InStates.{leads_of}
use Rattle.filter_verifier.specs.OutStateView.{OutStateView, Passed, Refused, Skipped}
use Rattle.filter_verifier.specs.Transfer.{frame_after, judge, leads_to, out_state, out_state_of_frame, out_state_of_known}
use Rattle.filter_verifier.specs.Safe.{HasLiteral, IsRouteOf}
use Rattle.filter_verifier.proofs.Propagation.{judged}
use Rattle.filter_verifier.proofs.Fits.{IsAs, PlaceIsAs, Pairwise, OperandsAre, DrawnAre, drawn_are, pairwise_length}
use Rattle.filter_verifier.proofs.Given.{given_is, no_value_fault}
use Rattle.filter_verifier.proofs.Parts.{Alike}
use Rattle.filter_verifier.proofs.Joins.{Agrees}
use Rattle.filter_verifier.specs.AbstractFrameView.{AbstractFrameView}
use Rattle.filter_code.specs.Limits.{largest_size, stack_limit}

-- the good ends: accepted at a metric in range, or rejected
abbrev pub EndsWell : RouteView → Outcome → Type 0
EndsWell route (outcome.Accept metric) = IsInRange route metric
EndsWell route outcome.Reject = Unit {0}
EndsWell route (outcome.Fault why at) = ⊥

-- from a configuration to one at a successor, which agrees with what is propagated
pub record Moves (route : RouteView) (at : ℕ) (found : Option Instr) (next : AbstractFrameView) (d : Config) : Type 0 where
  pub led : leads_to at d.pc (leads_of found) ≡ true
  pub agrees : Agrees route d (Known next)

abbrev pub GoesWell : RouteView → ℕ → Option Instr → AbstractFrameView → State → Type 0
GoesWell route at found next (Ended end) = EndsWell route end
GoesWell route at found next (Going d) = Moves route at found next d

-- a step, by what becomes of the index where it is made
abbrev pub StepIs : RouteView → ℕ → Option Instr → State → OutStateView → Type 0
StepIs route at found state Skipped = ⊥
StepIs route at found state (Refused why) = Unit {0}
StepIs route at found state (Passed next) = GoesWell route at found next state

-- an index is one of its own distances on
reaches_itself : (n : ℕ) (more : Bool) → ((n == n) || more) ≡ true
reaches_itself n more = grind (arith, nat_tests)

second_led : (first : Bool) (n : ℕ) → (first || ((n == n) || false)) ≡ true
second_led true n = refl
second_led false n = reaches_itself n false

either_branch : (at k : ℕ) (go_on : Bool) → leads_to at (at + (if go_on then 1 else 1 + k)) (1 ∷ ((1 + k) ∷ [])) ≡ true
either_branch at k true = reaches_itself (at + 1) _
either_branch at k false = second_led (at + 1 == at + (1 + k)) (at + (1 + k))

-- the machine goes on where the text leads
branch_among : (metric at : ℕ) (i : Instr) (operands : Operands Value) → ending_of metric i ≡ None →
    leads_to at (at + advance i operands) (leads i) ≡ true
branch_among metric at (instr.Jump k) operands e = reaches_itself (at + (1 + k)) false
branch_among metric at (instr.JumpIfNot k) operands e = either_branch at k (unwrap_or (on_one bool_of (λ b. b) operands) true)
branch_among metric at instr.Accept operands e = cc
branch_among metric at instr.Reject operands e = cc
branch_among metric at _ operands e = reaches_itself (at + 1) false

-- what is stored in a local variable is as is known of it
set_is : (received : ℕ) (locals : List (Option Value)) (known : List (Option Fact)) (index : ℕ) (v : Value) (f : Fact) →
    Pairwise (PlaceIsAs received) locals known → IsAs received v f →
    Pairwise (PlaceIsAs received) (slice_set locals index (Some v)) (slice_set known index (Some f))
set_is received [] [] index v f p q = tt
set_is received [] (k ∷ known) index v f p q = absurd p
set_is received (o ∷ locals) [] index v f p q = absurd p
set_is received (o ∷ locals) (k ∷ known) zero v f p q = (q, p.1)
set_is received (o ∷ locals) (k ∷ known) (suc index) v f p q = (p.0, set_is received locals known index v f p.1 q)

stored_is : (received : ℕ) (locals : List (Option Value)) (known : List (Option Fact)) (index : ℕ) (operands : Operands Value)
    (facts : Operands Fact) →
    Pairwise (PlaceIsAs received) locals known → OperandsAre received operands facts →
    Pairwise (PlaceIsAs received) (locals_after locals (instr.Store index) operands) (locals_after known (instr.Store index) facts)
stored_is received locals known index Zero Zero p q = p
stored_is received locals known index (One v) (One f) p q = set_is received locals known index v f p q
stored_is received locals known index (Two a b) (Two f g) p q = p
stored_is received locals known index _ _ p q = absurd q

locals_are : (received : ℕ) (locals : List (Option Value)) (known : List (Option Fact)) (i : Instr) (operands : Operands Value)
    (facts : Operands Fact) →
    Pairwise (PlaceIsAs received) locals known → OperandsAre received operands facts →
    Pairwise (PlaceIsAs received) (locals_after locals i operands) (locals_after known i facts)
locals_are received locals known (instr.Store index) operands facts p q = stored_is received locals known index operands facts p q
locals_are received locals known _ operands facts p q = p

-- a known stack as places
as_places : (received : ℕ) (stack : List Value) (facts : List Fact) → Pairwise (IsAs received) stack facts →
    Pairwise (λ v place. PlaceIsAs received (Some v) place) stack (map (λ f. Some f) facts)
as_places received [] [] p = tt
as_places received [] (f ∷ facts) p = absurd p
as_places received (v ∷ stack) [] p = absurd p
as_places received (v ∷ stack) (f ∷ facts) p = (p.0, as_places received stack facts p.1)

-- the stack with what is given
stack_is : (received : ℕ) (given : Option Value) (known : Option Fact) (rest : List Value) (facts : List Fact) →
    Alike (IsAs received) given known → Pairwise (IsAs received) rest facts →
    Pairwise (IsAs received) (with_given given rest) (with_given known facts)
stack_is received None None rest facts p q = q
stack_is received (Some v) (Some f) rest facts p q = (p, q)
stack_is received _ _ rest facts p q = absurd p

-- the stack overfills where what is known of it does
over_same : (received : ℕ) (given : Option Value) (known : Option Fact) (rest : List Value) (facts : List Fact) →
    Alike (IsAs received) given known → Pairwise (IsAs received) rest facts → overfills given rest ≡ overfills known facts
over_same received None None rest facts p q = refl
over_same received (Some v) (Some f) rest facts p q = ap (λ n. nat_lt stack_limit (suc n)) (pairwise_length (IsAs received) rest facts q)
over_same received _ _ rest facts p q = absurd p

-- the last tests let through
let_through : (P : State → Type 0) (fault : Option FaultKind) (full : Bool) (pc : ℕ) (state : State) → fault ≡ None → full ≡ false →
    P state → P (unless_fault fault pc (unless_full full pc state))
let_through P None false pc state none room p = p
let_through P None true pc state none room p = absurd (cc)
let_through P (Some why) full pc state none room p = absurd (cc)

-- the end of a run, or the way on
ended_or_on : (route : RouteView) (at : ℕ) (found : Option Instr) (next : AbstractFrameView) (metric : ℕ) (i : Instr) (d : Config) →
    IsInRange route metric → (ending_of metric i ≡ None → Moves route at found next d) →
    GoesWell route at found next (unless_ended (ending_of metric i) (Going d))
ended_or_on route at found next metric instr.Accept d here p = here
ended_or_on route at found next metric instr.Reject d here p = tt
ended_or_on route at found next metric _ d here p = p refl

-- a step with its premises: a route of the size, and a configuration in range
module _ (program : CodeView) (route : RouteView) (size : ℕ) (of_size : IsRouteOf size route) (small : size ≤ largest_size) where
  performed : (c : Config) (locals : List (Option Fact)) (i : Instr) (operands : Operands Value) (rest : List Value)
      (facts : Operands Fact) (left : List Fact) →
      HasLiteral i → Pairwise (PlaceIsAs route.metric) c.frame.locals locals → IsInRange route c.metric →
      OperandsAre route.metric operands facts → Pairwise (IsAs route.metric) rest left → fact_fault i facts ≡ None →
      overfills (fact_given size i facts) left ≡ false →
      GoesWell route c.pc (Some i) (frame_after size locals i facts left) (act program route c i (Good operands rest))
  performed c locals i operands rest facts left literal in_locals here p q none room =
      let given = given_is program route size c.metric of_size small here i operands facts literal none p in
      let no_fault = no_value_fault route i operands facts none p in
      let limit : route.metric ≤ route.size = omega (arith, of_size.reachable, of_size.size_is) in
      let_through (GoesWell route c.pc (Some i) (frame_after size locals i facts left))
      (value_fault route i operands) (overfills (value_given program route c.metric i operands) rest) c.pc
      (unless_ended (ending_of c.metric i) (Going (moved_on program route c i operands rest)))
      no_fault
      (over_same route.metric (value_given program route c.metric i operands) (fact_given size i facts) rest left given q ∙ room)
      (ended_or_on route c.pc (Some i) (frame_after size locals i facts left) c.metric i
      (moved_on program route c i operands rest) here λ on.
      record {
        led = branch_among c.metric c.pc i operands on;
        agrees = record {
          on_stack =
              as_places route.metric (with_given (value_given program route c.metric i operands) rest)
              (with_given (fact_given size i facts) left)
              (stack_is route.metric (value_given program route c.metric i operands) (fact_given size i facts) rest left given q);
          in_locals = locals_are route.metric c.frame.locals locals i operands facts in_locals p;
          metric = metric_in_range route c.metric i operands no_fault limit here;
        };
      })

  judged_step : (c : Config) (at : ℕ) (locals : List (Option Fact)) (i : Instr) (drawn : Drawn Value) (known : Drawn Fact) →
      HasLiteral i → Pairwise (PlaceIsAs route.metric) c.frame.locals locals → IsInRange route c.metric →
      DrawnAre route.metric drawn known →
      StepIs route c.pc (Some i) (act program route c i drawn) (judge (length program.instrs) size at locals i known)
  judged_step c at locals i drawn (Bad why) literal in_locals here p = tt
  judged_step c at locals i (Bad why) (Good facts left) literal in_locals here p = absurd p
  judged_step c at locals i (Good operands rest) (Good facts left) literal in_locals here p =
      judged (StepIs route c.pc (Some i) (act program route c i (Good operands rest))) (λ why. tt)
      (length program.instrs) size at locals i facts left λ none room within.
      performed c locals i operands rest facts left literal in_locals here p.0 p.1 none room

  known_step : (c : Config) (at : ℕ) (locals : List (Option Fact)) (stack : List Fact) (found : Option Instr) →
      ((i : Instr) → found ≡ Some i → HasLiteral i) → Pairwise (IsAs route.metric) c.frame.stack stack →
      Pairwise (PlaceIsAs route.metric) c.frame.locals locals → IsInRange route c.metric →
      StepIs route c.pc found (carry_out program route c found) (out_state_of_known program size at locals stack found)
  known_step c at locals stack None literal on_stack in_locals here = tt
  known_step c at locals stack (Some i) literal on_stack in_locals here =
      let frame : Frame Fact = record { stack = stack; locals = locals } in
      judged_step c at locals i (draw kind_of program i c.frame) (draw kind_of_fact program i frame)
      (literal i refl) in_locals here
      (drawn_are route.metric program i c.frame frame (record { on_stack = on_stack; in_locals = in_locals }))

  -- the places of a stack, where something is known of each
  abbrev KnownIs : List Value → Option (List Fact) → Type 0
  KnownIs stack None = Unit {0}
  KnownIs stack (Some facts) = Pairwise (IsAs route.metric) stack facts

  one_more_known : (v : Value) (f : Fact) (stack : List Value) (known : Option (List Fact)) → IsAs route.metric v f →
      KnownIs stack known → KnownIs (v ∷ stack) (option_and_then (λ facts. Some (f ∷ facts)) known)
  one_more_known v f stack None p q = tt
  one_more_known v f stack (Some facts) p q = (p, q)

  known_is : (stack : List Value) (places : List (Option Fact)) →
      Pairwise (λ v place. PlaceIsAs route.metric (Some v) place) stack places → KnownIs stack (all_known places)
  known_is [] [] p = tt
  known_is [] (place ∷ places) p = absurd p
  known_is (v ∷ stack) [] p = absurd p
  known_is (v ∷ stack) (None ∷ places) p = tt
  known_is (v ∷ stack) (Some f ∷ places) p = one_more_known v f stack (all_known places) p.0 (known_is stack places p.1)

  places_step : (c : Config) (at : ℕ) (locals : List (Option Fact)) (known : Option (List Fact)) →
      ((i : Instr) → slice_get program.instrs at ≡ Some i → HasLiteral i) → at ≡ c.pc → KnownIs c.frame.stack known →
      Pairwise (PlaceIsAs route.metric) c.frame.locals locals → IsInRange route c.metric →
      StepIs route c.pc (slice_get program.instrs c.pc) (step program route c) (out_state_of_frame program size at locals known)
  places_step c at locals None literal same on_stack in_locals here = tt
  places_step c at locals (Some stack) literal same on_stack in_locals here =
      subst (λ k. StepIs route c.pc (slice_get program.instrs k) (carry_out program route c (slice_get program.instrs k))
      (out_state_of_known program size at locals stack (slice_get program.instrs at))) same
      (known_step c at locals stack (slice_get program.instrs at) literal on_stack in_locals here)

  -- a step from a configuration that agrees with the in-state at its place
  pub stepped : (c : Config) (a : InStateView) → ((i : Instr) → slice_get program.instrs c.pc ≡ Some i → HasLiteral i) → Agrees route c a →
      StepIs route c.pc (slice_get program.instrs c.pc) (step program route c) (out_state program size c.pc a)
  stepped c Unreached literal p = absurd p
  stepped c UnlikeDepths literal p = tt
  stepped c (Known frame) literal p =
      places_step c c.pc frame.locals (all_known frame.stack) literal refl (known_is c.frame.stack frame.stack p.on_stack)
      p.in_locals p.metric
