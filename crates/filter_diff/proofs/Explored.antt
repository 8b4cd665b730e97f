-- Places from which on all that any run comes to is marked.
use Rattle.std.proofs.Common.{◌≡◌, ◌⊎◌, inl, inr, ℕ, zero, suc, ◌+◌, ◌<◌, ◌≤◌, Bool, true, false, Option}
use Rattle.std.proofs.Common.{Some, None, List, replicate, slice_set, refl, sym, ◌∙◌, ap, subst, arith}
use Rattle.std.specs.Prelude.{if◌then◌else◌, nat_lt, slice_get}
use Rattle.std.proofs.lemmas.Bool.Decides.{nat_tests}
use Rattle.filter_code.specs.declared.instruction.Instr.{Instr}
use Rattle.filter_code.specs.declared.instruction.Instr.TheVariants as instr
use Rattle.filter_code.specs.declared.outcome.FaultKind.{FaultKind}
use Rattle.filter_code.specs.declared.outcome.Outcome.{Outcome}
use Rattle.filter_code.specs.declared.value.Value.{Value}
use Rattle.filter_code.specs.CodeView.{CodeView}
use Rattle.filter_code.specs.RouteView.{RouteView}
use Rattle.filter_code.specs.Machine.{Config, Going, act, advance, after, carry_out, ending_of, next, step, unless_ended, unless_fault, unless_full}
use Rattle.filter_code.specs.Table.{Bad, Drawn, Good, Operands, draw}
use Rattle.filter_code.specs.Values.{kind_of}
use Rattle.filter_code.proofs.Runs.{after-suc, reached}
use Rattle.filter_diff.specs.Marking.{Extend, IsFull, IsMarked}
use Rattle.filter_diff.specs.Reaching.{has_truth}
use Rattle.filter_diff.specs.Exploring.{AreExplored, IsExplored, Leads}
use Rattle.filter_diff.specs.declared.mark.Mark.{Mark}
use Rattle.filter_diff.proofs.Marking.{marked_more, set_from, unlike}

-- what is settled stays so
pub explored_more : (program : CodeView) (before marks : List Mark) (place : ℕ) → Extend before marks → IsExplored program before place →
    IsExplored program marks place
explored_more program before marks place more explored route from c at here steps d h going =
    marked_more program before marks d more (explored route from c at here steps d h going)

pub are_explored_more : (program : CodeView) (before marks : List Mark) (explored : List Bool) → Extend before marks →
    AreExplored program before explored → AreExplored program marks explored
are_explored_more program before marks explored more are place here = explored_more program before marks place more (are place here)

-- where an instruction takes a run
pub record GoesOn (end : Option Outcome) (c d : Config) : Type 0 where
  pub same : c ≡ d
  pub on : end ≡ None

tests_pass : (fault : Option FaultKind) (full : Bool) (end : Option Outcome) (pc : ℕ) (c d : Config) →
    unless_fault fault pc (unless_full full pc (unless_ended end (Going c))) ≡ Going d → GoesOn end c d
tests_pass None false None pc c d e = let same : c ≡ d = cc in record { same = same; on = refl }
tests_pass None false (Some end) pc c d e = let no : ⊥ = cc in absurd no
tests_pass None true end pc c d e = let no : ⊥ = cc in absurd no
tests_pass (Some kind) full end pc c d e = let no : ⊥ = cc in absurd no

one_or_further : (go_on : Bool) (pc place skipped : ℕ) → pc + (if go_on then 1 else 1 + skipped) ≡ place →
    (place ≡ pc + 1) ⊎ (place ≡ pc + (1 + skipped))
one_or_further true pc place skipped e = inl (sym e)
one_or_further false pc place skipped e = inr (sym e)

leads_by : (i : Instr) (operands : Operands Value) (metric pc place : ℕ) → ending_of metric i ≡ None → pc + advance i operands ≡ place →
    Leads i pc place
leads_by instr.Accept operands metric pc place on e = let no : ⊥ = cc in no
leads_by instr.Reject operands metric pc place on e = let no : ⊥ = cc in no
leads_by (instr.Jump skipped) operands metric pc place on e = sym e
leads_by (instr.JumpIfNot skipped) operands metric pc place on e = one_or_further _ pc place skipped e
leads_by _ operands metric pc place on e = sym e

act_leads : (program : CodeView) (route : RouteView) (c : Config) (i : Instr) (drawn : Drawn Value) (d : Config) →
    act program route c i drawn ≡ Going d → Leads i c.pc d.pc
act_leads program route c i (Bad why) d e = let no : ⊥ = cc in absurd no
act_leads program route c i (Good operands rest) d e =
    let goes = tests_pass _ _ _ _ _ _ e in
    leads_by i operands c.metric c.pc d.pc goes.on (ap (λ (x : Config). x.pc) goes.same)

step_leads : (program : CodeView) (route : RouteView) (c d : Config) (i : Instr) → slice_get program.instrs c.pc ≡ Some i →
    step program route c ≡ Going d → Leads i c.pc d.pc
step_leads program route c d i here e =
    act_leads program route c i (draw kind_of program i c.frame) d (ap (carry_out program route c) (sym here) ∙ e)

-- a run that goes on for some steps goes on for one
next_by : (program : CodeView) (route : RouteView) (n k : ℕ) (d : Config) → after program route k ≡ Going d → n < k → (more : Bool) →
    nat_lt (n + 1) k ≡ more → (b : Config) × (after program route (n + 1) ≡ Going b)
next_by program route n k d going h true e = (reached program route k d going).earlier (n + 1) (grind (arith, nat_tests))
next_by program route n k d going h false e =
    let same : k ≡ n + 1 = grind (arith, nat_tests) in
    (d, subst (λ (m : ℕ). after program route m ≡ Going d) same going)

stepped : (program : CodeView) (route : RouteView) (n : ℕ) (c b : Config) → after program route n ≡ Going c →
    after program route (n + 1) ≡ Going b → step program route c ≡ Going b
stepped program route n c b at e = sym (ap (next program route) at) ∙ (sym (after-suc program route n) ∙ e)

-- all is marked from a place on whose mark is full, if it is from each place that may be next
module _ (program : CodeView) (marks : List Mark) (place : ℕ) (i : Instr) (mark : Mark) (here : slice_get program.instrs place ≡ Some i)
    (there : slice_get marks place ≡ Some mark) (full : IsFull i mark) where
  marked_full : (c : Config) → c.pc ≡ place → IsMarked program marks c
  marked_full c at = record {
    mark = mark;
    there = subst (λ (p : ℕ). slice_get marks p ≡ Some mark) (sym at) there;
    reached = full.reached;
    condition = λ is truth e.
        let jump : i ≡ instr.JumpIfNot is.skipped = cc in
        unlike (has_truth truth mark) (has_truth truth mark) refl (full.condition is.skipped jump truth) e;
    raised = λ is watched e.
        let max : i ≡ instr.Max = cc in
        unlike mark.is_raised mark.is_raised refl (full.raised max watched) e;
  }

  explored_by : (explored : List Bool) → AreExplored program marks explored →
      ((after_it : ℕ) → Leads i place after_it → slice_get explored after_it ≡ Some true) → (route : RouteView) (from : ℕ) (c : Config) →
      after program route from ≡ Going c → c.pc ≡ place → (steps : ℕ) (d : Config) → from ≤ steps → after program route steps ≡ Going d →
      (further : Bool) → nat_lt from steps ≡ further → IsMarked program marks d
  explored_by explored are leads route from c going at steps d h then_going true e =
      let b = next_by program route from steps d then_going (grind (arith, nat_tests)) (nat_lt (from + 1) steps) refl in
      let instruction : slice_get program.instrs c.pc ≡ Some i = subst (λ (p : ℕ). slice_get program.instrs p ≡ Some i) (sym at) here in
      let led : Leads i c.pc b.0.pc = step_leads program route c b.0 i instruction (stepped program route from c b.0 going b.1) in
      are b.0.pc (leads b.0.pc (subst (λ (p : ℕ). Leads i p b.0.pc) at led)) route (from + 1) b.0 b.1 refl steps d
      (grind (arith, nat_tests)) then_going
  explored_by explored are leads route from c going at steps d h then_going false e =
      let same : steps ≡ from = grind (arith, nat_tests) in
      let is : after program route from ≡ Going d = subst (λ (m : ℕ). after program route m ≡ Going d) same then_going in
      let one : c ≡ d = cc in
      subst (IsMarked program marks) one (marked_full c at)

  pub explored_here : (explored : List Bool) → AreExplored program marks explored →
      ((after_it : ℕ) → Leads i place after_it → slice_get explored after_it ≡ Some true) → IsExplored program marks place
  explored_here explored are leads route from c going at steps d h then_going =
      explored_by explored are leads route from c going at steps d h then_going (nat_lt from steps) refl

-- a place more
explored_either : (program : CodeView) (marks : List Mark) (explored : List Bool) (at place : ℕ) → AreExplored program marks explored →
    IsExplored program marks at → ((place ≡ at) × (true ≡ true)) ⊎ (slice_get explored place ≡ Some true) → IsExplored program marks place
explored_either program marks explored at place are here (inl e) = subst (IsExplored program marks) (sym e.0) here
explored_either program marks explored at place are here (inr there) = are place there

pub explored_set : (program : CodeView) (marks : List Mark) (explored : List Bool) (at : ℕ) → AreExplored program marks explored →
    IsExplored program marks at → AreExplored program marks (slice_set explored at true)
explored_set program marks explored at are here place there =
    explored_either program marks explored at place are here (set_from explored at true place true there)

-- after other instructions the next one follows
pub leads_on : (i : Instr) (place next : ℕ) → ((skipped : ℕ) → i ≡ instr.Jump skipped → ⊥) →
    ((skipped : ℕ) → i ≡ instr.JumpIfNot skipped → ⊥) → Leads i place next → next ≡ place + 1
leads_on instr.Accept place next no_jump no_condition leads = absurd leads
leads_on instr.Reject place next no_jump no_condition leads = absurd leads
leads_on (instr.Jump skipped) place next no_jump no_condition leads = absurd (no_jump skipped refl)
leads_on (instr.JumpIfNot skipped) place next no_jump no_condition leads = absurd (no_condition skipped refl)
leads_on _ place next no_jump no_condition leads = leads

-- no place is found at first
none_true : (n place : ℕ) → slice_get (replicate n false) place ≡ Some true → ⊥
none_true zero place e = let no : ⊥ = cc in no
none_true (suc n) zero e = let no : ⊥ = cc in no
none_true (suc n) (suc place) e = none_true n place e

pub none_explored : (program : CodeView) (marks : List Mark) (n : ℕ) → AreExplored program marks (replicate n false)
none_explored program marks n place there = let no : ⊥ = none_true n place there in absurd no
