-- The transfer function: what is known after an instruction, or the test that fails. (This project's own choice.)
use Rattle.std.specs.Prelude.{ℕ, ◌+◌, ◌==◌, nat_lt, Bool, true, false, ◌&&◌, ◌||◌, if◌then◌else◌, Option, Some, None}
use Rattle.std.specs.Prelude.{List, [], ◌∷◌, length, map, slice_get}
use Rattle.filter_code.specs.declared.instruction.Instr.{Instr}
use Rattle.filter_code.specs.declared.outcome.FaultKind.{FaultKind}
use Rattle.filter_code.specs.Machine.{locals_after, overfills, with_given}
use Rattle.filter_code.specs.CodeView.{CodeView}
use Rattle.filter_code.specs.Table.{Frame, Operands, Drawn, Bad, Good, draw, leads}
use Rattle.filter_verifier.specs.declared.fact.Fact.{Fact}
use Rattle.filter_verifier.specs.declared.fault.VerifyFault.TheVariants as refusal
use Rattle.filter_verifier.specs.AbstractFrameView.{AbstractFrameView}
use Rattle.filter_verifier.specs.Facts.{kind_of_fact, fact_given, fact_fault, all_known}
use Rattle.filter_verifier.specs.Faults.{refusal_of}
use Rattle.filter_verifier.specs.InStateView.{InStateView, Unreached, UnlikeDepths, Known}
use Rattle.filter_verifier.specs.OutStateView.{OutStateView, Skipped, Refused, Passed}

-- whether an index is among the successors of another, by their offsets; and whether all successors are below a limit
abbrev pub leads_to : ℕ → ℕ → List ℕ → Bool
leads_to at target [] = false
leads_to at target (d ∷ offsets) = (at + d == target) || leads_to at target offsets

abbrev pub leads_below : ℕ → ℕ → List ℕ → Bool
leads_below at limit [] = true
leads_below at limit (d ∷ offsets) = nat_lt (at + d) limit && leads_below at limit offsets

-- the last tests, in their order: the values of the operands, the room on the stack, and the successors
abbrev pub unless_refused : Option FaultKind → ℕ → OutStateView → OutStateView
unless_refused None at out = out
unless_refused (Some why) at out = Refused (refusal_of why at)

abbrev pub unless_over : Bool → ℕ → OutStateView → OutStateView
unless_over over at out = if over then Refused (refusal.FullStack at) else out

abbrev pub if_inside : Bool → ℕ → OutStateView → OutStateView
if_inside inside at out = if inside then out else Refused (refusal.OutsideCode at)

-- the stack with the fact that is given, and the local variables after the instruction
abbrev pub frame_after : ℕ → List (Option Fact) → Instr → Operands Fact → List Fact → AbstractFrameView
frame_after size locals i operands rest = record {
  stack = map (λ f. Some f) (with_given (fact_given size i operands) rest);
  locals = locals_after locals i operands;
}

-- an instruction at the facts of its operands, in a code of a number of instructions
abbrev pub judge : ℕ → ℕ → ℕ → List (Option Fact) → Instr → Drawn Fact → OutStateView
judge count size at locals i (Bad why) = Refused (refusal_of why at)
judge count size at locals i (Good operands rest) =
    unless_refused (fact_fault i operands) at
    (unless_over (overfills (fact_given size i operands) rest) at
    (if_inside (leads_below at count (leads i)) at
    (Passed (frame_after size locals i operands rest))))

-- the out-state where each place of the stack is known
abbrev pub out_state_of_known : CodeView → ℕ → ℕ → List (Option Fact) → List Fact → Option Instr → OutStateView
out_state_of_known program size at locals stack None = Refused (refusal.OutsideCode at)
out_state_of_known program size at locals stack (Some i) =
    let frame : Frame Fact = record { stack = stack; locals = locals } in
    judge (length program.instrs) size at locals i (draw kind_of_fact program i frame)

-- the out-state of an instruction that a path leads to; a stack with an unknown place is refused
abbrev pub out_state_of_frame : CodeView → ℕ → ℕ → List (Option Fact) → Option (List Fact) → OutStateView
out_state_of_frame program size at locals None = Refused (refusal.WrongKind at)
out_state_of_frame program size at locals (Some stack) =
    out_state_of_known program size at locals stack (slice_get program.instrs at)

-- the out-state of an instruction, from its in-state: the tests of the join come first, depths before kinds
abbrev pub out_state : CodeView → ℕ → ℕ → InStateView → OutStateView
out_state program size at Unreached = Skipped
out_state program size at UnlikeDepths = Refused (refusal.UnlikeDepths at)
out_state program size at (Known frame) = out_state_of_frame program size at frame.locals (all_known frame.stack)
