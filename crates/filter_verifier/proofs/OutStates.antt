-- What passes is propagated to instructions of the code alone.
use Rattle.std.proofs.Common.{◌≡◌, ℕ, Bool, true, false, Option, Some, None, List, ◌++◌, length, map, take, refl, ap, sym, subst, ◌∙◌}
use Rattle.std.proofs.Math.Seq.{take-append_seam}
use Rattle.std.specs.Prelude.{slice_get}
use Rattle.filter_code.specs.declared.instruction.Instr.{Instr}
use Rattle.filter_code.specs.declared.outcome.FaultKind.{FaultKind}
use Rattle.filter_code.specs.CodeView.{CodeView}
use Rattle.filter_code.specs.Table.{Drawn, Bad, Good, draw, leads}
use Rattle.filter_verifier.specs.declared.fact.Fact.{Fact}
use Rattle.filter_verifier.specs.AbstractFrameView.{AbstractFrameView}
use Rattle.filter_verifier.specs.Facts.{all_known, kind_of_fact}
use Rattle.filter_verifier.specs.InStateView.{InStateView, Known, UnlikeDepths, Unreached}
use Rattle.filter_verifier.specs.OutStateView.{OutStateView, Passed}
use Rattle.filter_verifier.specs.Sweep.{frame_of, transferred}
use Rattle.filter_verifier.specs.Transfer.{if_inside, judge, leads_below, out_state, out_state_of_frame, out_state_of_known}
use Rattle.filter_verifier.specs.Transfer.{unless_over, unless_refused}

refused_passed : (o : Option FaultKind) (at : ℕ) (v : OutStateView) (next : AbstractFrameView) → unless_refused o at v ≡ Passed next → v ≡ Passed next
refused_passed None at v next e = e
refused_passed (Some why) at v next e = cc

over_passed : (over : Bool) (at : ℕ) (v : OutStateView) (next : AbstractFrameView) → unless_over over at v ≡ Passed next → v ≡ Passed next
over_passed false at v next e = e
over_passed true at v next e = cc

inside_passed : (inside : Bool) (at : ℕ) (v : OutStateView) (next : AbstractFrameView) → if_inside inside at v ≡ Passed next → inside ≡ true
inside_passed true at v next e = refl
inside_passed false at v next e = cc

judged_inside : (count size at : ℕ) (locals : List (Option Fact)) (i : Instr) (drawn : Drawn Fact)
    (next : AbstractFrameView) → judge count size at locals i drawn ≡ Passed next → leads_below at count (leads i) ≡ true
judged_inside count size at locals i (Bad why) next e = cc
judged_inside count size at locals i (Good operands rest) next e = inside_passed _ at _ next
    (over_passed _ at _ next (refused_passed _ at _ next e))

known_inside : (program : CodeView) (size at : ℕ) (locals : List (Option Fact)) (stack : List Fact)
    (found : Option Instr) (i : Instr) (next : AbstractFrameView) → found ≡ Some i →
    out_state_of_known program size at locals stack found ≡ Passed next → leads_below at (length program.instrs) (leads i) ≡ true
known_inside program size at locals stack None i next is e = cc
known_inside program size at locals stack (Some j) i next is e =
    let same : j ≡ i = cc in
    judged_inside (length program.instrs) size at locals i (draw kind_of_fact program i (frame_of stack locals)) next
    (sym (ap (λ (x : Instr). judge (length program.instrs) size at locals x
    (draw kind_of_fact program x (frame_of stack locals))) same) ∙ e)

placed_inside : (program : CodeView) (size at : ℕ) (locals : List (Option Fact)) (known : Option (List Fact))
    (i : Instr) (next : AbstractFrameView) → slice_get program.instrs at ≡ Some i →
    out_state_of_frame program size at locals known ≡ Passed next → leads_below at (length program.instrs) (leads i) ≡ true
placed_inside program size at locals None i next is e = cc
placed_inside program size at locals (Some stack) i next is e = known_inside program size at locals stack
    (slice_get program.instrs at) i next is e

pub passed_inside : (program : CodeView) (size at : ℕ) (a : InStateView) (i : Instr) (next : AbstractFrameView) →
    slice_get program.instrs at ≡ Some i → out_state program size at a ≡ Passed next →
    leads_below at (length program.instrs) (leads i) ≡ true
passed_inside program size at Unreached i next is e = cc
passed_inside program size at UnlikeDepths i next is e = cc
passed_inside program size at (Known frame) i next is e =
    placed_inside program size at frame.locals (all_known frame.stack) i next is e

-- an instruction that has passed the tests of its operands and of the stack, and goes on inside the code
passes_from : (program : CodeView) (size at : ℕ) (locals after : List (Option Fact)) (stack above : List Fact) (i : Instr) (places : AbstractFrameView) →
    slice_get program.instrs at ≡ Some i →
    leads_below at (length program.instrs) (leads i) ≡ true →
    judge (length program.instrs) size at locals i
    (draw kind_of_fact program i (frame_of stack locals))
    ≡ transferred (length program.instrs) at i above after →
    places ≡ record { stack = map (λ f. Some f) above; locals = after } →
    Passed places ≡ out_state_of_known program size at locals stack (slice_get program.instrs at)
passes_from program size at locals after stack above i places is inside judged laid =
    ap (λ (l : AbstractFrameView). Passed l) laid
    ∙ sym (ap (out_state_of_known program size at locals stack) is
    ∙ (judged ∙ ap (λ (b : Bool). if_inside b at (Passed (record { stack = map (λ f. Some f) above; locals = after }))) inside))

-- the same with what is held: a copy of the local variables, and after the instruction the variables as a part of a list
pub passes_known : (program : CodeView) (size at width : ℕ) (locals held after more : List (Option Fact))
    (stack above : List Fact) (i : Instr) (places : AbstractFrameView) →
    held ≡ locals → width ≡ length after →
    slice_get program.instrs at ≡ Some i →
    leads_below at (length program.instrs) (leads i) ≡ true →
    judge (length program.instrs) size at held i (draw kind_of_fact program i (frame_of stack held))
    ≡ transferred (length program.instrs) at i above after →
    places ≡ record { stack = map (λ f. Some f) above; locals = take width (after ++ more) } →
    Passed places ≡ out_state_of_known program size at locals stack (slice_get program.instrs at)
passes_known program size at width locals held after more stack above i places same wide is inside judged laid =
    let P : List (Option Fact) → Type 0 = λ l. judge (length program.instrs) size at l i
    (draw kind_of_fact program i (frame_of stack l)) ≡ transferred (length program.instrs) at i above after in
    let front : take width (after ++ more) ≡ after = rw wide (take-append_seam after more) in
    let L : List (Option Fact) → AbstractFrameView = λ l. record { stack = map (λ f. Some f) above; locals = l } in
    passes_from program size at locals after stack above i places is inside (subst P same judged) (laid ∙ ap L front)
