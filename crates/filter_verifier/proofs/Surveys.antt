-- A survey keeps what the sweep knows before each instruction that it visits.
use Rattle.std.proofs.Common.{◌≡◌, ℕ, zero, suc, ◌+◌, ◌<◌, Bool, true, false, Option, Some, None, List, [], ◌∷◌}
use Rattle.std.proofs.Common.{◌++◌, length, refl, sym, ◌∙◌, ap, subst, arith, below_more}
use Rattle.std.specs.Prelude.{slice_get}
use Rattle.filter_code.specs.declared.instruction.Instr.{Instr}
use Rattle.filter_code.specs.declared.outcome.FaultKind.{FaultKind}
use Rattle.filter_code.specs.declared.outcome.FaultKind.TheVariants as fault
use Rattle.filter_code.specs.CodeView.{CodeView}
use Rattle.filter_code.specs.Machine.{overfills}
use Rattle.filter_code.specs.Table.{Drawn, Bad, Good, draw, leads}
use Rattle.filter_verifier.specs.declared.fact.Fact.{Fact}
use Rattle.filter_verifier.specs.declared.fault.VerifyFault.{VerifyFault}
use Rattle.filter_verifier.specs.declared.in_state.InState.{InState}
use Rattle.filter_verifier.specs.AbstractFrameView.{AbstractFrameView}
use Rattle.filter_verifier.specs.Facts.{all_known, fact_fault, fact_given, kind_of_fact}
use Rattle.filter_verifier.specs.Faults.{fault_place, refusal_of}
use Rattle.filter_verifier.specs.FirstFault.{first_fault, refused_by}
use Rattle.filter_verifier.specs.InStates.{in_state}
use Rattle.filter_verifier.specs.InStateView.{InStateView, Known, UnlikeDepths, Unreached}
use Rattle.filter_verifier.specs.OutStateView.{OutStateView, Passed, Refused, Skipped}
use Rattle.filter_verifier.specs.Sweep.{frame_of, in_state_view, state_at}
use Rattle.filter_verifier.specs.Surveys.{reach}
use Rattle.filter_verifier.specs.Transfer.{frame_after, if_inside, judge, leads_below, out_state, out_state_of_frame}
use Rattle.filter_verifier.specs.Transfer.{out_state_of_known, unless_over, unless_refused}
use Rattle.filter_verifier.proofs.Sweeps.{Before, refused}

-- before the visit of an index: what waits, and what was kept
pub record Kept (program : CodeView) (size n : ℕ) (waiting in_states : List InState) (depth : ℕ) : Type 0 where
  pub before : Before program size n waiting depth
  pub counted : length in_states ≡ n
  pub kept : (k : ℕ) → k < n → state_at in_states k ≡ in_state program size k

pub begun : (program : CodeView) (size : ℕ) (waiting in_states : List InState) → Before program size 0 waiting 0 → in_states ≡ [] →
    Kept program size 0 waiting in_states 0
begun program size waiting in_states before empty = record {
  before = before;
  counted = ap (λ (s : List InState). length s) empty;
  kept = λ k h. absurd (omega arith);
}

-- one state more behind others
state_here : (in_states : List InState) (w : InState) → state_at (in_states ++ w ∷ []) (length in_states) ≡ in_state_view w
state_here [] w = refl
state_here (v ∷ in_states) w = state_here in_states w

state_before : (in_states : List InState) (w : InState) (k : ℕ) → k < length in_states → state_at (in_states ++ w ∷ []) k ≡ state_at in_states k
state_before [] w k h = absurd (omega arith)
state_before (v ∷ in_states) w zero h = refl
state_before (v ∷ in_states) w (suc k) h = state_before in_states w k (omega arith)

pub count_more : (in_states : List InState) (w : InState) → length (in_states ++ w ∷ []) ≡ length in_states + 1
count_more [] w = refl
count_more (v ∷ in_states) w = omega (arith, count_more in_states w)

-- the states that are kept with one more
pub kept_more : (program : CodeView) (size n : ℕ) (waiting in_states : List InState) (depth : ℕ) (w : InState) →
    Kept program size n waiting in_states depth → in_state_view w ≡ state_at waiting n →
    (k : ℕ) → k < n + 1 → state_at (in_states ++ w ∷ []) k ≡ in_state program size k
kept_more program size n waiting in_states depth w so_far is =
    below_more (λ k. state_at (in_states ++ w ∷ []) k ≡ in_state program size k) n
    (λ k h. let inside : k < length in_states = omega (arith, so_far.counted) in
    state_before in_states w k inside ∙ so_far.kept k h)
    (subst (λ (m : ℕ). state_at (in_states ++ w ∷ []) m ≡ in_state program size n) so_far.counted
    (state_here in_states w ∙ (is ∙ so_far.before.waits n (omega arith))))

-- an index that is not refused
pub advanced : (program : CodeView) (size n : ℕ) (waiting next in_states : List InState) (depth deeper : ℕ) (w : InState) →
    Kept program size n waiting in_states depth → in_state_view w ≡ state_at waiting n → Before program size (n + 1) next deeper →
    Kept program size (n + 1) next (in_states ++ w ∷ []) deeper
advanced program size n waiting next in_states depth deeper w so_far is before = record {
  before = before;
  counted = count_more in_states w ∙ ap (λ (m : ℕ). m + 1) so_far.counted;
  kept = kept_more program size n waiting in_states depth w so_far is;
}

-- a refusal stands at the index that it names
abbrev IsAt : ℕ → Option VerifyFault → Type 0
IsAt at None = Unit {0}
IsAt at (Some why) = fault_place why ≡ at

abbrev VisitIsAt : ℕ → OutStateView → Type 0
VisitIsAt at (Refused why) = fault_place why ≡ at
VisitIsAt at _ = Unit {0}

refusal_is_at : (why : FaultKind) (at : ℕ) → fault_place (refusal_of why at) ≡ at
refusal_is_at fault.MissingOperand at = refl
refusal_is_at fault.WrongKind at = refl
refusal_is_at fault.ZeroDivisor at = refl
refusal_is_at fault.OutsideCode at = refl
refusal_is_at fault.FullStack at = refl
refusal_is_at fault.LowerMetric at = refl
refusal_is_at fault.UnknownName at = refl

refused_is_at : (why : Option FaultKind) (at : ℕ) (v : OutStateView) → VisitIsAt at v → VisitIsAt at (unless_refused why at v)
refused_is_at None at v h = h
refused_is_at (Some why) at v h = refusal_is_at why at

over_is_at : (over : Bool) (at : ℕ) (v : OutStateView) → VisitIsAt at v → VisitIsAt at (unless_over over at v)
over_is_at true at v h = refl
over_is_at false at v h = h

inside_is_at : (inside : Bool) (at : ℕ) (next : AbstractFrameView) → VisitIsAt at (if_inside inside at (Passed next))
inside_is_at true at next = tt
inside_is_at false at next = refl

judged_is_at : (count size at : ℕ) (locals : List (Option Fact)) (i : Instr) (drawn : Drawn Fact) →
    VisitIsAt at (judge count size at locals i drawn)
judged_is_at count size at locals i (Bad why) = refusal_is_at why at
judged_is_at count size at locals i (Good operands rest) =
    refused_is_at (fact_fault i operands) at _ (over_is_at (overfills (fact_given size i operands) rest) at _
    (inside_is_at (leads_below at count (leads i)) at (frame_after size locals i operands rest)))

known_is_at : (program : CodeView) (size at : ℕ) (locals : List (Option Fact)) (stack : List Fact)
    (found : Option Instr) → VisitIsAt at (out_state_of_known program size at locals stack found)
known_is_at program size at locals stack None = refl
known_is_at program size at locals stack (Some i) = judged_is_at (length program.instrs) size at locals i
    (draw kind_of_fact program i (frame_of stack locals))

places_are_at : (program : CodeView) (size at : ℕ) (locals : List (Option Fact)) (known : Option (List Fact)) →
    VisitIsAt at (out_state_of_frame program size at locals known)
places_are_at program size at locals None = refl
places_are_at program size at locals (Some stack) = known_is_at program size at locals stack (slice_get program.instrs at)

visit_is_at : (program : CodeView) (size at : ℕ) (a : InStateView) → VisitIsAt at (out_state program size at a)
visit_is_at program size at Unreached = tt
visit_is_at program size at UnlikeDepths = refl
visit_is_at program size at (Known frame) = places_are_at program size at frame.locals (all_known frame.stack)

found_is_at : (at : ℕ) (v : OutStateView) → VisitIsAt at v → IsAt at (refused_by v)
found_is_at at Skipped h = tt
found_is_at at (Refused why) h = h
found_is_at at (Passed next) h = tt

pub is_at : (program : CodeView) (size at : ℕ) (a : InStateView) (why : VerifyFault) → refused_by (out_state program size at a) ≡ Some why →
    fault_place why ≡ at
is_at program size at a why found = subst (IsAt at) found (found_is_at at (out_state program size at a) (visit_is_at program size at a))

-- the survey ends at an index that is refused
pub reached : (program : CodeView) (size n : ℕ) (waiting in_states : List InState) (depth : ℕ) (w : InState) (why : VerifyFault) →
    Kept program size n waiting in_states depth →
    refused_by (out_state program size n (state_at waiting n)) ≡ Some why →
    n < length program.instrs →
    length (in_states ++ w ∷ []) ≡ reach program (first_fault program size (length program.instrs))
reached program size n waiting in_states depth w why so_far found inside =
    let placed : fault_place why ≡ n = is_at program size n (state_at waiting n) why found in
    let counted : length (in_states ++ w ∷ []) ≡ reach program (Some why) = omega (arith, placed, count_more in_states w, so_far.counted) in
    counted ∙ ap (reach program) (sym (refused program size n waiting depth why so_far.before found inside))

-- the states that are kept at the end
pub kept_all : (program : CodeView) (size n : ℕ) (waiting in_states : List InState) (depth : ℕ) (w : InState) →
    Kept program size n waiting in_states depth → in_state_view w ≡ state_at waiting n →
    (k : ℕ) → k < length (in_states ++ w ∷ []) → state_at (in_states ++ w ∷ []) k ≡ in_state program size k
kept_all program size n waiting in_states depth w so_far is k h =
    kept_more program size n waiting in_states depth w so_far is k (omega (arith, h, count_more in_states w, so_far.counted))

-- what is known before the index that is refused
pub known_there : (program : CodeView) (size n : ℕ) (in_states : List InState) (depth : ℕ) (why : VerifyFault) (w : InState) →
    Before program size n in_states depth →
    refused_by (out_state program size n (state_at in_states n)) ≡ Some why →
    in_state_view w ≡ state_at in_states n →
    in_state_view w ≡ in_state program size (fault_place why)
known_there program size n in_states depth why w before found is =
    subst (λ (m : ℕ). in_state_view w ≡ in_state program size m) (sym (is_at program size n (state_at in_states n) why found))
    (is ∙ before.waits n (omega arith))
