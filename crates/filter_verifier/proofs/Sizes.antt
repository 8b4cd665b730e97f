-- Only the size is refused as a size.
use Rattle.std.proofs.Common.{refl, ◌≡◌, ℕ, zero, suc, ◌≤◌, ◌<◌, Bool, true, false, Option, Some, None, List, subst, arith}
use Rattle.std.proofs.lemmas.Bool.{and_parts}
use Rattle.std.proofs.lemmas.Bool.Decides.{nat_tests}
use Rattle.filter_code.specs.declared.instruction.Instr.{Instr}
use Rattle.filter_code.specs.Limits.{smallest_size, largest_size}
use Rattle.filter_code.specs.declared.outcome.FaultKind.{FaultKind}
use Rattle.filter_code.specs.declared.outcome.FaultKind.TheVariants as fault
use Rattle.filter_code.specs.CodeView.{CodeView}
use Rattle.filter_code.specs.Table.{Drawn, Bad, Good, draw, leads}
use Rattle.std.specs.Prelude.{◌==◌, nat_le, length, slice_get, if◌then◌else◌}
use Rattle.filter_code.specs.Machine.{overfills}
use Rattle.filter_verifier.specs.declared.fact.Fact.{Fact}
use Rattle.filter_verifier.specs.declared.fault.VerifyFault.{VerifyFault}
use Rattle.filter_verifier.specs.declared.fault.VerifyFault.TheVariants as refusal
use Rattle.filter_verifier.specs.Facts.{all_known, fact_fault, fact_given, kind_of_fact}
use Rattle.filter_verifier.specs.FirstFault.{first_fault, is_size, or_else, refused_by, the_fault}
use Rattle.filter_verifier.specs.InStateView.{InStateView, Known, UnlikeDepths, Unreached}
use Rattle.filter_verifier.specs.InStates.{in_state, out_state_at}
use Rattle.filter_verifier.specs.OutStateView.{OutStateView, Passed, Refused, Skipped}
use Rattle.filter_verifier.specs.Sweep.{frame_of}
use Rattle.filter_verifier.specs.Transfer.{frame_after, if_inside, judge, leads_below, out_state, out_state_of_frame}
use Rattle.filter_verifier.specs.Transfer.{out_state_of_known, unless_over, unless_refused}
use Rattle.filter_verifier.specs.Faults.{refusal_of}
use Rattle.filter_verifier.specs.AbstractFrameView.{AbstractFrameView}

-- not refused as a size
abbrev AtPlace : VerifyFault → Type 0
AtPlace refusal.BadSize = ⊥
AtPlace _ = Unit {0}

abbrev VisitAtPlace : OutStateView → Type 0
VisitAtPlace (Refused why) = AtPlace why
VisitAtPlace _ = Unit {0}

refusal_at_place : (why : FaultKind) (at : ℕ) → AtPlace (refusal_of why at)
refusal_at_place fault.MissingOperand at = tt
refusal_at_place fault.WrongKind at = tt
refusal_at_place fault.ZeroDivisor at = tt
refusal_at_place fault.OutsideCode at = tt
refusal_at_place fault.FullStack at = tt
refusal_at_place fault.LowerMetric at = tt
refusal_at_place fault.UnknownName at = tt

refused_at_place : (why : Option FaultKind) (at : ℕ) (v : OutStateView) → VisitAtPlace v → VisitAtPlace (unless_refused why at v)
refused_at_place None at v h = h
refused_at_place (Some why) at v h = refusal_at_place why at

over_at_place : (over : Bool) (at : ℕ) (v : OutStateView) → VisitAtPlace v → VisitAtPlace (unless_over over at v)
over_at_place true at v h = tt
over_at_place false at v h = h

inside_at_place : (inside : Bool) (at : ℕ) (next : AbstractFrameView) → VisitAtPlace (if_inside inside at (Passed next))
inside_at_place true at next = tt
inside_at_place false at next = tt

judged_at_place : (count size at : ℕ) (locals : List (Option Fact)) (i : Instr) (drawn : Drawn Fact) →
    VisitAtPlace (judge count size at locals i drawn)
judged_at_place count size at locals i (Bad why) = refusal_at_place why at
judged_at_place count size at locals i (Good operands rest) =
    refused_at_place (fact_fault i operands) at _ (over_at_place (overfills (fact_given size i operands) rest) at _
    (inside_at_place (leads_below at count (leads i)) at (frame_after size locals i operands rest)))

known_at_place : (program : CodeView) (size at : ℕ) (locals : List (Option Fact)) (stack : List Fact)
    (found : Option Instr) → VisitAtPlace (out_state_of_known program size at locals stack found)
known_at_place program size at locals stack None = tt
known_at_place program size at locals stack (Some i) = judged_at_place (length program.instrs) size at locals i
    (draw kind_of_fact program i (frame_of stack locals))

places_at_place : (program : CodeView) (size at : ℕ) (locals : List (Option Fact)) (known : Option (List Fact)) →
    VisitAtPlace (out_state_of_frame program size at locals known)
places_at_place program size at locals None = tt
places_at_place program size at locals (Some stack) = known_at_place program size at locals stack (slice_get program.instrs at)

visit_at_place : (program : CodeView) (size at : ℕ) (a : InStateView) → VisitAtPlace (out_state program size at a)
visit_at_place program size at Unreached = tt
visit_at_place program size at UnlikeDepths = tt
visit_at_place program size at (Known frame) = places_at_place program size at frame.locals (all_known frame.stack)

abbrev FoundAtPlace : Option VerifyFault → Type 0
FoundAtPlace None = Unit {0}
FoundAtPlace (Some why) = AtPlace why

found_at_place : (v : OutStateView) → VisitAtPlace v → FoundAtPlace (refused_by v)
found_at_place Skipped h = tt
found_at_place (Refused why) h = h
found_at_place (Passed next) h = tt

either_at_place : (o p : Option VerifyFault) → FoundAtPlace o → FoundAtPlace p → FoundAtPlace (or_else o p)
either_at_place None p h g = g
either_at_place (Some why) p h g = h

first_at_place : (program : CodeView) (size n : ℕ) → FoundAtPlace (first_fault program size n)
unfolding first_fault
first_at_place program size zero = tt
first_at_place program size (suc n) = either_at_place (first_fault program size n)
    (refused_by (out_state_at program size n)) (first_at_place program size n)
    (found_at_place (out_state_at program size n) (visit_at_place program size n (in_state program size n)))

-- what is first unknown at an index is not the size
pub not_the_size : (program : CodeView) (size n : ℕ) → first_fault program size n ≡ Some refusal.BadSize → ⊥
not_the_size program size n e = subst FoundAtPlace e (first_at_place program size n)

good_size : (fits empty : Bool) (found : Option VerifyFault) →
    (if fits then (if empty then Some (refusal.OutsideCode 0) else found) else Some refusal.BadSize) ≡ None → fits ≡ true
good_size true empty found e = refl
good_size false empty found e = cc

-- the sizes that a domain may have, and no others
pub size_fits : (size : ℕ) → smallest_size ≤ size → size ≤ largest_size → is_size size ≡ true
size_fits size low high = grind (arith, nat_tests)

-- the sizes of code that no test refuses
pub size_is_good : (program : CodeView) (size : ℕ) → the_fault program size ≡ None → (smallest_size ≤ size) × (size ≤ largest_size)
size_is_good program size e =
    let fits = good_size (is_size size) (length program.instrs == 0) (first_fault program size (length program.instrs)) e in
    let parts = and_parts (nat_le smallest_size size) (nat_le size largest_size) fits in
    (grind (arith, nat_tests, parts.0), grind (arith, nat_tests, parts.1))

pub size_small : (size : ℕ) → size < smallest_size → is_size size ≡ false
size_small size low = grind (arith, nat_tests)

pub size_large : (size : ℕ) → largest_size < size → is_size size ≡ false
size_large size high = grind (arith, nat_tests)
