-- Worked rows: the definitions compute these faults and bounds.
use Rattle.std.proofs.Common.{◌≡◌, ℕ, List, [], ◌∷◌, ◌++◌, replicate, true, false, Option, Some, None, refl}
use Rattle.filter_code.specs.declared.instruction.Instr.{Instr}
use Rattle.filter_code.specs.declared.instruction.Instr.TheVariants as instr
use Rattle.filter_code.specs.CodeView.{CodeView}
use Rattle.filter_verifier.specs.declared.fault.VerifyFault.{VerifyFault}
use Rattle.filter_verifier.specs.declared.fault.VerifyFault.TheVariants as refusal
use Rattle.filter_verifier.specs.FirstFault.{first_fault, the_fault}
use Rattle.filter_verifier.specs.InStates.{incoming}
use Rattle.filter_verifier.specs.Bounds.{cost, peak}

-- the fault of instructions with some local variables and without sets, in a domain of a size
abbrev fault_of : ℕ → List Instr → ℕ → Option VerifyFault
fault_of locals instrs size =
    let program : CodeView = record { locals = locals; sets = []; int_sets = []; instrs = instrs } in
    the_fault program size

-- the metric raised by 2 is known to be at least the one received
abbrev raising : List Instr
raising = instr.Metric ∷ (instr.Int 2 ∷ (instr.Add
    ∷ (instr.Received ∷ (instr.Max ∷ (instr.SetMetric ∷ (instr.Accept ∷ (instr.Reject ∷ [])))))))

pub raised : fault_of 0 raising 8 ≡ None
unfolding incoming first_fault
raised = refl

pub raised_cost : cost raising 0 ≡ 7
raised_cost = refl

pub raised_peak : peak raising 0 0 ≡ 2
raised_peak = refl

-- no domain has one node
pub too_small : fault_of 0 raising 1 ≡ Some refusal.BadSize
unfolding incoming first_fault
too_small = refl

-- nor none, though there are no instructions
pub too_small_and_empty : fault_of 0 [] 1 ≡ Some refusal.BadSize
unfolding incoming first_fault
too_small_and_empty = refl

pub too_large : fault_of 0 raising 251 ≡ Some refusal.BadSize
unfolding incoming first_fault
too_large = refl

pub largest : fault_of 0 raising 250 ≡ None
unfolding incoming first_fault
largest = refl

pub empty : fault_of 0 [] 8 ≡ Some (refusal.OutsideCode 0)
unfolding incoming first_fault
empty = refl

-- paths with the depths 1 and 2 meet at the last instruction
abbrev uneven : List Instr
uneven = instr.Int 0 ∷ (instr.Bool true ∷ (instr.JumpIfNot 1 ∷ (instr.Int 1 ∷ (instr.Accept ∷ []))))

pub unlike_depths : fault_of 0 uneven 8 ≡ Some (refusal.UnlikeDepths 4)
unfolding incoming first_fault
unlike_depths = refl

-- a local variable is an int on one path and a bool on the other, and empty where they meet
abbrev int_or_bool : List Instr
int_or_bool = instr.Bool true ∷ (instr.JumpIfNot 3
    ∷ (instr.Int 1 ∷ (instr.Store 0 ∷ (instr.Jump 2
    ∷ (instr.Bool false ∷ (instr.Store 0 ∷ (instr.Load 0 ∷ (instr.Accept ∷ []))))))))

pub unlike_local : fault_of 1 int_or_bool 8 ≡ Some (refusal.WrongKind 7)
unfolding incoming first_fault
unlike_local = refl

-- unlike kinds on the stack are refused where they meet, though no instruction takes them
abbrev int_or_ip : List Instr
int_or_ip = instr.Bool true ∷ (instr.JumpIfNot 2 ∷ (instr.Int 1 ∷ (instr.Jump 1 ∷ (instr.Bool false ∷ (instr.Accept ∷ [])))))

pub unlike_operand : fault_of 0 int_or_ip 8 ≡ Some (refusal.WrongKind 5)
unfolding incoming first_fault
unlike_operand = refl

-- three paths meet at 8: two with unlike kinds, and a third, the last, with another depth
abbrev three_ways : List Instr
three_ways = instr.Bool true ∷ (instr.JumpIfNot 2
    ∷ (instr.Int 1 ∷ (instr.Jump 4 ∷ (instr.Bool true
    ∷ (instr.JumpIfNot 2 ∷ (instr.Bool true ∷ (instr.Jump 0 ∷ (instr.Accept ∷ []))))))))

pub depths_before_kinds : fault_of 0 three_ways 8 ≡ Some (refusal.UnlikeDepths 8)
unfolding incoming first_fault
depths_before_kinds = refl

-- the metric times 2 is at least the metric, and times 0 it is not
abbrev times : ℕ → List Instr
times k = instr.Metric ∷ (instr.Int k ∷ (instr.Mul ∷ (instr.SetMetric ∷ (instr.Accept ∷ []))))

pub times_two : fault_of 0 (times 2) 8 ≡ None
unfolding incoming first_fault
times_two = refl

pub times_two_cost : cost (times 2) 0 ≡ 5
times_two_cost = refl

pub times_two_peak : peak (times 2) 0 0 ≡ 2
times_two_peak = refl

pub times_zero : fault_of 0 (times 0) 8 ≡ Some (refusal.LowerMetric 3)
unfolding incoming first_fault
times_zero = refl

-- a sum that may wrap
pub wrapping : fault_of 0 (instr.Metric ∷ (instr.Int 4294967295
    ∷ (instr.Add ∷ (instr.SetMetric ∷ (instr.Accept ∷ []))))) 8 ≡ Some (refusal.LowerMetric 3)
unfolding incoming first_fault
wrapping = refl

-- a number from the size on is at least what was received
abbrev setting_eight : List Instr
setting_eight = instr.Int 8 ∷ (instr.SetMetric ∷ (instr.Accept ∷ []))

pub at_the_size : fault_of 0 setting_eight 8 ≡ None
unfolding incoming first_fault
at_the_size = refl

pub below_the_size : fault_of 0 setting_eight 9 ≡ Some (refusal.LowerMetric 1)
unfolding incoming first_fault
below_the_size = refl

-- the metric may be 0
pub zero_divisor : fault_of 0 (instr.Int 8 ∷ (instr.Metric ∷ (instr.Div ∷ (instr.Accept ∷ [])))) 8 ≡ Some (refusal.ZeroDivisor 2)
unfolding incoming first_fault
zero_divisor = refl

-- the code ends without an end of the run, or jumps over its last instruction
pub runs_out : fault_of 0 (instr.Metric ∷ []) 8 ≡ Some (refusal.OutsideCode 0)
unfolding incoming first_fault
runs_out = refl

pub jumps_out : fault_of 0 (instr.Jump 1 ∷ (instr.Accept ∷ [])) 8 ≡ Some (refusal.OutsideCode 0)
unfolding incoming first_fault
jumps_out = refl

-- a missing name comes before a missing operand
pub no_local : fault_of 0 (instr.Store 0 ∷ (instr.Accept ∷ [])) 8 ≡ Some (refusal.UnknownName 0)
unfolding incoming first_fault
no_local = refl

pub empty_local : fault_of 1 (instr.Load 0 ∷ (instr.Accept ∷ [])) 8 ≡ Some (refusal.WrongKind 0)
unfolding incoming first_fault
empty_local = refl

pub one_for_two : fault_of 0 (instr.Int 2 ∷ (instr.Add ∷ (instr.Accept ∷ []))) 8 ≡ Some (refusal.MissingOperand 1)
unfolding incoming first_fault
one_for_two = refl

-- what no way leads to is not judged, and costs nothing
abbrev one_accept : List Instr
one_accept = instr.Accept ∷ (instr.Add ∷ (instr.Jump 9 ∷ []))

pub unreached : fault_of 0 one_accept 8 ≡ None
unfolding incoming first_fault
unreached = refl

pub unreached_cost : cost one_accept 0 ≡ 1
unreached_cost = refl

pub unreached_peak : peak one_accept 0 0 ≡ 0
unreached_peak = refl

-- both branches count: the longer one for the cost, and the higher one for the peak
abbrev branching : List Instr
branching = instr.Bool true ∷ (instr.JumpIfNot 2
    ∷ (instr.Metric ∷ (instr.Accept ∷ (instr.Int 1 ∷ (instr.Int 2 ∷ (instr.Int 3 ∷ (instr.Reject ∷ [])))))))

pub branching_cost : cost branching 0 ≡ 6
branching_cost = refl

pub branching_peak : peak branching 0 0 ≡ 3
branching_peak = refl

-- thirty-two operands: nothing outside of the code is taken for a peak
pub full : peak (replicate 32 instr.Metric ++ instr.Accept ∷ []) 0 0 ≡ 32
full = refl

-- the fault of instructions with one set of patterns and two of ints, all empty, in a domain of 8
abbrev fault_with_sets : List Instr → Option VerifyFault
fault_with_sets instrs =
    let program : CodeView = record { locals = 0; sets = [] ∷ []; int_sets = [] ∷ ([] ∷ []); instrs = instrs } in
    the_fault program 8

-- sets of ints are numbered by themselves, and what is asked about is an int
pub asks : fault_with_sets (instr.Metric ∷ (instr.InSet 1 ∷ (instr.JumpIfNot 1 ∷ (instr.Accept ∷ (instr.Reject ∷ []))))) ≡ None
unfolding incoming first_fault
asks = refl

pub no_such_set : fault_with_sets (instr.Metric ∷ (instr.InSet 2 ∷ (instr.Accept ∷ []))) ≡ Some (refusal.UnknownName 1)
unfolding incoming first_fault
no_such_set = refl

pub set_of_a_prefix : fault_with_sets (instr.Net ∷ (instr.InSet 1 ∷ (instr.Accept ∷ []))) ≡ Some (refusal.WrongKind 1)
unfolding incoming first_fault
set_of_a_prefix = refl
