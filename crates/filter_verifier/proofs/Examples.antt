-- The examples of docs/VERIFIER.md: the definitions compute the verdicts that it tells.
use Rattle.std.proofs.Common.{◌≡◌, ℕ, List, [], ◌∷◌, true, false, Option, Some, None, refl}
use Rattle.filter_code.specs.declared.instruction.Instr.{Instr}
use Rattle.filter_code.specs.declared.instruction.Instr.TheVariants as instr
use Rattle.filter_code.specs.CodeView.{CodeView}
use Rattle.filter_verifier.specs.declared.fault.VerifyFault.{VerifyFault}
use Rattle.filter_verifier.specs.declared.fault.VerifyFault.TheVariants as refusal
use Rattle.filter_verifier.specs.FirstFault.{first_fault, the_fault}
use Rattle.filter_verifier.specs.InStates.{incoming}
use Rattle.filter_verifier.specs.Bounds.{cost, peak}

-- the fault of instructions with one local variable and one empty set of patterns, in a domain of a size
abbrev fault_at : ℕ → List Instr → Option VerifyFault
fault_at size instrs =
    let program : CodeView = record { locals = 1; sets = [] ∷ []; int_sets = []; instrs = instrs } in
    the_fault program size

-- the metric times a number
abbrev times : ℕ → List Instr
times n = instr.Metric ∷ (instr.Int n ∷ (instr.Mul ∷ (instr.SetMetric ∷ (instr.Accept ∷ []))))

pub doubled : fault_at 8 (times 2) ≡ None
unfolding incoming first_fault
doubled = refl

pub doubled_cost : cost (times 2) 0 ≡ 5
doubled_cost = refl

pub doubled_peak : peak (times 2) 0 0 ≡ 2
doubled_peak = refl

pub times_zero : fault_at 8 (times 0) ≡ Some (refusal.LowerMetric 3)
unfolding incoming first_fault
times_zero = refl

-- a number as the metric
abbrev setting : ℕ → List Instr
setting n = instr.Int n ∷ (instr.SetMetric ∷ (instr.Accept ∷ []))

pub as_far_as_can_be : fault_at 8 (setting 8) ≡ None
unfolding incoming first_fault
as_far_as_can_be = refl

pub not_so_far : fault_at 9 (setting 8) ≡ Some (refusal.LowerMetric 1)
unfolding incoming first_fault
not_so_far = refl

-- a condition that guards a divisor tells nothing
pub guarded_divisor : fault_at 8 (instr.Int 0 ∷ (instr.Metric ∷ (instr.Lt ∷ (instr.JumpIfNot 6 ∷ (instr.Int 100 ∷ (instr.Metric
    ∷ (instr.Div
    ∷ (instr.Received ∷ (instr.Max ∷ (instr.SetMetric ∷ (instr.Accept ∷ []))))))))))) ≡ Some (refusal.ZeroDivisor 6)
unfolding incoming first_fault
guarded_divisor = refl

-- the greater of the metric and 1 is a divisor
pub raised_divisor : fault_at 8 (instr.Int 100 ∷ (instr.Metric ∷ (instr.Int 1 ∷ (instr.Max ∷ (instr.Div
    ∷ (instr.Received ∷ (instr.Max ∷ (instr.SetMetric ∷ (instr.Accept ∷ []))))))))) ≡ None
unfolding incoming first_fault
raised_divisor = refl

-- a difference keeps no mark, and the greater of it and what was received has one
pub difference_unmarked : fault_at 8 (instr.Metric ∷ (instr.Int 2 ∷ (instr.Add ∷ (instr.Int 1 ∷ (instr.Sub
    ∷ (instr.SetMetric ∷ (instr.Accept ∷ []))))))) ≡ Some (refusal.LowerMetric 5)
unfolding incoming first_fault
difference_unmarked = refl

pub marked_again : fault_at 8 (instr.Metric ∷ (instr.Int 2 ∷ (instr.Add ∷ (instr.Int 1 ∷ (instr.Sub
    ∷ (instr.Received ∷ (instr.Max ∷ (instr.SetMetric ∷ (instr.Accept ∷ []))))))))) ≡ None
unfolding incoming first_fault
marked_again = refl

-- a way that no route takes
pub never_taken : fault_at 8 (instr.Bool true ∷ (instr.JumpIfNot 1 ∷ (instr.Accept ∷ (instr.Not ∷ (instr.Reject ∷ [])))))
    ≡ Some (refusal.MissingOperand 3)
unfolding incoming first_fault
never_taken = refl

pub never_jumping : fault_at 8 (instr.Bool true ∷ (instr.JumpIfNot 5 ∷ (instr.Accept ∷ (instr.Not ∷ (instr.Reject ∷ [])))))
    ≡ Some (refusal.OutsideCode 1)
unfolding incoming first_fault
never_jumping = refl

-- a local variable that is set only where it is read
pub set_where_read : fault_at 8 (instr.Net ∷ (instr.Member 0 ∷ (instr.JumpIfNot 2 ∷ (instr.Int 4 ∷ (instr.Store 0 ∷ (instr.Net
    ∷ (instr.Member 0 ∷ (instr.JumpIfNot 4 ∷ (instr.Load 0 ∷ (instr.Received ∷ (instr.Max ∷ (instr.SetMetric
    ∷ (instr.Accept ∷ [])))))))))))))
    ≡ Some (refusal.WrongKind 8)
unfolding incoming first_fault
set_where_read = refl

-- operands that nothing takes
pub one_and_none : fault_at 8 (instr.Bool true ∷ (instr.JumpIfNot 1 ∷ (instr.Int 7 ∷ (instr.Accept ∷ []))))
    ≡ Some (refusal.UnlikeDepths 3)
unfolding incoming first_fault
one_and_none = refl

pub int_and_bool : fault_at 8 (instr.Bool true ∷ (instr.JumpIfNot 2 ∷ (instr.Int 1 ∷ (instr.Jump 1 ∷ (instr.Bool false
    ∷ (instr.Accept ∷ []))))))
    ≡ Some (refusal.WrongKind 5)
unfolding incoming first_fault
int_and_bool = refl

-- the metric less the metric
pub metric_less_metric : fault_at 8 (instr.Int 8 ∷ (instr.Metric ∷ (instr.Metric ∷ (instr.Sub ∷ (instr.Sub
    ∷ (instr.SetMetric ∷ (instr.Accept ∷ []))))))) ≡ Some (refusal.LowerMetric 5)
unfolding incoming first_fault
metric_less_metric = refl
