-- Worked rows: the definitions compute the outcomes that they should.
use Rattle.std.proofs.Common.{◌≡◌, ℕ, List, [], ◌∷◌, ◌++◌, replicate, Bool, true, false, refl}
use Rattle.prefix_patterns.specs.Matching.{PrefixPattern}
use Rattle.int_sets.specs.Holding.{NumberRange}
use Rattle.filter_code.specs.declared.instruction.Instr.{Instr}
use Rattle.filter_code.specs.declared.instruction.Instr.TheVariants as instr
use Rattle.filter_code.specs.declared.outcome.FaultKind.TheVariants as fault
use Rattle.filter_code.specs.declared.outcome.Outcome.{Outcome}
use Rattle.filter_code.specs.declared.outcome.Outcome.TheVariants as outcome
use Rattle.filter_code.specs.RouteView.{RouteView}
use Rattle.filter_code.specs.Machine.{after, outcome_of}
use Rattle.filter_code.specs.CodeView.{CodeView}

-- the outcome of instructions on a metric, in a domain of 8
abbrev outcome_on : List Instr → ℕ → Outcome
outcome_on instrs metric =
    let program : CodeView = record { locals = 0; sets = []; int_sets = []; instrs = instrs } in
    let route : RouteView = record { net = []; metric = metric; size = 8 } in
    outcome_of program route

-- the bits of 1.0.0.0/8
abbrev eight : List Bool
eight = false ∷ (false ∷ (false ∷ (false ∷ (false ∷ (false ∷ (false ∷ (true ∷ [])))))))

-- a raised metric is clipped at the size
pub raised : outcome_on (instr.Metric ∷
    (instr.Int 2 ∷ (instr.Add ∷ (instr.Received ∷ (instr.Max ∷ (instr.SetMetric ∷ (instr.Accept ∷ (instr.Reject ∷ []))))))))
    7 ≡ outcome.Accept 8
unfolding after
raised = refl

-- the metric received is the least
pub kept : outcome_on (instr.Int 1 ∷ (instr.Received ∷ (instr.Max ∷ (instr.SetMetric ∷ (instr.Accept ∷ (instr.Reject ∷ []))))))
    5 ≡ outcome.Accept 5
unfolding after
kept = refl

-- a sum wraps, and so would lower the metric
abbrev wrapping : List Instr
wrapping = instr.Metric ∷ (instr.Int 4294967295 ∷ (instr.Add ∷ (instr.SetMetric ∷ (instr.Accept ∷ []))))

pub wrapped : outcome_on wrapping 3 ≡ outcome.Fault fault.LowerMetric 3
unfolding after
wrapped = refl

pub not_wrapped : outcome_on wrapping 0 ≡ outcome.Accept 8
unfolding after
not_wrapped = refl

-- the maximum brings a sum that wraps back to the metric received
pub brought_back : outcome_on (instr.Metric ∷
    (instr.Int 4294967295 ∷ (instr.Add ∷
    (instr.Received ∷ (instr.Max ∷ (instr.SetMetric ∷ (instr.Accept ∷ (instr.Reject ∷ [])))))))) 3 ≡ outcome.Accept 3
unfolding after
brought_back = refl

-- code without instructions
pub empty : outcome_on [] 3 ≡ outcome.Fault fault.OutsideCode 0
unfolding after
empty = refl

-- thirty-three values are too many
pub too_many : outcome_on (replicate 33 instr.Metric ++ instr.Accept ∷ []) 3 ≡ outcome.Fault fault.FullStack 32
unfolding after
too_many = refl

-- thirty-two are not
pub enough : outcome_on (replicate 32 instr.Metric ++ instr.Accept ∷ []) 3 ≡ outcome.Accept 3
unfolding after
enough = refl

-- one operand for two, and none for one
pub one_for_two : outcome_on (instr.Metric ∷ (instr.Add ∷ (instr.Accept ∷ []))) 3 ≡ outcome.Fault fault.MissingOperand 1
unfolding after
one_for_two = refl

pub rejected : outcome_on (instr.Reject ∷ (instr.Accept ∷ [])) 3 ≡ outcome.Reject
unfolding after
rejected = refl

-- a division, whose divisor is the metric
abbrev dividing : List Instr
dividing = instr.Int 8 ∷ (instr.Metric ∷
    (instr.Div ∷ (instr.Int 2 ∷ (instr.Eq ∷ (instr.JumpIfNot 1 ∷ (instr.Accept ∷ (instr.Reject ∷ [])))))))

pub divided : outcome_on dividing 3 ≡ outcome.Accept 3
unfolding after
divided = refl

pub not_divided : outcome_on dividing 0 ≡ outcome.Fault fault.ZeroDivisor 2
unfolding after
not_divided = refl

-- a jump out of the code is a step, and the fault comes with the next
pub jumped_out : outcome_on (instr.Jump 1 ∷ (instr.Accept ∷ [])) 3 ≡ outcome.Fault fault.OutsideCode 2
unfolding after
jumped_out = refl

-- a missing local variable comes before a missing operand
pub no_local : outcome_on (instr.Store 0 ∷ (instr.Accept ∷ [])) 3 ≡ outcome.Fault fault.UnknownName 0
unfolding after
no_local = refl

-- a code with one local variable and the set of 1.0.0.0/8 with lengths 15 to 17, on the prefix of these bits
abbrev outcome_at : List Instr → List Bool → Outcome
outcome_at instrs net =
    let pattern : PrefixPattern = record { bits = eight; low = 15; high = 17 } in
    let program : CodeView = record { locals = 1; sets = (pattern ∷ []) ∷ []; int_sets = []; instrs = instrs } in
    let route : RouteView = record { net = net; metric = 3; size = 8 } in
    outcome_of program route

pub empty_local : outcome_at (instr.Load 0 ∷ (instr.Accept ∷ [])) eight ≡ outcome.Fault fault.WrongKind 0
unfolding after
empty_local = refl

-- takes what matches the set, and rejects the rest
abbrev filtering : List Instr
filtering = instr.Net ∷ (instr.Member 0 ∷ (instr.JumpIfNot 1 ∷ (instr.Accept ∷ (instr.Reject ∷ []))))

pub taken : outcome_at filtering (eight ++ (false ∷ (false ∷ (false ∷ (false ∷ (false ∷ (false ∷ (true ∷ (false ∷ []))))))))) ≡
    outcome.Accept 3
unfolding after
taken = refl

pub too_short : outcome_at filtering eight ≡ outcome.Reject
unfolding after
too_short = refl

-- a code with the set of 2 and of 4 to 6, on a metric
abbrev outcome_in : List Instr → ℕ → Outcome
outcome_in instrs metric =
    let two : NumberRange = record { low = 2; high = 2 } in
    let more : NumberRange = record { low = 4; high = 6 } in
    let program : CodeView = record { locals = 0; sets = []; int_sets = (two ∷ (more ∷ [])) ∷ []; instrs = instrs } in
    let route : RouteView = record { net = []; metric = metric; size = 8 } in
    outcome_of program route

-- takes the metrics of the set, and rejects the rest
abbrev choosing : List Instr
choosing = instr.Metric ∷ (instr.InSet 0 ∷ (instr.JumpIfNot 1 ∷ (instr.Accept ∷ (instr.Reject ∷ []))))

pub chosen : outcome_in choosing 5 ≡ outcome.Accept 5
unfolding after
chosen = refl

pub between : outcome_in choosing 3 ≡ outcome.Reject
unfolding after
between = refl

-- sets of patterns and sets of ints are numbered each by themselves
pub no_set_of_ints : outcome_at (instr.Metric ∷ (instr.InSet 0 ∷ (instr.Accept ∷ []))) [] ≡ outcome.Fault fault.UnknownName 1
unfolding after
no_set_of_ints = refl

pub no_set_of_patterns : outcome_in (instr.Net ∷ (instr.Member 0 ∷ (instr.Accept ∷ []))) 3 ≡ outcome.Fault fault.UnknownName 1
unfolding after
no_set_of_patterns = refl

-- a missing set comes before an operand of the wrong kind, and that before what the set holds
pub set_of_a_prefix : outcome_in (instr.Net ∷ (instr.InSet 0 ∷ (instr.Accept ∷ []))) 3 ≡ outcome.Fault fault.WrongKind 1
unfolding after
set_of_a_prefix = refl

pub set_past_the_last : outcome_in (instr.Net ∷ (instr.InSet 1 ∷ (instr.Accept ∷ []))) 3 ≡ outcome.Fault fault.UnknownName 1
unfolding after
set_past_the_last = refl
