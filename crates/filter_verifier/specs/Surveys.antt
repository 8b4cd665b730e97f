-- What is told of code that is surveyed or refused. (This project's own choice.)
use Rattle.std.specs.Prelude.{ℕ, ◌+◌, min, if◌then◌else◌, Option, Some, None, length, slice_index_or}
use Rattle.filter_code.specs.CodeView.{CodeView}
use Rattle.filter_verifier.specs.declared.fact.Fact.{Fact}
use Rattle.filter_verifier.specs.declared.fact.Fact.TheVariants as fact
use Rattle.filter_verifier.specs.declared.fault.VerifyFault.{VerifyFault}
use Rattle.filter_verifier.specs.declared.fault.VerifyFault.TheVariants as refusal
use Rattle.filter_verifier.specs.Faults.{fault_place}
use Rattle.filter_verifier.specs.FirstFault.{is_size}
use Rattle.filter_verifier.specs.InStateView.{InStateView, Known}
use Rattle.filter_verifier.specs.InStates.{in_state}
use Rattle.filter_verifier.specs.Ranges.{RangeView}

-- the number of instructions that are visited: all, or those up to the one that is refused
abbrev pub reach : CodeView → Option VerifyFault → ℕ
reach program None = length program.instrs
reach program (Some why) = min (length program.instrs) (fault_place why + 1)

-- the same for a size: none are visited for a size that no domain has
abbrev pub surveyed : CodeView → ℕ → Option VerifyFault → ℕ
surveyed program size found = if is_size size then reach program found else 0

-- the range of what is known at a place, if it is an int
abbrev pub int_at : Option Fact → Option RangeView
int_at (Some (fact.Int range)) = Some range
int_at place = None

-- the range of the int on top of the stack, if one is known there
abbrev pub top_int : InStateView → Option RangeView
top_int (Known frame) = int_at (slice_index_or frame.stack 0 None)
top_int known = None

-- the range of the int that is refused: of a divisor that may be 0, or of a metric that may be too low
abbrev pub refused_int : VerifyFault → InStateView → Option RangeView
refused_int (refusal.ZeroDivisor at) known = top_int known
refused_int (refusal.LowerMetric at) known = top_int known
refused_int why known = None

-- the same of code, from what is known before the instruction that is refused
abbrev pub refused_range : CodeView → ℕ → VerifyFault → Option RangeView
refused_range program size why = refused_int why (in_state program size (fault_place why))
