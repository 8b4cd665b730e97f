use Rattle.std.proofs.Common.{◌≡◌, drop}
use Rattle.filter_syntax.specs.Syntax.{view_more}
use Rattle.bird_import.specs.Unassigned.{reads_among}
use Rattle.bird_import.proofs.unset.+reading.Given as goal

-- the operands that are left answer for all of them
abbrev pub invariant-read_among-loop-operand : goal.invariant-read_among-loop-operand
invariant-read_among-loop-operand l =
    reads_among l.variable (view_more l.operands) ≡ reads_among l.variable (view_more (drop l.operand-index l.operands))
