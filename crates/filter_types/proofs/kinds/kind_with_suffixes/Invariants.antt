use Rattle.std.proofs.Common.{◌≡◌, Some, drop, take}
use Rattle.filter_types.specs.Turns.{kind_after}
use Rattle.filter_types.proofs.kinds.kind_with_suffixes.Given as goal

-- the suffixes that are left give what all of them give, and those before give the operand's kind
abbrev pub invariant-loop-suffix : goal.invariant-loop-suffix
invariant-loop-suffix l = record {
  after : kind_after l.operand.kind (drop l.suffix-index l.suffixes) ≡ kind_after l.initial.operand.kind l.suffixes;
  before : kind_after l.initial.operand.kind (take l.suffix-index l.suffixes) ≡ Some l.operand.kind;
  same : l.operand.expr ≡ l.initial.operand.expr;
}
