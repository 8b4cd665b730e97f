use Rattle.std.proofs.Common.{◌∙◌}
use Rattle.filter_types.proofs.Blaming.{suffix_left, suffix_taken}
use Rattle.filter_types.proofs.kinds.kind_with_suffixes.Goals as goal

pub loop-suffix-preserved : goal.loop-suffix-preserved
loop-suffix-preserved c =
    let xs = c.args.suffixes.now in
    let i = c.loop-suffix.suffix-index in
    let k = c.loop-suffix.operand.kind in
    let next = c.in_ok-operand.field-0 in
    record {
      after = suffix_left k next xs i c.suffix-item.result c.loop-suffix-test.true c.suffix-item.is c.in_ok-operand.ensures.kind
          ∙ c.loop-suffix.invariant.after;
      before = suffix_taken c.args.operand.kind k next xs i c.suffix-item.result c.loop-suffix-test.true c.suffix-item.is
          c.loop-suffix.invariant.before c.in_ok-operand.ensures.kind;
      same = c.loop-suffix.invariant.same;
    }
