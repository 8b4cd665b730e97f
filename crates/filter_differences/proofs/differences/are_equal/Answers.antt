use Rattle.std.proofs.Common.{◌∙◌}
use Rattle.filter_differences.proofs.EqualCodes.{equal_files}
use Rattle.filter_differences.proofs.differences.are_equal.Goals as goal

pub returns : goal.returns
returns c =
    equal_files c.args.old.now c.args.new.now c.as_slice.result.now c.as_slice-2.result.now c.eq.result
    (c.as_slice.ensures.value ∙ c.in_ok-before.ensures.spelled) (c.as_slice-2.ensures.value ∙ c.in_ok-after.ensures.spelled)
    c.in_ok-before.ensures.readable c.in_ok-after.ensures.readable c.eq.ensures
