use Rattle.std.proofs.Common.{◌∙◌, sym}
use Rattle.std.specs.Cmp.{booleans_Decides}
use Rattle.std.specs.Cmp.Lexicographic.{pointwise_decides}
use Rattle.filter_diff.proofs.joining.same_prefix.Goals as goal

pub returns : goal.returns
returns c same = (pointwise_decides booleans_Decides c.args.a.now c.args.b.now).0 (sym c.eq.ensures ∙ same)
