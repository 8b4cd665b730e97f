use Rattle.std.proofs.Common.{sym, subst}
use Rattle.filter_compiler.specs.Written.{IsCounted}
use Rattle.filter_compiler.proofs.sets.after_expr.Goals as goal

pub returns : goal.returns
returns c = λ n counted. c.gather.ensures.counts n (subst (IsCounted n) (sym c.counting-lists.ensures) counted)
