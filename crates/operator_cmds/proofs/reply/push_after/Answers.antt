-- One digit or two.
use Rattle.std.proofs.Common.{rules, ◌/◌, arith}
use Rattle.std.proofs.lemmas.Fmt.{decimal_digit, decimal_step}
use Rattle.operator_cmds.proofs.reply.push_after.Goals as goal

pub returns-then-n-lt10-clause-ok : goal.returns-then-n-lt10-clause-ok
returns-then-n-lt10-clause-ok c = rw (decimal_digit c.args.n c.if-n-lt10.true) (search rules)

pub returns-then-n-lt100-clause-ok : goal.returns-then-n-lt100-clause-ok
returns-then-n-lt100-clause-ok c =
    let ten = c.args.n / 10 in
    rw (decimal_step c.args.n c.if-n-lt10.false (omega arith), decimal_digit ten (omega arith)) (search rules)
