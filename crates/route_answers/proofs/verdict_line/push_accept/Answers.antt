use Rattle.std.proofs.Common.{rules, ◌/◌, arith}
use Rattle.std.proofs.lemmas.Fmt.{decimal_digit, decimal_step}
use Rattle.route_answers.proofs.verdict_line.push_accept.Goals as goal

pub returns-then-metric-lt10-clause-ok : goal.returns-then-metric-lt10-clause-ok
returns-then-metric-lt10-clause-ok c = rw (decimal_digit c.args.metric c.if-metric-lt10.true) (search rules)

pub returns-then-metric-lt100-clause-ok : goal.returns-then-metric-lt100-clause-ok
returns-then-metric-lt100-clause-ok c =
    let ten = c.args.metric / 10 in
    rw (decimal_step c.args.metric c.if-metric-lt10.false (omega arith), decimal_digit ten (omega arith))
    (search rules)
