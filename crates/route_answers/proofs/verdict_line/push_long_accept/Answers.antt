use Rattle.std.proofs.Common.{rules, ◌/◌, arith}
use Rattle.std.proofs.lemmas.Fmt.{decimal_digit, decimal_step}
use Rattle.route_answers.proofs.verdict_line.push_long_accept.Goals as goal

pub returns-then-metric-lt1000-clause-ok : goal.returns-then-metric-lt1000-clause-ok
returns-then-metric-lt1000-clause-ok c =
    let tens = c.args.metric / 10 in
    rw (
      decimal_step c.args.metric (omega arith) (omega arith),
      decimal_step tens (omega arith) (omega arith),
      decimal_digit (tens / 10) (omega arith),
    )
    (search rules)
