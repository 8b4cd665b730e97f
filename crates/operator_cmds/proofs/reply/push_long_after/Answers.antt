-- Three digits.
use Rattle.std.proofs.Common.{rules, ◌/◌, arith}
use Rattle.std.proofs.lemmas.Fmt.{decimal_digit, decimal_step}
use Rattle.operator_cmds.proofs.reply.push_long_after.Goals as goal

pub returns-then-n-lt1000-clause-ok : goal.returns-then-n-lt1000-clause-ok
returns-then-n-lt1000-clause-ok c =
    let tens = c.args.n / 10 in
    rw (
      decimal_step c.args.n (omega arith) (omega arith),
      decimal_step tens (omega arith) (omega arith),
      decimal_digit (tens / 10) (omega arith),
    )
    (search rules)
