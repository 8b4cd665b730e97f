-- A node of one digit, and a distance of one, two and three.
use Rattle.std.proofs.Common.{rules, sym, arith}
use Rattle.std.proofs.lemmas.Fmt.{decimal_digit}
use Rattle.operator_cmds.proofs.Pairs.{decimal_three, decimal_two}
use Rattle.operator_cmds.proofs.reply.push_of_one_digit.Goals as goal

pub returns-then-dist-lt10-clause-ok : goal.returns-then-dist-lt10-clause-ok
returns-then-dist-lt10-clause-ok c =
    rw (decimal_digit c.args.dest c.requires, decimal_digit c.args.dist c.if-dist-lt10.true) (search rules)

pub returns-then-dist-lt100-clause-ok : goal.returns-then-dist-lt100-clause-ok
returns-then-dist-lt100-clause-ok c =
    let d = c.two_digits-ten.ensures in
    rw (decimal_digit c.args.dest c.requires, decimal_two c.args.dist (omega arith) (omega arith), sym d.ten, sym d.one) (search rules)

pub returns-then-dist-lt1000-clause-ok : goal.returns-then-dist-lt1000-clause-ok
returns-then-dist-lt1000-clause-ok c =
    let d = c.two_digits-ten-then-dist-lt1000.ensures in
    rw (decimal_digit c.args.dest c.requires, decimal_three c.args.dist (omega arith) (omega arith), sym d.ten, sym d.one) (search rules)
