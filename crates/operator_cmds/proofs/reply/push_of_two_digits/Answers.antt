-- A node of two digits, and a distance of one, two and three.
use Rattle.std.proofs.Common.{rules, sym, arith}
use Rattle.std.proofs.lemmas.Fmt.{decimal_digit}
use Rattle.operator_cmds.proofs.Pairs.{decimal_three, decimal_two}
use Rattle.operator_cmds.proofs.reply.push_of_two_digits.Goals as goal

pub returns-then-dist-lt10-clause-ok : goal.returns-then-dist-lt10-clause-ok
returns-then-dist-lt10-clause-ok c =
    let t = c.two_digits-to_ten.ensures in
    rw (decimal_two c.args.dest c.requires.least c.requires.most, decimal_digit c.args.dist c.if-dist-lt10.true, sym t.ten, sym t.one)
    (search rules)

pub returns-then-dist-lt100-clause-ok : goal.returns-then-dist-lt100-clause-ok
returns-then-dist-lt100-clause-ok c =
    let t = c.two_digits-to_ten.ensures in
    let d = c.two_digits-ten.ensures in
    rw (
      decimal_two c.args.dest c.requires.least c.requires.most,
      decimal_two c.args.dist (omega arith) (omega arith),
      sym t.ten,
      sym t.one,
      sym d.ten,
      sym d.one,
    )
    (search rules)

pub returns-then-dist-lt1000-clause-ok : goal.returns-then-dist-lt1000-clause-ok
returns-then-dist-lt1000-clause-ok c =
    let t = c.two_digits-to_ten.ensures in
    let d = c.two_digits-ten-then-dist-lt1000.ensures in
    rw (
      decimal_two c.args.dest c.requires.least c.requires.most,
      decimal_three c.args.dist (omega arith) (omega arith),
      sym t.ten,
      sym t.one,
      sym d.ten,
      sym d.one,
    )
    (search rules)
