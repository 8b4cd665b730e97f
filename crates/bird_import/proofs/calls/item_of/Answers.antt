use Rattle.std.proofs.Common.{arith, inr}
use Rattle.bird_import.proofs.calls.item_of.Goals as goal

pub returns-in-Some-second_function-clause-err : goal.returns-in-Some-second_function-clause-err
returns-in-Some-second_function-clause-err c words used =
    let second = c.in-Some-second_function.ensures in (
      c.args.word,
      used,
      inr (
        c.in-Some.at,
        c.in-Some-second_function._second.0,
        c.in-Some.item.now,
        c.in-Some-second_function._second.1.now,
        second.0,
        c.in-Some.ensures.some.1,
        second.1,
      ),
    )

pub returns-clause-err : goal.returns-clause-err
returns-clause-err c words used =
    (c.args.word, used, inr (c.in-Some.at, c.in-Some.item.now, c.in-Some.ensures.some.1, λ early. grind (arith, c.if-ends_before.ensures early)))
