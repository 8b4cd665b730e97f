-- The digits are the one word.
use Rattle.std.proofs.Common.{◌≡◌, [], length, ap, arith}
use Rattle.std.proofs.lemmas.Bool.Decides.{nat_tests}
use Rattle.operator_cmds.proofs.PlainLines.{all_of_it, last, nothing_ends}
use Rattle.operator_cmds.proofs.plain.last_number.Goals as goal

pub returns-clause-number : goal.returns-clause-number
returns-clause-number c =
    let empty : length c.in-Some.rest.now ≡ 0 = grind (arith, nat_tests) in
    last c.args.text.now c.in-Some.rest.now c.in-Some.n c.in-Some.ensures.found c.in-Some.ensures.limit empty

pub returns-in_default-clause-usual : goal.returns-in_default-clause-usual
returns-in_default-clause-usual c usual = absurd (c.in_default.ensures.usual [] (all_of_it c.args.text.now usual) nothing_ends)

pub returns-then-not-is_empty-clause-usual : goal.returns-then-not-is_empty-clause-usual
returns-then-not-is_empty-clause-usual c usual =
    let read = c.in-Some.ensures.usual [] (all_of_it c.args.text.now usual) nothing_ends in
    let empty : length c.in-Some.rest.now ≡ 0 = ap length read.1 in
    absurd (grind (arith, nat_tests))
