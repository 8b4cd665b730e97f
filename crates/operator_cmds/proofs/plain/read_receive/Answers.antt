use Rattle.std.proofs.Common.{◌∷◌, ◌++◌, sym, subst}
use Rattle.prefix_patterns.specs.Leading.{IsUsualNumber}
use Rattle.operator_cmds.proofs.PlainLines.{first_of, second_of}
use Rattle.operator_cmds.proofs.plain.read_receive.Goals as goal

pub returns-in_default-clause-usual : goal.returns-in_default-clause-usual
returns-in_default-clause-usual c three =
    absurd (c.in_default.ensures.usual (three.second ++ 32 ∷ three.third) (first_of c.args.text.now three))

pub returns-in_default-next_number-clause-usual : goal.returns-in_default-next_number-clause-usual
returns-in_default-next_number-clause-usual c three =
    let second = c.in-Some.ensures.usual (three.second ++ 32 ∷ three.third) (first_of c.args.text.now three) in
    absurd (c.in_default-next_number.ensures.usual three.third (second_of c.args.text.now c.in-Some.text.now three second))

pub returns-in_default-last_number-clause-usual : goal.returns-in_default-last_number-clause-usual
returns-in_default-last_number-clause-usual c three =
    let second = c.in-Some.ensures.usual (three.second ++ 32 ∷ three.third) (first_of c.args.text.now three) in
    let third = c.in-Some-next_number.ensures.usual three.third (second_of c.args.text.now c.in-Some.text.now three second) in
    c.in_default-last_number.ensures.usual (subst IsUsualNumber (sym third) three.are_usual.2)
