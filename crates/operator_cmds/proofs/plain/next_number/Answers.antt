-- The digits are the first word, and the space ends it.
use Rattle.std.proofs.Common.{◌∷◌}
use Rattle.operator_cmds.proofs.PlainLines.{next, space_ends}
use Rattle.operator_cmds.proofs.plain.next_number.Goals as goal

pub returns-clause-number : goal.returns-clause-number
returns-clause-number c =
    next c.args.text.now c.in-Some.rest.now c.in-Some.n c.in-Some.ensures.found c.in-Some.ensures.limit
    c.in-Some-after_byte.rest.now c.in-Some-after_byte.ensures.found

pub returns-in_default-clause-usual : goal.returns-in_default-clause-usual
returns-in_default-clause-usual c rest number = absurd (c.in_default.ensures.usual (32 ∷ rest) number (space_ends rest))

pub returns-in_default-after_byte-clause-usual : goal.returns-in_default-after_byte-clause-usual
returns-in_default-after_byte-clause-usual c rest number =
    absurd (c.in_default-after_byte.ensures.any rest (c.in-Some.ensures.usual (32 ∷ rest) number (space_ends rest)).1)

pub returns-clause-usual : goal.returns-clause-usual
returns-clause-usual c rest number =
    c.in-Some-after_byte.ensures.any rest (c.in-Some.ensures.usual (32 ∷ rest) number (space_ends rest)).1
