use Rattle.std.proofs.Common.{◌∷◌, arith}
use Rattle.prefix_patterns.proofs.UsualSpelling.{group_number}
use Rattle.prefix_patterns.proofs.leading.group_before.Goals as goal

pub returns-in_err-value-clause-usual : goal.returns-in_err-value-clause-usual
returns-in_err-value-clause-usual c rest group ends =
    absurd (c.in_err-value.ensures.usual (c.args.byte ∷ rest) (group_number c.args.text.now c.args.byte rest group) ends)

pub returns-then-value-gt255-clause-usual : goal.returns-then-value-gt255-clause-usual
returns-then-value-gt255-clause-usual c rest group ends =
    let read = c.in_ok-value.ensures.usual (c.args.byte ∷ rest) (group_number c.args.text.now c.args.byte rest group) ends in
    omega (arith, read.0, group.wanted.1, c.if-value-gt255.true)

pub returns-in_err-after_byte-clause-usual : goal.returns-in_err-after_byte-clause-usual
returns-in_err-after_byte-clause-usual c rest group ends =
    let read = c.in_ok-value.ensures.usual (c.args.byte ∷ rest) (group_number c.args.text.now c.args.byte rest group) ends in
    absurd (c.in_err-after_byte.ensures.any rest read.1)

pub returns-clause-usual : goal.returns-clause-usual
returns-clause-usual c rest group ends =
    let read = c.in_ok-value.ensures.usual (c.args.byte ∷ rest) (group_number c.args.text.now c.args.byte rest group) ends in
    c.in_ok-after_byte.ensures.any rest read.1
