use Rattle.std.proofs.Common.{ap, ◌∙◌, arith}
use Rattle.prefix_patterns.specs.Written.{written_as}
use Rattle.prefix_patterns.specs.Token.{dot, slash}
use Rattle.prefix_patterns.proofs.LeadingTokens.{prefix_pieces}
use Rattle.prefix_patterns.proofs.UsualSpelling.{bits_number, dot_ends, moved, moved_bits, pieces, slash_ends}
use Rattle.prefix_patterns.proofs.leading.leading_written.Goals as goal

pub returns-clause-found : goal.returns-clause-found
returns-clause-found c =
    prefix_pieces c.args.text.now c.in_ok-first.rest.now c.in_ok-second.rest.now c.in_ok-third.rest.now c.in_ok-fourth.rest.now
    c.in_ok-len.rest.now c.in_ok-first.first c.in_ok-second.second c.in_ok-third.third c.in_ok-fourth.fourth c.in_ok-len.len _
    c.in_ok-first.ensures.found c.in_ok-second.ensures.found c.in_ok-third.ensures.found c.in_ok-fourth.ensures.found
    c.in_ok-len.ensures.found (omega arith) (c.new.ensures ∙ ap (λ a. written_as a c.in_ok-len.len) c.from_be_bytes.ensures)

pub returns-in_err-first-clause-usual : goal.returns-in_err-first-clause-usual
returns-in_err-first-clause-usual c rest begins ends =
    let p = pieces c.args.text.now rest begins in
    absurd (c.in_err-first.ensures.usual p.after_first p.first dot_ends)

pub returns-in_err-second-clause-usual : goal.returns-in_err-second-clause-usual
returns-in_err-second-clause-usual c rest begins ends =
    let p = pieces c.args.text.now rest begins in
    let e1 = c.in_ok-first.ensures.usual p.after_first p.first dot_ends in
    absurd (c.in_err-second.ensures.usual p.after_second (moved dot p.after_second e1 p.second) dot_ends)

pub returns-in_err-third-clause-usual : goal.returns-in_err-third-clause-usual
returns-in_err-third-clause-usual c rest begins ends =
    let p = pieces c.args.text.now rest begins in
    let e1 = c.in_ok-first.ensures.usual p.after_first p.first dot_ends in
    let e2 = c.in_ok-second.ensures.usual p.after_second (moved dot p.after_second e1 p.second) dot_ends in
    absurd (c.in_err-third.ensures.usual p.after_third (moved dot p.after_third e2 p.third) dot_ends)

pub returns-in_err-fourth-clause-usual : goal.returns-in_err-fourth-clause-usual
returns-in_err-fourth-clause-usual c rest begins ends =
    let p = pieces c.args.text.now rest begins in
    let e1 = c.in_ok-first.ensures.usual p.after_first p.first dot_ends in
    let e2 = c.in_ok-second.ensures.usual p.after_second (moved dot p.after_second e1 p.second) dot_ends in
    let e3 = c.in_ok-third.ensures.usual p.after_third (moved dot p.after_third e2 p.third) dot_ends in
    absurd (c.in_err-fourth.ensures.usual p.after_fourth (moved slash p.after_fourth e3 p.fourth) slash_ends)

pub returns-in_err-len-clause-usual : goal.returns-in_err-len-clause-usual
returns-in_err-len-clause-usual c rest begins ends =
    let p = pieces c.args.text.now rest begins in
    let e1 = c.in_ok-first.ensures.usual p.after_first p.first dot_ends in
    let e2 = c.in_ok-second.ensures.usual p.after_second (moved dot p.after_second e1 p.second) dot_ends in
    let e3 = c.in_ok-third.ensures.usual p.after_third (moved dot p.after_third e2 p.third) dot_ends in
    let e4 = c.in_ok-fourth.ensures.usual p.after_fourth (moved slash p.after_fourth e3 p.fourth) slash_ends in
    absurd (c.in_err-len.ensures.usual rest (bits_number c.in_ok-fourth.rest.now rest (moved_bits e4 p.bits)) ends)

pub returns-then-len-from-clause-usual : goal.returns-then-len-from-clause-usual
returns-then-len-from-clause-usual c rest begins ends =
    let p = pieces c.args.text.now rest begins in
    let e1 = c.in_ok-first.ensures.usual p.after_first p.first dot_ends in
    let e2 = c.in_ok-second.ensures.usual p.after_second (moved dot p.after_second e1 p.second) dot_ends in
    let e3 = c.in_ok-third.ensures.usual p.after_third (moved dot p.after_third e2 p.third) dot_ends in
    let e4 = c.in_ok-fourth.ensures.usual p.after_fourth (moved slash p.after_fourth e3 p.fourth) slash_ends in
    let read = c.in_ok-len.ensures.usual rest (bits_number c.in_ok-fourth.rest.now rest (moved_bits e4 p.bits)) ends in
    omega (arith, read.0, p.bits.wanted.1, c.if-len-from.true, c.from.ensures)

pub returns-clause-usual : goal.returns-clause-usual
returns-clause-usual c rest begins ends =
    let p = pieces c.args.text.now rest begins in
    let e1 = c.in_ok-first.ensures.usual p.after_first p.first dot_ends in
    let e2 = c.in_ok-second.ensures.usual p.after_second (moved dot p.after_second e1 p.second) dot_ends in
    let e3 = c.in_ok-third.ensures.usual p.after_third (moved dot p.after_third e2 p.third) dot_ends in
    let e4 = c.in_ok-fourth.ensures.usual p.after_fourth (moved slash p.after_fourth e3 p.fourth) slash_ends in
    (c.in_ok-len.ensures.usual rest (bits_number c.in_ok-fourth.rest.now rest (moved_bits e4 p.bits)) ends).1
