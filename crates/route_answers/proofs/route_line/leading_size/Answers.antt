use Rattle.std.proofs.Common.{[], sym, ◌∙◌}
use Rattle.route_answers.proofs.PlainLines.{nothing_ends, size_behind, usual_size}
use Rattle.route_answers.proofs.route_line.leading_size.Goals as goal

pub returns-in_err-size-in-None-clause-usual : goal.returns-in_err-size-in-None-clause-usual
returns-in_err-size-in-None-clause-usual c size usual =
    let behind = size_behind c.args.given c.args.text.now c.in_ok-after_byte-in-None.field-0.now size c.in-None.is
    c.in_ok-after_byte-in-None.ensures.found usual in
    absurd (c.in_err-size-in-None.ensures.usual [] (usual_size behind.0 c.in_ok-after_byte-in-None.field-0.now behind.2 behind.1) nothing_ends)

pub returns-in_ok-size-in-None-clause-usual : goal.returns-in_ok-size-in-None-clause-usual
returns-in_ok-size-in-None-clause-usual c size usual =
    let behind = size_behind c.args.given c.args.text.now c.in_ok-after_byte-in-None.field-0.now size c.in-None.is
    c.in_ok-after_byte-in-None.ensures.found usual in
    let read = c.in_ok-size-in-None.ensures.usual [] (usual_size behind.0 c.in_ok-after_byte-in-None.field-0.now behind.2 behind.1) nothing_ends in
    (read.0 ∙ sym behind.3, read.1)
