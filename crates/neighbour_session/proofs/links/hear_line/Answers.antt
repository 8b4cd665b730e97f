use Rattle.std.proofs.Common.{◌≡◌, ◌∙◌, None, ap, sym}
use Rattle.link_handshake.specs.Reading.{said_by as line_says}
use Rattle.neighbour_session.proofs.Linking.{line_over, line_told}
use Rattle.neighbour_session.proofs.links.hear_line.Goals as goal

pub returns-in-Ok-clause-told : goal.returns-in-Ok-clause-told
returns-in-Ok-clause-told g c =
    let read = c.in-Ok.ensures.line in
    line_told c.in_session.result c.in-Ok.text.items c.read_line.result c.line.result c.args.input.now.left c.next_line.new.self
    c.in_session.ensures read.1 read.2 (ap line_says (sym c.as_slice.ensures.value) ∙ sym c.read_line.ensures)

pub returns-in-Ok-clause-over : goal.returns-in-Ok-clause-over
returns-in-Ok-clause-over g c =
    let read = c.in-Ok.ensures.line in
    line_over c.in_session.result c.in-Ok.text.items c.read_line.result c.line.result c.args.input.now.left c.next_line.new.self
    (c.args.input.now.end ≡ None) c.in_session.ensures c.line.ensures read.2 (ap line_says (sym c.as_slice.ensures.value) ∙ sym c.read_line.ensures)

pub returns-in-Err-clause-over : goal.returns-in-Err-clause-over
returns-in-Err-clause-over g c = λ unended. (c.line-in-Err.ensures, (c.in-Err.ensures.end unended).1)
