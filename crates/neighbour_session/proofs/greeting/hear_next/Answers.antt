use Rattle.std.proofs.Common.{◌≡◌, ◌∙◌, inl, ap, sym}
use Rattle.link_handshake.specs.Reading.{said_by as line_says}
use Rattle.neighbour_session.proofs.Meeting.{no_more_heard, nothing_heard}
use Rattle.neighbour_session.proofs.greeting.hear_next.Goals as goal

pub returns-in-Ok-clause-said : goal.returns-in-Ok-clause-said
returns-in-Ok-clause-said g c =
    let read = c.in-Ok.ensures.line in
    record {
      readable = read.0;
      readable_on = read.1;
      line = inl (c.in-Ok.text.items, read.2, ap line_says (sym c.as_slice.ensures.value) ∙ sym c.read_line.ensures);
    }

pub returns-in-Err-clause-said : goal.returns-in-Err-clause-said
returns-in-Err-clause-said g c =
    nothing_heard c.said_without_line.result c.in-Err.why c.args.input.now c.next_line.new.self c.said_without_line.ensures.said c.requires
    (c.in-Err.ensures.end c.requires)

pub returns-in-Err-clause-end : goal.returns-in-Err-clause-end
returns-in-Err-clause-end g c =
    no_more_heard c.said_without_line.result c.in-Err.why c.line.result c.args.input.now c.next_line.new.self c.said_without_line.ensures.end
    c.line.ensures (c.in-Err.ensures.end c.requires).0
