use Rattle.std.proofs.Common.{inl, inr, refl}
use Rattle.std.proofs.lemmas.Result.{err_from_is_err_and}
use Rattle.line_protocol.proofs.EngineLemmas.{break_off, either_front, written_front}
use Rattle.line_protocol.proofs.engine.answer_block.Goals as goal

pub returns-in_err-write_text-clause-err : goal.returns-in_err-write_text-clause-err
returns-in_err-write_text-clause-err g c =
    let p = err_from_is_err_and c.from_residual.result c.from_residual.ensures.1 in
    let was = c.args.progress.now in
    let now = c.answer_whole_lines-answered.new.progress in
    let front = either_front g.S.Service.answers g.S.Service.refuses c.answer_whole_lines-answered.result c.args.service.now
    c.answer_whole_lines-answered.new.service c.args.bytes.now was.number now.number was.refused now.refused now.over
    was.text.items now.text.items c.answer_whole_lines-answered.ensures.ok c.answer_whole_lines-answered.ensures.err in
    let written = rw c.as_slice.ensures.value at c.in_err-write_text.ensures.err in
    rw (p.1, p.2) (break_off g.S.Service.answers g.S.Service.refuses c.in_err-write_text.field-0.0 c.args.service.now c.answer_whole_lines-answered.new.service c.args.bytes.now was.number
    now.number was.refused now.refused now.over was.text.items now.text.items
    (g.W.Write.contents c.args.writer.now) (g.W.Write.contents c.write_text.new.writer) front c.requires.written (inl written.0)
    (written_front c.in_err-write_text.field-0.0 (g.W.Write.contents c.args.writer.now)
    (g.W.Write.contents c.write_text.new.writer) now.text.items written))

pub returns-in-Err-clause-err : goal.returns-in-Err-clause-err
returns-in-Err-clause-err g c =
    let was = c.args.progress.now in
    let now = c.answer_whole_lines-answered.new.progress in
    break_off g.S.Service.answers g.S.Service.refuses _ c.args.service.now c.answer_whole_lines-answered.new.service c.args.bytes.now was.number now.number was.refused now.refused now.over
    was.text.items now.text.items _ _ c.in-Err.ensures.err c.requires.written (inr refl)
    (rw c.as_slice.ensures.value at c.in_ok-write_text.ensures.ok)
