use Rattle.std.proofs.Common.{◌+◌, ◌∙◌, true, sym, ap, arith}
use Rattle.line_protocol.specs.Answers.{is_end}
use Rattle.line_protocol.proofs.RunLemmas.{answered}
use Rattle.line_protocol.proofs.engine.answer_line.Goals as goal

pub returns-in-Answered-clause-ok : goal.returns-in-Answered-clause-ok
returns-in-Answered-clause-ok g c =
    let p = c.args.progress.now in
    answered g.S.Service.answers c.args.service.now c.answer.new.self p.number c.args.line.now p.text.items
    c.answer.new.out.items c.in-Ok.reply p.refused p.refused p.over
    (sym c.is_skipped.ensures ∙ c.if-is_skipped.false) c.in-Ok.ensures.ok (rw c.in-Answered.is (omega arith))
    (c.requires.goes_on ∙ ap is_end (sym c.in-Answered.is))

pub returns-in-Refused-clause-ok : goal.returns-in-Refused-clause-ok
returns-in-Refused-clause-ok g c =
    let p = c.args.progress.now in
    answered g.S.Service.answers c.args.service.now c.answer.new.self p.number c.args.line.now p.text.items
    c.answer.new.out.items c.in-Ok.reply p.refused (p.refused + 1) p.over
    (sym c.is_skipped.ensures ∙ c.if-is_skipped.false) c.in-Ok.ensures.ok (rw c.in-Refused.is (omega arith))
    (c.requires.goes_on ∙ ap is_end (sym c.in-Refused.is))

pub returns-in-Ended-clause-ok : goal.returns-in-Ended-clause-ok
returns-in-Ended-clause-ok g c =
    let p = c.args.progress.now in
    answered g.S.Service.answers c.args.service.now c.answer.new.self p.number c.args.line.now p.text.items
    c.answer.new.out.items c.in-Ok.reply p.refused (p.refused + 1) true
    (sym c.is_skipped.ensures ∙ c.if-is_skipped.false) c.in-Ok.ensures.ok (rw c.in-Ended.is (omega arith)) (ap is_end (sym c.in-Ended.is))
