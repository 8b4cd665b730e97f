use Rattle.std.proofs.Common.{◌<◌, length, arith}
use Rattle.std.proofs.lemmas.Bool.Decides.{nat_tests}
use Rattle.std.proofs.lemmas.Result.{IfOk-weaker, IfErr-weaker}
use Rattle.line_protocol.proofs.EngineLemmas.{rest_told, rest_broken}
use Rattle.line_protocol.proofs.engine.answer_rest.Goals as goal

pub returns-in-Ok-clause-ok : goal.returns-in-Ok-clause-ok
returns-in-Ok-clause-ok g c =
    let was = c.args.progress.now in
    let now = c.answer_line.new.progress in
    let some : 0 < length c.args.bytes.now = grind (arith, nat_tests) in
    IfOk-weaker c.write_text.result _ _
    (λ _ written. rest_told g.S.Service.answers g.S.Service.refuses c.args.service.now c.answer_line.new.service c.args.bytes.now was.number
    now.number was.refused now.refused now.over was.text.items now.text.items _ _
    c.requires.none some c.requires.written c.in-Ok.ensures.ok (rw c.as_slice.ensures.value at written))
    c.write_text.ensures.ok

pub returns-in-Ok-clause-err : goal.returns-in-Ok-clause-err
returns-in-Ok-clause-err g c =
    let was = c.args.progress.now in
    let now = c.answer_line.new.progress in
    let some : 0 < length c.args.bytes.now = grind (arith, nat_tests) in
    IfErr-weaker c.write_text.result _ _
    (λ fault written. rest_broken g.S.Service.answers g.S.Service.refuses fault c.args.service.now c.answer_line.new.service c.args.bytes.now
    was.number now.number was.refused now.refused now.over was.text.items now.text.items _ _
    c.requires.none some c.requires.written c.in-Ok.ensures.ok (rw c.as_slice.ensures.value at written))
    c.write_text.ensures.err
