-- Each end follows from how the lines were answered.
use Rattle.std.proofs.lemmas.Result.{IfErr-weaker, IfOk-weaker}
use Rattle.line_protocol.proofs.Viewed.{if_known}
use Rattle.router_operator.proofs.LookingAlone.{broken_off, served}
use Rattle.router_operator.proofs.looker.Looker.run.Goals as goal

pub returns-clause-served : goal.returns-clause-served
returns-clause-served g c =
    let left = g.I.Read.remaining c.answer_lines_within.new.reader in
    let held = g.W.Write.contents c.args.writer.now in
    let holds = g.W.Write.contents c.answer_lines_within.new.writer in
    IfOk-weaker c.answer_lines_within.result _ _
    (λ n h. if_known (g.I.Read.remaining c.args.reader.now)
    (λ input f. served c.args.self.now c.answer_lines_within.new.service input left held holds n f) h)
    c.answer_lines_within.ensures.ok

pub returns-clause-broken_off : goal.returns-clause-broken_off
returns-clause-broken_off g c =
    let left = g.I.Read.remaining c.answer_lines_within.new.reader in
    let held = g.W.Write.contents c.args.writer.now in
    let holds = g.W.Write.contents c.answer_lines_within.new.writer in
    IfErr-weaker c.answer_lines_within.result _ _
    (λ fault h. if_known (g.I.Read.remaining c.args.reader.now)
    (λ input f. broken_off fault c.args.self.now c.answer_lines_within.new.service input left held holds f) h)
    c.answer_lines_within.ensures.err
