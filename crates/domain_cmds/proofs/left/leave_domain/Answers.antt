-- What the script leaves behind follows from how its lines were answered.
use Rattle.line_protocol.proofs.Viewed.{finishes}
use Rattle.domain_cmds.specs.Script.{AnswersLine}
use Rattle.domain_cmds.proofs.Leaving.{leaves}
use Rattle.domain_cmds.proofs.left.leave_domain.Goals as goal

pub returns : goal.returns
returns g c =
    leaves c.args.script.now _ _ _ _ _ _ _ c.new.ensures
    (finishes (λ s. s.engine.planning) AnswersLine (record { engine = c.new.result; watcher = c.args.watcher }) c.answer_lines.new.service c.args.script.now
    _ _ _ _ c.in_ok-refused.ensures.ok)
    c.left_of.ensures
