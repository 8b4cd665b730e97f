-- Each end follows from how the lines were answered.
use Rattle.std.proofs.lemmas.Result.{IfErr-weaker, IfOk-weaker}
use Rattle.std.specs.Prelude.{None}
use Rattle.operator_cmds.proofs.Unended.{broken_off, carried_out}
use Rattle.line_protocol.proofs.Viewed.{finishes, if_known, stops}
use Rattle.domain_cmds.specs.Script.{AnswersLine}
use Rattle.domain_cmds.proofs.Ending.{goes_on}
use Rattle.domain_cmds.proofs.engine.run_watched_domain.Goals as goal

pub returns-clause-finished : goal.returns-clause-finished
returns-clause-finished g c =
    IfOk-weaker c.answer_lines.result _ _
    (λ n h. if_known _
    (λ input f. carried_out AnswersLine goes_on None _ _ input _ _ _ n c.new.ensures
    (finishes (λ s. s.engine.planning) AnswersLine (record { engine = c.new.result; watcher = c.args.watcher }) c.answer_lines.new.service input _ _ _ n f)) h)
    c.answer_lines.ensures.ok

pub returns-clause-broken_off : goal.returns-clause-broken_off
returns-clause-broken_off g c =
    IfErr-weaker c.answer_lines.result _ _
    (λ fault h. if_known _
    (λ input f. broken_off AnswersLine goes_on fault None _ _ input _ _ _ c.new.ensures
    (stops (λ s. s.engine.planning) AnswersLine fault (record { engine = c.new.result; watcher = c.args.watcher }) c.answer_lines.new.service input _ _ _ f)) h)
    c.answer_lines.ensures.err
