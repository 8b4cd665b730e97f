-- Each end follows from how the lines were answered.
use Rattle.std.proofs.lemmas.Result.{IfErr-weaker, IfOk-weaker}
use Rattle.operator_cmds.specs.Script.{AnswersLine, fresh}
use Rattle.router_script.specs.State.{script_of}
use Rattle.operator_cmds.proofs.Ending.{goes_on}
use Rattle.operator_cmds.proofs.Unended.{broken_off, carried_out}
use Rattle.line_protocol.proofs.Viewed.{finishes, if_known, stops}
use Rattle.router_script.proofs.script.run_script.Goals as goal

pub returns-clause-finished : goal.returns-clause-finished
returns-clause-finished g c =
    IfOk-weaker c.answer_lines.result _ _
    (λ n h. if_known _
    (λ input f. carried_out AnswersLine goes_on fresh _ _ input _ _ _ n c.new-script.ensures
    (finishes script_of AnswersLine c.new-script.result c.answer_lines.new.service input _ _ _ n f)) h)
    c.answer_lines.ensures.ok

pub returns-clause-broken_off : goal.returns-clause-broken_off
returns-clause-broken_off g c =
    IfErr-weaker c.answer_lines.result _ _
    (λ fault h. if_known _
    (λ input f. broken_off AnswersLine goes_on fault fresh _ _ input _ _ _ c.new-script.ensures
    (stops script_of AnswersLine fault c.new-script.result c.answer_lines.new.service input _ _ _ f)) h)
    c.answer_lines.ensures.err
