-- The script was answered to its end, and then its page.
use Rattle.line_protocol.proofs.Viewed.{finishes, if_known}
use Rattle.domain_cmds.specs.Script.{AnswersLine}
use Rattle.domain_cmds.proofs.Leaving.{pages}
use Rattle.domain_cmds.proofs.paged.run_paged_domain.Goals as goal

pub returns-in-Ok : goal.returns-in-Ok
returns-in-Ok g c =
    if_known _
    (λ input f. pages c.args.name.now input _ _ _ _ _ _ _ _ c.new.ensures
    (finishes (λ s. s.engine.planning) AnswersLine (record { engine = c.new.result; watcher = c.args.watcher }) c.answer_lines.new.service input _ _ _ _ f)
    c.in-Ok.ensures)
    c.in_ok-refused.ensures.ok
