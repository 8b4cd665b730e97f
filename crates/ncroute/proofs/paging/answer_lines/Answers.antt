-- A text was answered, and nothing was read of standard input.
use Rattle.std.proofs.Common.{ℕ, List, Option, Some}
use Rattle.domain_cmds.specs.Paging.{PagesDomain}
use Rattle.domain_cmds.specs.declared.paged.Paged.{Paged}
use Rattle.ncroute.proofs.Taken.{answered}
use Rattle.ncroute.proofs.paging.answer_lines.Goals as goal

pub returns-in-Text-clause-finished : goal.returns-in-Text-clause-finished
returns-in-Text-clause-finished g c =
    let held = g.W.Write.contents c.console.inside.writer in
    let holds = g.W.Write.contents c.answer-in-Text.new.writer in
    let kept = g.P.Write.contents c.args.page.now in
    let keeps = g.P.Write.contents c.answer-in-Text.new.page in
    rw (c.in-Text.is, ← c.console.view_is)
    (answered (λ (paged : Paged) (input : List ℕ) (left : Option (List ℕ)). PagesDomain c.args.name.now input left held holds kept keeps paged)
    c.in-Text.text.now (Some c.answer-in-Text.new.reader.now) (g.R.Read.remaining c.console.inside.reader) c.answer-in-Text.result
    c.answer-in-Text.ensures.finished)
