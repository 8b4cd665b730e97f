-- A text was answered, and nothing was read of standard input.
use Rattle.std.proofs.Common.{ℕ, List, Option, Some}
use Rattle.line_protocol.specs.declared.faults.StreamFault.{StreamFault}
use Rattle.domain_cmds.specs.Running.{IsBrokenOff, IsCarriedOut}
use Rattle.ncroute.proofs.Taken.{answered, left_off}
use Rattle.ncroute.proofs.script.answer_lines.Goals as goal

pub returns-in-Text-clause-finished : goal.returns-in-Text-clause-finished
returns-in-Text-clause-finished g c =
    let held = g.W.Write.contents c.console.inside.writer in
    let holds = g.W.Write.contents c.answer-in-Text.new.writer in
    rw (c.in-Text.is, ← c.console.view_is)
    (answered (λ (refused : ℕ) (input : List ℕ) (left : Option (List ℕ)). IsCarriedOut input left held holds refused)
    c.in-Text.text.now (Some c.answer-in-Text.new.reader.now) (g.R.Read.remaining c.console.inside.reader) c.answer-in-Text.result
    c.answer-in-Text.ensures.finished)

pub returns-in-Text-clause-left_off : goal.returns-in-Text-clause-left_off
returns-in-Text-clause-left_off g c =
    let held = g.W.Write.contents c.console.inside.writer in
    let holds = g.W.Write.contents c.answer-in-Text.new.writer in
    rw (c.in-Text.is, ← c.console.view_is)
    (left_off (λ (fault : StreamFault) (input : List ℕ) (left : Option (List ℕ)). IsBrokenOff fault input left held holds)
    c.in-Text.text.now (Some c.answer-in-Text.new.reader.now) (g.R.Read.remaining c.console.inside.reader) c.answer-in-Text.result
    c.answer-in-Text.ensures.left_off)
