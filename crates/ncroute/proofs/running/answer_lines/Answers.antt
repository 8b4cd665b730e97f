-- A text was answered, and nothing was read of standard input.
use Rattle.std.proofs.Common.{ℕ, List, Option, Some}
use Rattle.std.specs.Prelude.{is_some}
use Rattle.router_script.specs.Faults.{stream_of}
use Rattle.router_script.specs.Running.{IsSaved, IsSavedInPart}
use Rattle.router_script.specs.declared.fault.SavingFault.{SavingFault}
use Rattle.ncroute.proofs.Taken.{answered, left_off}
use Rattle.ncroute.proofs.running.answer_lines.Goals as goal

pub returns-in-Text-clause-finished : goal.returns-in-Text-clause-finished
returns-in-Text-clause-finished g c =
    let held = g.W.Write.contents c.console.inside.writer in
    let holds = g.W.Write.contents c.answer-in-Text.new.writer in
    let kept = g.V.Write.contents c.args.saver in
    let keeps = g.V.Write.contents c.answer-in-Text.result.1 in
    rw (c.in-Text.is, ← c.console.view_is)
    (answered (λ (refused : ℕ) (input : List ℕ) (left : Option (List ℕ)). IsSaved (is_some c.args.how.now.save) c.args.how.now.stops c.args.filters.now
    input left held holds refused kept keeps c.answer-in-Text.result.2) c.in-Text.text.now (Some c.answer-in-Text.new.reader.now)
    (g.R.Read.remaining c.console.inside.reader) c.answer-in-Text.result.0 c.answer-in-Text.ensures.finished)

pub returns-in-Text-clause-left_off : goal.returns-in-Text-clause-left_off
returns-in-Text-clause-left_off g c =
    let held = g.W.Write.contents c.console.inside.writer in
    let holds = g.W.Write.contents c.answer-in-Text.new.writer in
    let kept = g.V.Write.contents c.args.saver in
    let keeps = g.V.Write.contents c.answer-in-Text.result.1 in
    rw (c.in-Text.is, ← c.console.view_is)
    (left_off (λ (fault : SavingFault) (input : List ℕ) (left : Option (List ℕ)). IsSavedInPart (stream_of fault) (is_some c.args.how.now.save)
    c.args.how.now.stops c.args.filters.now input left held holds kept keeps) c.in-Text.text.now (Some c.answer-in-Text.new.reader.now)
    (g.R.Read.remaining c.console.inside.reader) c.answer-in-Text.result.0 c.answer-in-Text.ensures.left_off)
