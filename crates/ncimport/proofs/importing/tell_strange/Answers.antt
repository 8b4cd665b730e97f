use Rattle.std.proofs.Common.{false}
use Rattle.std.proofs.lemmas.List.{get_or_default}
use Rattle.program_console.specs.Following.{FindsNext}
use Rattle.program_console.proofs.Following.{none_done, one_more}
use Rattle.ncimport.specs.Importing.{TellsWord}
use Rattle.ncimport.proofs.importing.tell_strange.Goals as goal

pub loop-word-init : goal.loop-word-init
loop-word-init g c = none_done false (FindsNext (TellsWord c.args.placed.now)) c.args.words.now _

pub loop-word-preserved : goal.loop-word-preserved
loop-word-preserved g c =
    let words = c.args.words.now in
    let k = c.loop-word.word-index in
    one_more false (FindsNext (TellsWord c.args.placed.now)) words k _ _ _ _ c.loop-word.has_any c.is_any-has_any.result c.loop-word-test.true
    (get_or_default words k _ _ c.loop-word-test.true) c.loop-word.invariant (c.in_ok-one.one, c.in_ok-one.ensures, c.is_any-has_any.ensures)
