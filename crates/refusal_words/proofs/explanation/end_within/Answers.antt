use Rattle.std.proofs.Common.{◌∙◌, sym, ap, arith}
use Rattle.std.proofs.lemmas.List.{take_rest}
use Rattle.refusal_words.specs.Shown.{columns_of}
use Rattle.refusal_words.proofs.Excerpts.{end_is, end_is_whole}
use Rattle.refusal_words.proofs.explanation.end_within.Goals as goal

pub returns-then-columns-room : goal.returns-then-columns-room
returns-then-columns-room c =
    let cs = c.args.characters.now in
    let here = c.columns_of-columns.ensures ∙ ap columns_of c.index-characters-start.is in
    take_rest cs c.loop-start.start
    ∙ sym (end_is c.args.most c.loop-start.start c.index-characters-start.result cs c.loop-start-test.true c.loop-start.invariant.within
    (omega (arith, c.loop-start.invariant.taken)) (omega (arith, c.loop-start.invariant.taken, c.if-columns-room.true, here)))

pub returns : goal.returns
returns c =
    sym (end_is_whole c.args.most c.loop-start.start c.args.characters.now c.loop-start-test.false
    (omega (arith, c.loop-start.invariant.taken)))
