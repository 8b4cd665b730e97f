use Rattle.std.proofs.Common.{◌<◌, ◌∙◌, length, sym, ap, arith}
use Rattle.std.proofs.lemmas.List.{take_all}
use Rattle.refusal_words.specs.Shown.{columns_of}
use Rattle.refusal_words.proofs.Excerpts.{front_is}
use Rattle.refusal_words.proofs.explanation.front_within.Goals as goal

pub returns-then-columns-room : goal.returns-then-columns-room
returns-then-columns-room c =
    let here = c.columns_of-columns.ensures ∙ ap columns_of c.index-characters-i.is in
    sym (front_is c.args.most c.loop-i.i c.index-characters-i.result c.args.characters.now (omega (arith, c.loop-i.invariant))
    (λ _. omega (arith, c.loop-i.invariant, c.if-columns-room.true, here)))

pub returns : goal.returns
returns c =
    let cs = c.args.characters.now in
    sym (front_is c.args.most c.loop-i.i 0 cs (omega (arith, c.loop-i.invariant)) (λ (h : c.loop-i.i < length cs). absurd (omega (arith, h)))
    ∙ take_all c.loop-i.i cs (omega arith))
