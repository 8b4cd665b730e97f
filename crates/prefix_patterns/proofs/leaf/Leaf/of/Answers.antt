use Rattle.std.proofs.Common.{◌≡◌, ◌+◌, ◌<◌, [], ◌∷◌, ◌++◌, length, take, sym, ap, ◌∙◌, subst, arith}
use Rattle.std.proofs.lemmas.List.{length-take-le, take_all, take_more}
use Rattle.prefix_patterns.specs.Trees.{IsLeafOf}
use Rattle.prefix_patterns.proofs.leaf.Leaf.of.Goals as goal

pub loop-at-preserved : goal.loop-at-preserved
loop-at-preserved c =
    let part = c.args.part.now in
    let at = c.loop-at.at in
    let p = c.index-part-at.result in
    let inside : at < length part = omega arith in
    let more : take at part ++ p ∷ [] ≡ take (at + 1) part =
    ap (λ q. take at part ++ q ∷ []) c.index-part-at.is ∙ sym (take_more part at p inside) in
    subst (IsLeafOf c.put.new.self) more
    (c.put.ensures (take at part) (length-take-le at part (omega arith)) c.loop-at.invariant)

pub returns : goal.returns
returns c =
    let part = c.args.part.now in
    subst (IsLeafOf c.loop-at.leaf) (take_all c.loop-at.at part (omega arith)) c.loop-at.invariant
