use Rattle.std.proofs.Common.{◌||◌, [], ◌++◌, refl, sym, ap, ◌∙◌, arith}
use Rattle.prefix_patterns.specs.Matching.{matches_any}
use Rattle.prefix_patterns.proofs.Leaves.{next_leaf, scanned_all}
use Rattle.prefix_patterns.proofs.leaf.any_leaf_matches.Goals as goal

pub loop-leaf-init : goal.loop-leaf-init
loop-leaf-init c = λ patterns are. ([], patterns, refl, are, refl)

pub returns-then-matches : goal.returns-then-matches
returns-then-matches c = λ patterns are.
    let (done, rest, split, left, none_yet) = c.loop-leaf.invariant patterns are in
    let prefix = c.args.prefix.now in
    let next = next_leaf c.args.leaves.now prefix patterns done rest c.loop-leaf.leaf-index split left none_yet
    _ c.loop-leaf-test.true in
    let hit = sym c.if-matches.true ∙ c.matches.ensures next.few next.leaf in
    sym (next.all_told ∙ ap (λ b. b || matches_any prefix next.left) (sym hit))

pub loop-leaf-preserved : goal.loop-leaf-preserved
loop-leaf-preserved c = λ patterns are.
    let (done, rest, split, left, none_yet) = c.loop-leaf.invariant patterns are in
    let prefix = c.args.prefix.now in
    let next = next_leaf c.args.leaves.now prefix patterns done rest c.loop-leaf.leaf-index split left none_yet
    _ c.loop-leaf-test.true in
    let miss = sym (c.matches.ensures next.few next.leaf) ∙ c.if-matches.false in
    (done ++ next.few, next.left, next.split_more, next.are_left, next.told ∙ miss)

pub returns : goal.returns
returns c = λ patterns are.
    let (done, rest, split, left, none_yet) = c.loop-leaf.invariant patterns are in
    sym (scanned_all c.args.leaves.now c.args.prefix.now patterns done rest c.loop-leaf.leaf-index split left none_yet (omega arith))
