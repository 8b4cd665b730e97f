use Rattle.std.proofs.Common.{◌+◌, ◌≤◌, [], get_or, length, sym, ◌∙◌, subst, arith}
use Rattle.std.proofs.lemmas.Option.{slice_get_within}
use Rattle.prefix_patterns.proofs.Reached.{at_leaf, leaf_within, node_within, met_here, over_from_none, own_found, ended, gone_down}
use Rattle.prefix_patterns.specs.Trees.{Reached}
use Rattle.prefix_patterns.specs.declared.leaf.Leaf.{Leaf}
use Rattle.prefix_patterns.specs.declared.tree.Node.{Node}
use Rattle.prefix_patterns.specs.declared.tree.Subtree.{Subtree}
use Rattle.prefix_patterns.specs.declared.tree.Subtree.TheVariants.{Few}
use Rattle.prefix_patterns.proofs.tree.walk.Goals as goal

-- what a read would give where nothing is
abbrev no_leaf : Leaf
no_leaf = record { addresses = []; masks = []; lows = []; highs = [] }

abbrev no_node : Node
no_node = record { own = record { mask = 0 }; below = record { mask = 0 }; zero = Few 0; one = Few 0 }

pub down-init : goal.down-init
down-init c = record { within = c.requires.within; some = c.requires.reached; told = λ all h. h }

pub bounds-leaves-at : goal.bounds-leaves-at
bounds-leaves-at c =
    let (all, h) = c.down.invariant.some in
    let reached = rw c.in-Few.is at (c.down.invariant.told all h) in
    leaf_within c.args.nodes.now c.args.leaves.now c.args.prefix.now all c.down.depth c.in-Few.at reached

pub offset_bounds-leaves-at : goal.offset_bounds-leaves-at
offset_bounds-leaves-at c = let within = bounds-leaves-at c in omega arith

pub bounds-nodes-at : goal.bounds-nodes-at
bounds-nodes-at c =
    let (all, h) = c.down.invariant.some in
    let reached = rw c.in-Inner.is at (c.down.invariant.told all h) in
    node_within c.args.nodes.now c.args.leaves.now c.args.prefix.now all c.down.depth c.in-Inner.at reached

pub offset_bounds-nodes-at : goal.offset_bounds-nodes-at
offset_bounds-nodes-at c = let within = bounds-nodes-at c in omega arith

pub returns-in-Few : goal.returns-in-Few
returns-in-Few c = λ all h.
    let reached = rw c.in-Few.is at (c.down.invariant.told all h) in
    let (part, of, same) =
    at_leaf c.args.nodes.now c.args.leaves.now c.args.prefix.now all c.down.depth c.in-Few.at reached no_leaf in
    c.matches.ensures part of ∙ sym same

pub returns-then-has : goal.returns-then-has
returns-then-has c = λ all h.
    let nodes = c.args.nodes.now in
    let leaves = c.args.leaves.now in
    let prefix = c.args.prefix.now in
    let node = get_or nodes c.in-Inner.at no_node in
    let reached = rw c.in-Inner.is at (c.down.invariant.told all h) in
    let m = met_here nodes leaves prefix all c.down.depth c.in-Inner.at no_node reached in
    let limit : length prefix ≤ 32 = omega (arith, c.len-len.ensures.bits, c.len-len.ensures.limit) in
    let has = rw c.len-len.ensures.bits at (sym c.has.ensures ∙ c.if-has.true) in
    sym (own_found nodes leaves prefix all c.down.depth node limit m has)

pub returns-in_default : goal.returns-in_default
returns-in_default c = λ all h.
    let nodes = c.args.nodes.now in
    let leaves = c.args.leaves.now in
    let prefix = c.args.prefix.now in
    let node = get_or nodes c.in-Inner.at no_node in
    let reached = rw c.in-Inner.is at (c.down.invariant.told all h) in
    let m = met_here nodes leaves prefix all c.down.depth c.in-Inner.at no_node reached in
    let limit : length prefix ≤ 32 = omega (arith, c.len-len.ensures.bits, c.len-len.ensures.limit) in
    let over = over_from_none prefix c.down.depth (sym c.bit.ensures.value ∙ c.in_default.is) in
    let has = rw c.len-len.ensures.bits at c.has-in_default.ensures in
    has ∙ sym (ended nodes leaves prefix all c.down.depth node limit m over)

pub down-smaller : goal.down-smaller
down-smaller c =
    let inside = slice_get_within c.args.prefix.now c.down.depth c.in-Some.bit (sym c.bit.ensures.value ∙ c.in-Some.is) in
    omega arith

pub down-preserved : goal.down-preserved
down-preserved c =
    let nodes = c.args.nodes.now in
    let leaves = c.args.leaves.now in
    let prefix = c.args.prefix.now in
    let depth = c.down.depth in
    let node = get_or nodes c.in-Inner.at no_node in
    let bit = c.in-Some.bit in
    let there = sym c.bit.ensures.value ∙ c.in-Some.is in
    let inside = slice_get_within prefix depth bit there in
    let limit : length prefix ≤ 32 = omega (arith, c.len-len.ensures.bits, c.len-len.ensures.limit) in
    let own = rw c.len-len.ensures.bits at (sym c.has.ensures ∙ c.if-has.false) in
    record {
      within = omega arith;
      some = c.down.invariant.some;
      told = λ all h.
          let reached = rw c.in-Inner.is at (c.down.invariant.told all h) in
          let m = met_here nodes leaves prefix all depth c.in-Inner.at no_node reached in
          subst (λ (s : Subtree). Reached nodes leaves prefix all (depth + 1) s) (sym c.child-subtree.ensures)
          (gone_down nodes leaves prefix all depth node limit m bit own there);
    }
