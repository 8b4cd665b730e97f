use Rattle.std.proofs.Common.{◌≡◌, ℕ, ◌+◌, ◌-◌, ◌≤◌, true, false, Some, List, [], ◌∷◌, ◌++◌, length, take, drop}
use Rattle.std.proofs.Common.{slice_get, slice_range, sym, ap, ◌∙◌, subst, arith, append-nil}
use Rattle.std.proofs.lemmas.List.{length-drop, take_all}
use Rattle.std.proofs.Math.Seq.{drop-append_seam, take-append_seam}
use Rattle.prefix_patterns.specs.Matching.{PrefixPattern}
use Rattle.prefix_patterns.specs.Trees.{IsUnion, IsUnionOfEnds, StandsFor, side, tree_levels}
use Rattle.prefix_patterns.specs.declared.tree.Node.{Node}
use Rattle.prefix_patterns.proofs.Nodes.{last_pushed, node_stands, stands_in_longer}
use Rattle.prefix_patterns.proofs.tree.+grow.Goals as goal

-- what follows the items that were there
appended : {A : Type 0} (old more new : List A) (end : ℕ) → end ≡ length old → new ≡ old ++ more → drop end new ≡ more
appended old more new end e is = rw (e, is) (drop-append_seam old more)

-- the items that were there
cut_back : {A : Type 0} (old more new : List A) (end : ℕ) → end ≡ length old → new ≡ old ++ more → take end new ≡ old
cut_back old more new end e is = rw (e, is) (take-append_seam old more)

-- the items from a place on
to_end : (xs ys : List PrefixPattern) (from : ℕ) → xs ≡ ys → slice_range xs from (length xs) ≡ drop from ys
to_end xs ys from e = rw e (take_all (length ys - from) (drop from ys) (omega (arith, length-drop from ys)))

pub returns-clause-stands : goal.returns-clause-stands
returns-clause-stands t c = λ levels e.
    let old = c.args.part.now.items in
    let part = drop c.args.from old in
    let depth = c.args.depth in
    let end = c.len-end.result in
    let nodes = c.push.new.self.items in
    let last = c.grow-2.new.nodes.items in
    let leaves = c.grow-2.new.leaves.items in
    let node : Node =
    record { own = c.lengths_of.result.0; below = c.lengths_of.result.1; zero = c.in_ok-zero.zero; one = c.in_ok-one.one } in
    let shallow : depth ≤ 32 = c.requires.shallow (omega (arith, c.len-end.ensures)) in
    let at_end : end ≡ length old = omega (arith, c.len-end.ensures, c.args.part.now.ok.0) in
    let grown : nodes ≡ last ++ node ∷ [] = c.in_ok-push.ensures.items in
    let is : slice_get nodes (c.len.result - 1) ≡ Some node = last_pushed last nodes node c.len.result grown
    (omega (arith, c.len.ensures, c.in_ok-push.ensures.len, c.grow-2.new.nodes.ok.0)) in
    let range = to_end c.as_slice-2.result.now old c.args.from c.as_slice-2.ensures.value in
    let own : IsUnionOfEnds depth c.lengths_of.result.0 part =
    subst (IsUnionOfEnds depth c.lengths_of.result.0) range c.lengths_of.ensures.own in
    let below : IsUnion c.lengths_of.result.1 part = subst (IsUnion c.lengths_of.result.1) range c.lengths_of.ensures.below in
    let zero_part : drop end c.push_side.new.part.items ≡ side false depth part =
    appended old (side false depth part) c.push_side.new.part.items end at_end c.in_ok-push_side.ensures.items in
    let back : c.truncate.new.self.items ≡ old =
    c.truncate.ensures.items ∙ ap (take end) c.in_ok-zero.ensures.part
    ∙ cut_back old (side false depth part) c.push_side.new.part.items end at_end c.in_ok-push_side.ensures.items in
    let longer : c.push_side-2.new.part.items ≡ old ++ side true depth part = rw back at c.in_ok-push_side-2.ensures.items in
    let one_part : drop end c.push_side-2.new.part.items ≡ side true depth part =
    appended old (side true depth part) c.push_side-2.new.part.items end at_end longer in
    let zeros : (l : ℕ) → l + (depth + 1) ≡ tree_levels → StandsFor l nodes leaves (depth + 1) c.in_ok-zero.zero (side false depth part) =
    λ l fits.
    let zero = c.in_ok-zero.zero in
    let first = c.grow.new.nodes.items in
    let (more, kept) = c.in_ok-one.ensures.nodes in
    let (others, wider) = c.in_ok-one.ensures.leaves in
    let before = c.grow.new.leaves.items in
    let there = rw zero_part at (c.in_ok-zero.ensures.stands l fits) in
    let later = stands_in_longer l first last more before leaves others (depth + 1) zero (side false depth part) kept wider there in
    stands_in_longer l last nodes (node ∷ []) leaves leaves [] (depth + 1) zero (side false depth part) grown
    (sym (append-nil leaves)) later in
    let ones : (l : ℕ) → l + (depth + 1) ≡ tree_levels → StandsFor l nodes leaves (depth + 1) c.in_ok-one.one (side true depth part) =
    λ l fits.
    let there = rw one_part at (c.in_ok-one.ensures.stands l fits) in
    stands_in_longer l last nodes (node ∷ []) leaves leaves [] (depth + 1) c.in_ok-one.one (side true depth part) grown
    (sym (append-nil leaves)) there in
    node_stands levels nodes leaves (c.len.result - 1) depth node part shallow is own below zeros ones e
