-- What nodes stand for stays when nodes are added, and a node stands for what its subtrees do.
use Rattle.std.proofs.Common.{◌≡◌, ℕ, zero, suc, ◌+◌, ◌-◌, ◌<◌, ◌≤◌, Bool, true, false, Some, List, [], ◌∷◌, ◌++◌, length, take, drop}
use Rattle.std.proofs.Common.{refl, sym, ap, ◌∙◌, arith, slice_get, cond, get_or}
use Rattle.std.proofs.lemmas.List.{get_or-drop, length-drop}
use Rattle.std.proofs.lemmas.List.Elements.{filter_more}
use Rattle.prefix_patterns.specs.Index.{BucketStandsFor}
use Rattle.prefix_patterns.specs.Matching.{PrefixPattern}
use Rattle.prefix_patterns.specs.Trees.{HasEmptyFirst, IsUnion, IsUnionOfEnds, StandsFor, side, turns, tree_levels}
use Rattle.prefix_patterns.specs.declared.index.Place.{Place}
use Rattle.prefix_patterns.specs.declared.leaf.Leaf.{Leaf}
use Rattle.prefix_patterns.specs.declared.tree.Node.{Node}
use Rattle.prefix_patterns.specs.declared.tree.Subtree.{Subtree}
use Rattle.prefix_patterns.specs.declared.tree.Subtree.TheVariants.{Few, Inner}

slice_get-append : {A : Type 0} (xs ys : List A) (i : ℕ) (x : A) → slice_get xs i ≡ Some x → slice_get (xs ++ ys) i ≡ Some x
slice_get-append [] ys i x e = cc
slice_get-append (y ∷ xs) ys zero x e = e
slice_get-append (y ∷ xs) ys (suc i) x e = slice_get-append xs ys i x e

pub slice_get-last : {A : Type 0} (xs : List A) (x : A) → slice_get (xs ++ x ∷ []) (length xs) ≡ Some x
slice_get-last [] x = refl
slice_get-last (y ∷ xs) x = slice_get-last xs x

-- the item that was pushed last
pub last_pushed : {A : Type 0} (before items : List A) (item : A) (len : ℕ) → items ≡ before ++ item ∷ [] → len ≡ length before + 1 →
    slice_get items (len - 1) ≡ Some item
last_pushed before items item len is e =
    let at : len - 1 ≡ length before = omega arith in
    rw (at, is) (slice_get-last before item)

stands_longer : (levels : ℕ) (nodes more : List Node) (leaves others : List Leaf) (depth : ℕ) (subtree : Subtree)
    (part : List PrefixPattern) →
    StandsFor levels nodes leaves depth subtree part → StandsFor levels (nodes ++ more) (leaves ++ others) depth subtree part
stands_longer levels nodes more leaves others depth (Few at) part (leaf, is, of) = (leaf, slice_get-append leaves others at leaf is, of)
stands_longer zero nodes more leaves others depth (Inner at) part h = h
stands_longer (suc levels) nodes more leaves others depth (Inner at) part (node, is, own, below, zeros, ones) = (
  node,
  slice_get-append nodes more at node is,
  own,
  below,
  stands_longer levels nodes more leaves others (depth + 1) node.zero (side false depth part) zeros,
  stands_longer levels nodes more leaves others (depth + 1) node.one (side true depth part) ones,
)

pub stands_in_longer : (levels : ℕ) (nodes longer more : List Node) (leaves wider others : List Leaf) (depth : ℕ)
    (subtree : Subtree)
    (part : List PrefixPattern) → longer ≡ nodes ++ more → wider ≡ leaves ++ others → StandsFor levels nodes leaves depth subtree part →
    StandsFor levels longer wider depth subtree part
stands_in_longer levels nodes longer more leaves wider others depth subtree part e f h =
    rw (e, f) (stands_longer levels nodes more leaves others depth subtree part h)

-- and so does what the place of a bucket stands for
pub bucket_in_longer : (nodes longer more : List Node) (leaves wider others bucket_leaves fuller filled : List Leaf)
    (trees grown further : List Subtree) (place : Place) (part : List PrefixPattern) → longer ≡ nodes ++ more →
    wider ≡ leaves ++ others → fuller ≡ bucket_leaves ++ filled → grown ≡ trees ++ further →
    BucketStandsFor nodes leaves bucket_leaves trees place part → BucketStandsFor longer wider fuller grown place part
bucket_in_longer nodes longer more leaves wider others bucket_leaves fuller filled trees grown further (Place.Few at) part e f g h
    (leaf, there, of) = (leaf, rw g (slice_get-append bucket_leaves filled at leaf there), of)
bucket_in_longer nodes longer more leaves wider others bucket_leaves fuller filled trees grown further (Place.Many at) part e f g h
    (tree, there, stands) = (
      tree,
      rw h (slice_get-append trees further at tree there),
      stands_in_longer 25 nodes longer more leaves wider others 8 tree part e f stands,
    )

-- the first leaf stays
pub empty_first_longer : (leaves longer more : List Leaf) → longer ≡ leaves ++ more → HasEmptyFirst leaves → HasEmptyFirst longer
empty_first_longer leaves longer more e (leaf, is, of) = rw e (leaf, slice_get-append leaves more 0 leaf is, of)

-- a node stands for a part if each of its fields does
pub node_stands : (levels : ℕ) (nodes : List Node) (leaves : List Leaf) (at depth : ℕ) (node : Node)
    (part : List PrefixPattern) → depth ≤ 32 →
    slice_get nodes at ≡ Some node → IsUnionOfEnds depth node.own part → IsUnion node.below part →
    ((l : ℕ) → l + (depth + 1) ≡ tree_levels → StandsFor l nodes leaves (depth + 1) node.zero (side false depth part)) →
    ((l : ℕ) → l + (depth + 1) ≡ tree_levels → StandsFor l nodes leaves (depth + 1) node.one (side true depth part)) →
    levels + depth ≡ tree_levels → StandsFor levels nodes leaves depth (Inner at) part
node_stands zero nodes leaves at depth node part shallow is own below zeros ones e = absurd (omega arith)
node_stands (suc l) nodes leaves at depth node part shallow is own below zeros ones e =
    let here : l + (depth + 1) ≡ tree_levels = omega arith in
    (node, is, own, below, zeros l here, ones l here)

-- one more pattern of a part, which goes on by the bit or not
pub one_more_side : (bit : Bool) (depth from at : ℕ) (old : List PrefixPattern) (p : PrefixPattern) → from ≤ at → at < length old →
    p ≡ get_or old at p →
    side bit depth (take (at + 1 - from) (drop from old)) ≡ side bit depth (take (at - from) (drop from old))
    ++ cond (turns bit depth p) (p ∷ []) []
one_more_side bit depth from at old p low within is =
    let i = at - from in
    let step : at + 1 - from ≡ i + 1 = omega arith in
    let place : from + i ≡ at = omega arith in
    let inside : i < length (drop from old) = omega (arith, length-drop from old) in
    let same : get_or (drop from old) i p ≡ p = get_or-drop from old i p ∙ ap (λ k. get_or old k p) place ∙ sym is in
    rw step (filter_more (turns bit depth) (drop from old) i p inside
    ∙ ap (λ q. side bit depth (take i (drop from old)) ++ cond (turns bit depth q) (q ∷ []) []) same)
