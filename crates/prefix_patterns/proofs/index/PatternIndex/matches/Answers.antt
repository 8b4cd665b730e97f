use Rattle.std.proofs.Common.{◌≡◌, ℕ, ◌<◌, ◌≤◌, Bool, true, false, ◌&&◌, ◌||◌, List, length}
use Rattle.std.proofs.Common.{Some, slice_get, take, get_or, sym, ap, ◌∙◌, subst, arith}
use Rattle.std.proofs.lemmas.Option.{get_or_from_slice_get, slice_get_within}
use Rattle.std.specs.List.{list_any}
use Rattle.std.proofs.lemmas.List.{take_all}
use Rattle.prefix_patterns.specs.Bits.{number}
use Rattle.prefix_patterns.specs.Index.{BucketStandsFor, IsIndexOf, is_long}
use Rattle.prefix_patterns.specs.Matching.{PrefixPattern, matches_any}
use Rattle.prefix_patterns.specs.Trees.{IsLeafOf, Reached, hits, in_bucket, StandsFor, index_of}
use Rattle.prefix_patterns.specs.declared.index.PatternIndex.{PatternIndex}
use Rattle.prefix_patterns.specs.declared.index.Place.{Place}
use Rattle.prefix_patterns.specs.declared.index.Place.TheVariants.{Few, Many}
use Rattle.prefix_patterns.specs.declared.leaf.Leaf.{Leaf}
use Rattle.prefix_patterns.specs.declared.tree.Node.{Node}
use Rattle.prefix_patterns.specs.declared.tree.Subtree.{Subtree}
use Rattle.prefix_patterns.proofs.Buckets.{bucket_agrees, long_in_bucket, short_or_long}
use Rattle.prefix_patterns.proofs.Marks.{index_within}
use Rattle.prefix_patterns.proofs.Walks.{any_hits}
use Rattle.prefix_patterns.proofs.index.PatternIndex.matches.Goals as goal

-- what the place of the bucket of a prefix stands for
bucket_stands : (index : PatternIndex) (prefix : List Bool) (patterns : List PrefixPattern) (at : ℕ) (place : Place) →
    at ≡ number (take 8 prefix) → at < 256 → place ≡ get_or index.places.items at place → IsIndexOf index patterns →
    BucketStandsFor index.nodes.items index.leaves.items index.bucket_leaves.items index.trees.items place
    (in_bucket (number (take 8 prefix)) patterns)
bucket_stands index prefix patterns at place here below read h =
    subst (BucketStandsFor index.nodes.items index.leaves.items index.bucket_leaves.items index.trees.items place)
    (ap (λ b. in_bucket b patterns) here)
    (subst (λ (p : Place). BucketStandsFor index.nodes.items index.leaves.items index.bucket_leaves.items index.trees.items p
    (in_bucket at patterns)) (sym read) (h.long at place below))

-- the tree of the bucket of a prefix
bucket_reached : (index : PatternIndex) (nodes : List Node) (leaves : List Leaf) (prefix : List Bool) (patterns : List PrefixPattern)
    (tree : Subtree) → nodes ≡ index.nodes.items → leaves ≡ index.leaves.items → 8 ≤ length prefix →
    StandsFor 25 index.nodes.items index.leaves.items 8 tree (in_bucket (number (take 8 prefix)) patterns) →
    Reached nodes leaves prefix (in_bucket (number (take 8 prefix)) patterns) 8 tree
bucket_reached index nodes leaves prefix patterns tree e f few stands = record {
  levels = 25;
  part = in_bucket (number (take 8 prefix)) patterns;
  stands = rw (e, f) stands;
  agreed = bucket_agrees prefix patterns few;
  same = any_hits prefix (in_bucket (number (take 8 prefix)) patterns);
}

-- the answer, by that of the tree of the patterns of fewer than 8 bits
by_short : (prefix : List Bool) (patterns : List PrefixPattern) (found answer : Bool) →
    answer ≡ matches_any prefix (in_bucket 256 patterns) →
    answer ≡ found → matches_any prefix patterns ≡ (found || list_any (λ q. is_long q && hits prefix q) patterns)
by_short prefix patterns found answer told is =
    short_or_long prefix patterns ∙ ap (λ b. b || list_any (λ q. is_long q && hits prefix q) patterns) (sym told ∙ is)

pub returns-then-matches_short : goal.returns-then-matches_short
returns-then-matches_short c = λ patterns h.
    sym (by_short c.args.prefix.now patterns true c.matches_short.result (c.matches_short.ensures patterns h) c.if-matches_short.true)

-- the index of the mark of a prefix
at_index : (prefix : List Bool) (len at : ℕ) → len ≡ length prefix → at ≡ index_of (take len prefix) → at ≡ index_of prefix
at_index prefix len at bits is = is ∙ ap index_of (take_all len prefix (omega arith))

pub index-requires : goal.index-requires
index-requires c =
    let (patterns, h) = c.requires in
    let index = c.args.self.now in
    let prefix = c.args.prefix.now in
    let len = c.len-len.result in
    let few : len ≤ 8 = c.if-len-le-BUCKET_BITS.true in
    let at = at_index prefix len c.heap_index.result c.len-len.ensures.bits c.heap_index.ensures in
    let below = index_within prefix (omega (arith, c.len-len.ensures.bits)) in
    omega (arith, at, below, h.marks.count, index.marks.ok.0)

pub returns-then-len-le-BUCKET_BITS : goal.returns-then-len-le-BUCKET_BITS
returns-then-len-le-BUCKET_BITS c = λ patterns h.
    let index = c.args.self.now in
    let prefix = c.args.prefix.now in
    let len = c.len-len.result in
    let few : len ≤ 8 = c.if-len-le-BUCKET_BITS.true in
    let at = at_index prefix len c.heap_index.result c.len-len.ensures.bits c.heap_index.ensures in
    let found = c.index.result.now in
    let read : found ≡ get_or index.marks.items (index_of prefix) found =
    c.index.ensures ∙ ap (λ i. get_or index.marks.items i found) at in
    read ∙ h.marks.marked prefix found (omega (arith, c.len-len.ensures.bits))
    ∙ sym (by_short prefix patterns false c.matches_short.result (c.matches_short.ensures patterns h) c.if-matches_short.false)

-- the leaf of the bucket of a prefix
leaf_of_bucket : (index : PatternIndex) (prefix : List Bool) (patterns : List PrefixPattern) (at i : ℕ) (place : Place) →
    at ≡ number (take 8 prefix) → at < 256 → place ≡ get_or index.places.items at place → place ≡ Few i → IsIndexOf index patterns →
    (leaf : Leaf) × (slice_get index.bucket_leaves.items i ≡ Some leaf) × IsLeafOf leaf (in_bucket (number (take 8 prefix)) patterns)
leaf_of_bucket index prefix patterns at i place here below read is h =
    subst (λ (p : Place). BucketStandsFor index.nodes.items index.leaves.items index.bucket_leaves.items index.trees.items p
    (in_bucket (number (take 8 prefix)) patterns)) is (bucket_stands index prefix patterns at place here below read h)

pub index-requires-in-Few : goal.index-requires-in-Few
index-requires-in-Few c =
    let (patterns, h) = c.requires in
    let index = c.args.self.now in
    let (leaf, there, of) = leaf_of_bucket index c.args.prefix.now patterns c.leading.result c.in-Few.at c.index-2.result.now
    c.leading.ensures.value c.leading.ensures.limit c.index-2.ensures c.in-Few.is h in
    let within = slice_get_within index.bucket_leaves.items c.in-Few.at leaf there in
    omega (arith, within, c.from.ensures, index.bucket_leaves.ok.0)

pub returns-in-Few : goal.returns-in-Few
returns-in-Few c = λ patterns h.
    let index = c.args.self.now in
    let prefix = c.args.prefix.now in
    let few : 8 ≤ length prefix = omega (arith, c.len-len.ensures.bits) in
    let (leaf, there, of) = leaf_of_bucket index prefix patterns c.leading.result c.in-Few.at c.index-2.result.now
    c.leading.ensures.value c.leading.ensures.limit c.index-2.ensures c.in-Few.is h in
    let read : c.index-in-Few.result.now ≡ leaf =
    c.index-in-Few.ensures ∙ ap (λ i. get_or index.bucket_leaves.items i c.index-in-Few.result.now) c.from.ensures
    ∙ get_or_from_slice_get index.bucket_leaves.items c.in-Few.at leaf c.index-in-Few.result.now there in
    c.matches.ensures (in_bucket (number (take 8 prefix)) patterns)
    (subst (λ (l : Leaf). IsLeafOf l (in_bucket (number (take 8 prefix)) patterns)) (sym read) of)
    ∙ sym (long_in_bucket prefix patterns few)
    ∙ sym (by_short prefix patterns false c.matches_short.result (c.matches_short.ensures patterns h) c.if-matches_short.false)

-- the tree of the bucket of a prefix, as it was read
tree_of_bucket : (index : PatternIndex) (prefix : List Bool) (patterns : List PrefixPattern) (at i : ℕ) (place : Place) →
    at ≡ number (take 8 prefix) → at < 256 → place ≡ get_or index.places.items at place → place ≡ Many i → IsIndexOf index patterns →
    (tree : Subtree) × (slice_get index.trees.items i ≡ Some tree)
    × StandsFor 25 index.nodes.items index.leaves.items 8 tree (in_bucket (number (take 8 prefix)) patterns)
tree_of_bucket index prefix patterns at i place here below read is h =
    subst (λ (p : Place). BucketStandsFor index.nodes.items index.leaves.items index.bucket_leaves.items index.trees.items p
    (in_bucket (number (take 8 prefix)) patterns)) is (bucket_stands index prefix patterns at place here below read h)

pub index-tree-requires : goal.index-tree-requires
index-tree-requires c =
    let (patterns, h) = c.requires in
    let index = c.args.self.now in
    let (tree, there, stands) = tree_of_bucket index c.args.prefix.now patterns c.leading.result c.in-Many.at c.index-2.result.now
    c.leading.ensures.value c.leading.ensures.limit c.index-2.ensures c.in-Many.is h in
    let within = slice_get_within index.trees.items c.in-Many.at tree there in
    omega (arith, within, c.from-in-Many.ensures, index.trees.ok.0)

-- the tree that is read stands for the patterns of the bucket
read_tree : (index : PatternIndex) (nodes : List Node) (leaves : List Leaf) (prefix : List Bool) (patterns : List PrefixPattern)
    (at i j : ℕ) (place : Place) (tree : Subtree) → nodes ≡ index.nodes.items → leaves ≡ index.leaves.items → 8 ≤ length prefix →
    at ≡ number (take 8 prefix) → at < 256 → place ≡ get_or index.places.items at place → place ≡ Many i → j ≡ i →
    tree ≡ get_or index.trees.items j tree → IsIndexOf index patterns →
    Reached nodes leaves prefix (in_bucket (number (take 8 prefix)) patterns) 8 tree
read_tree index nodes leaves prefix patterns at i j place tree e f few here below read is same found h =
    let (root, there, stands) = tree_of_bucket index prefix patterns at i place here below read is h in
    let it : tree ≡ root =
    found ∙ ap (λ k. get_or index.trees.items k tree) same ∙ get_or_from_slice_get index.trees.items i root tree there in
    bucket_reached index nodes leaves prefix patterns tree e f few
    (subst (λ (t : Subtree). StandsFor 25 index.nodes.items index.leaves.items 8 t (in_bucket (number (take 8 prefix)) patterns)) (sym it) stands)

pub walk-requires-clause-reached : goal.walk-requires-clause-reached
walk-requires-clause-reached c =
    let (patterns, h) = c.requires in
    let prefix = c.args.prefix.now in
    let few : 8 ≤ length prefix = omega (arith, c.len-len.ensures.bits) in (
      in_bucket (number (take 8 prefix)) patterns,
      read_tree c.args.self.now c.deref.result.now c.deref-in-Many.result.now prefix patterns c.leading.result c.in-Many.at
          c.from-in-Many.result c.index-2.result.now c.index-tree.result.now c.deref.ensures.value c.deref-in-Many.ensures.value few
          c.leading.ensures.value c.leading.ensures.limit c.index-2.ensures c.in-Many.is c.from-in-Many.ensures c.index-tree.ensures h,
    )

pub returns-in-Many : goal.returns-in-Many
returns-in-Many c = λ patterns h.
    let prefix = c.args.prefix.now in
    let few : 8 ≤ length prefix = omega (arith, c.len-len.ensures.bits) in
    let reached = read_tree c.args.self.now c.deref.result.now c.deref-in-Many.result.now prefix patterns c.leading.result c.in-Many.at
    c.from-in-Many.result c.index-2.result.now c.index-tree.result.now c.deref.ensures.value c.deref-in-Many.ensures.value few
    c.leading.ensures.value c.leading.ensures.limit c.index-2.ensures c.in-Many.is c.from-in-Many.ensures c.index-tree.ensures h in
    c.walk.ensures (in_bucket (number (take 8 prefix)) patterns) reached
    ∙ sym (long_in_bucket prefix patterns few)
    ∙ sym (by_short prefix patterns false c.matches_short.result (c.matches_short.ensures patterns h) c.if-matches_short.false)
