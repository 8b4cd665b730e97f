use Rattle.std.proofs.Common.{◌≡◌, ℕ, ◌<◌, ◌++◌, Some, List, [], ◌∷◌, get_or, length, set, slice_get, refl, sym, subst, ap, ◌∙◌, arith}
use Rattle.std.proofs.Math.Seq.{set-append_seam}
use Rattle.std.proofs.lemmas.List.{get_or_read_under}
use Rattle.prefix_patterns.specs.Index.{HasChains}
use Rattle.prefix_patterns.specs.Matching.{PrefixPattern}
use Rattle.prefix_patterns.specs.Trees.{IsLeafOf, StandsFor, in_bucket}
use Rattle.prefix_patterns.specs.declared.index.Chains.{Chains}
use Rattle.prefix_patterns.specs.declared.leaf.Leaf.{Leaf}
use Rattle.prefix_patterns.proofs.Chains.{over}
use Rattle.prefix_patterns.proofs.Nodes.{last_pushed, slice_get-last}
use Rattle.prefix_patterns.proofs.index.grow_bucket.Goals as goal

-- a bucket whose chain begins nowhere has no patterns
none_there : (patterns : List PrefixPattern) (chains : Chains) (bucket head : ℕ) → HasChains patterns chains → bucket < 256 →
    head ≡ get_or chains.heads.items bucket head → head ≡ 0 → in_bucket bucket patterns ≡ []
none_there patterns chains bucket head has small read nowhere =
    let heads = chains.heads.items in
    let there = get_or_read_under heads bucket (length heads) head 0 read (omega (arith, has.heads)) refl in
    over patterns chains.next.items (get_or heads bucket 0) (in_bucket bucket patterns) (omega arith)
    (has.chain bucket (omega arith))

pub returns-then-index-eq0-clause-stands : goal.returns-then-index-eq0-clause-stands
returns-then-index-eq0-clause-stands c =
    let none = none_there c.args.patterns.now c.args.chains.now c.args.bucket c.index.result.now c.requires.chains c.requires.bucket
    c.index.ensures c.if-index-eq0.true in
    let (leaf, there, is) = c.requires.bucket_first in
    (leaf, there, subst (IsLeafOf leaf) (sym none) is)

-- a leaf that is written behind the others
written_last : (old items : List Leaf) (none leaf : Leaf) (at : ℕ) → items ≡ old ++ none ∷ [] → at ≡ length old →
    set items at leaf ≡ old ++ leaf ∷ []
written_last old items none leaf at is e = rw (is, e) (set-append_seam old none [] leaf)

pub returns-then-fill_leaf-clause-bucket_leaves : goal.returns-then-fill_leaf-clause-bucket_leaves
returns-then-fill_leaf-clause-bucket_leaves c =
    let old = c.args.bucket_leaves.now in
    let leaf = c.fill_leaf.new.leaf in (
      leaf ∷ [],
      written_last old.items c.push.new.self.items _ leaf c.len-at.result c.in_ok-push.ensures.items
          (omega (arith, c.len-at.ensures, old.ok.0)),
    )

pub returns-then-fill_leaf-clause-stands : goal.returns-then-fill_leaf-clause-stands
returns-then-fill_leaf-clause-stands c =
    let old = c.args.bucket_leaves.now in
    let leaf = c.fill_leaf.new.leaf in
    let at = c.len-at.result in
    let at_end : at ≡ length old.items = omega (arith, c.len-at.ensures, old.ok.0) in
    let last : slice_get (old.items ++ leaf ∷ []) at ≡ Some leaf = rw at_end (slice_get-last old.items leaf) in
    let is = written_last old.items c.push.new.self.items _ leaf at c.in_ok-push.ensures.items at_end in
    (leaf, subst (λ items. slice_get items at ≡ Some leaf) (sym is) last, c.fill_leaf.ensures c.if-fill_leaf.true)

-- a leaf with too few places is left, and the patterns have a tree
pub returns-clause-bucket_leaves : goal.returns-clause-bucket_leaves
returns-clause-bucket_leaves c =
    let old = c.args.bucket_leaves.now in
    let leaf = c.fill_leaf.new.leaf in (
      leaf ∷ [],
      written_last old.items c.push.new.self.items _ leaf c.len-at.result c.in_ok-push.ensures.items
          (omega (arith, c.len-at.ensures, old.ok.0)),
    )

pub returns-clause-stands : goal.returns-clause-stands
returns-clause-stands c =
    let part : c.push_bucket.new.part.items ≡ in_bucket c.args.bucket c.args.patterns.now =
    c.in_ok-push_bucket.ensures ∙ ap (λ xs. xs ++ in_bucket c.args.bucket c.args.patterns.now) c.clear.ensures.items in
    let tree = c.in_ok-tree.tree in
    let last = last_pushed c.args.trees.now.items c.push-2.new.self.items tree c.len.result c.in_ok-push-2.ensures.items
    (omega (arith, c.len.ensures, c.in_ok-push-2.ensures.len, c.args.trees.now.ok.0)) in (
      tree,
      last,
      subst (StandsFor 25 c.grow.new.nodes.items c.grow.new.leaves.items 8 tree) part (c.in_ok-tree.ensures.stands 25 refl),
    )
