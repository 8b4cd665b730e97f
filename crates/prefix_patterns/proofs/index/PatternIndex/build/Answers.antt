use Rattle.std.proofs.Common.{◌≡◌, ℕ, ◌+◌, ◌<◌, List, [], ◌∷◌, ◌++◌, append-nil, length, get_or}
use Rattle.std.proofs.Common.{sym, ap, ◌∙◌, arith, inl, inr}
use Rattle.std.proofs.lemmas.Bool.{cases_lt}
use Rattle.std.proofs.lemmas.List.{get_or_at, length-append}
use Rattle.std.proofs.Math.ListN.{get_or-append}
use Rattle.prefix_patterns.specs.Index.{BucketStandsFor}
use Rattle.prefix_patterns.specs.Matching.{PrefixPattern}
use Rattle.prefix_patterns.specs.Trees.{in_bucket}
use Rattle.prefix_patterns.specs.declared.index.Place.{Place}
use Rattle.prefix_patterns.specs.declared.leaf.Leaf.{Leaf}
use Rattle.prefix_patterns.specs.declared.tree.Node.{Node}
use Rattle.prefix_patterns.specs.declared.tree.Subtree.{Subtree}
use Rattle.prefix_patterns.proofs.Nodes.{bucket_in_longer, empty_first_longer}
use Rattle.prefix_patterns.proofs.index.PatternIndex.build.Goals as goal

-- one more bucket has its place
module _ (nodes longer more : List Node) (leaves wider others bucket_leaves fuller filled : List Leaf) (trees grown further : List Subtree)
    (patterns : List PrefixPattern) (places pushed : List Place) (place : Place) (count : ℕ)
    (of_nodes : longer ≡ nodes ++ more) (of_leaves : wider ≡ leaves ++ others) (of_bucket_leaves : fuller ≡ bucket_leaves ++ filled)
    (of_trees : grown ≡ trees ++ further) (of_places : pushed ≡ places ++ place ∷ []) where
  one_more_place : length places ≡ count → BucketStandsFor longer wider fuller grown place (in_bucket count patterns) →
      ((at : ℕ) (d : Place) → at < count →
      BucketStandsFor nodes leaves bucket_leaves trees (get_or places at d) (in_bucket at patterns)) →
      (at : ℕ) (d : Place) → at < count + 1 → BucketStandsFor longer wider fuller grown (get_or pushed at d) (in_bucket at patterns)
  one_more_place len stands so_far at d below =
      elim (cases_lt at count) [
        | inl before ↦
            let inside : at < length places = omega arith in
            let same : get_or pushed at d ≡ get_or places at d = rw of_places (get_or-append places (place ∷ []) d at inside) in
            rw same (bucket_in_longer nodes longer more leaves wider others bucket_leaves fuller filled trees grown further
            (get_or places at d) (in_bucket at patterns) of_nodes of_leaves of_bucket_leaves of_trees (so_far at d before))
        | inr last ↦
            let here : at ≡ count = omega arith in
            let same : get_or pushed count d ≡ place = rw of_places (get_or_at places place [] d count len) in
            rw (here, same) stands
      ]

pub loop-bucket-init : goal.loop-bucket-init
loop-bucket-init c = record {
  first = c.in_ok-leaves.ensures.first;
  bucket_first = c.in_ok-bucket_leaves.ensures.first;
  leaf_count = omega (arith, c.in_ok-bucket_leaves.ensures.count);
  tree_count = omega (arith, ap length c.new-trees.ensures.items);
  places = ap length c.in_ok-places.ensures.items;
  long = λ at d below. absurd (omega arith);
}

pub loop-bucket-preserved : goal.loop-bucket-preserved
loop-bucket-preserved c =
    let inv = c.loop-bucket.invariant in
    let count = c.loop-bucket.bucket in
    let bucket_leaves = c.loop-bucket.bucket_leaves.items in
    let places = c.loop-bucket.places.items in
    let place = c.in_ok-place.place in
    let grown = c.in_ok-place.ensures in
    let (more, longer) = grown.nodes in
    let (others, wider) = grown.leaves in
    let (filled, fuller) = grown.bucket_leaves in
    let (further, of_trees) = grown.trees in
    record {
      first = empty_first_longer c.loop-bucket.leaves.items c.grow_bucket.new.leaves.items others wider inv.first;
      bucket_first = empty_first_longer bucket_leaves c.grow_bucket.new.bucket_leaves.items filled fuller inv.bucket_first;
      leaf_count = omega (arith, grown.leaf_count);
      tree_count = grown.tree_count;
      places = ap length c.in_ok-push.ensures.items ∙ length-append places (place ∷ []) ∙ ap (λ n. n + 1) inv.places;
      long = one_more_place c.loop-bucket.nodes.items c.grow_bucket.new.nodes.items more c.loop-bucket.leaves.items
          c.grow_bucket.new.leaves.items others bucket_leaves c.grow_bucket.new.bucket_leaves.items filled c.loop-bucket.trees.items
          c.grow_bucket.new.trees.items further c.args.patterns.now places c.push.new.self.items place count longer wider fuller of_trees
          c.in_ok-push.ensures.items inv.places grown.stands inv.long;
    }

pub returns : goal.returns
returns c =
    let inv = c.loop-bucket.invariant in
    let patterns = c.args.patterns.now in
    let all : c.loop-bucket.bucket ≡ 256 = omega arith in
    let part : c.push_bucket.new.part.items ≡ in_bucket 256 patterns =
    c.in_ok-push_bucket.ensures ∙ ap (λ xs. xs ++ in_bucket 256 patterns) c.clear.ensures.items in
    let (more, longer) = c.in_ok-short.ensures.nodes in
    let (others, wider) = c.in_ok-short.ensures.leaves in
    let trees = c.loop-bucket.trees.items in
    let bucket_leaves = c.loop-bucket.bucket_leaves.items in
    record {
      places = inv.places ∙ all;
      short = rw part at c.in_ok-short.ensures.stands;
      long = λ at d below.
          bucket_in_longer c.loop-bucket.nodes.items c.grow_short.new.nodes.items more c.loop-bucket.leaves.items
          c.grow_short.new.leaves.items others bucket_leaves bucket_leaves [] trees trees []
          (get_or c.loop-bucket.places.items at d) (in_bucket at patterns) longer wider (sym (append-nil bucket_leaves))
          (sym (append-nil trees)) (inv.long at d (omega arith));
      marks = c.in_ok-marks.ensures;
    }
