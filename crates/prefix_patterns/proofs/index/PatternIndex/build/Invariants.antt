use Rattle.std.proofs.Common.{◌≡◌, ℕ, ◌+◌, ◌<◌, ◌≤◌, get_or, length}
use Rattle.prefix_patterns.specs.Index.{BucketStandsFor}
use Rattle.prefix_patterns.specs.Trees.{HasEmptyFirst, in_bucket}
use Rattle.prefix_patterns.specs.declared.index.Place.{Place}
use Rattle.prefix_patterns.proofs.index.PatternIndex.build.Given as goal

-- the buckets so far have their leaves and trees
abbrev pub invariant-loop-bucket : goal.invariant-loop-bucket
invariant-loop-bucket l = record {
  first : HasEmptyFirst l.leaves.items;
  bucket_first : HasEmptyFirst l.bucket_leaves.items;
  leaf_count : length l.bucket_leaves.items ≤ l.bucket + 1;
  tree_count : length l.trees.items ≤ l.bucket;
  places : length l.places.items ≡ l.bucket;
  long : (at : ℕ) (d : Place) → at < l.bucket →
      BucketStandsFor l.nodes.items l.leaves.items l.bucket_leaves.items l.trees.items (get_or l.places.items at d)
      (in_bucket at l.patterns);
}
