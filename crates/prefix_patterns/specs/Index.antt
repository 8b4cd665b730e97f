-- The index of a set of patterns: buckets by the first 8 bits, and a leaf or a tree for each. (This project's own choice.)
use Rattle.std.specs.Prelude.{◌≡◌, ℕ, ◌+◌, ◌<◌, ◌≤◌, ◌==◌, ◌&&◌, not, Bool, Some, None, Option, List, [], ◌∷◌, get_or, length, slice_get}
use Rattle.std.specs.List.{list_any}
use Rattle.prefix_patterns.specs.Matching.{PrefixPattern, pattern_limit}
use Rattle.prefix_patterns.specs.Trees.{AreLeavesOf, IsLeafOf, StandsFor, bucket, hits, in_bucket, index_of, short_bucket, tree_levels}
use Rattle.prefix_patterns.specs.declared.index.Chains.{Chains}
use Rattle.prefix_patterns.specs.declared.index.PatternIndex.{PatternIndex}
use Rattle.prefix_patterns.specs.declared.index.Place.{Place}
use Rattle.prefix_patterns.specs.declared.index.Place.TheVariants.{Few, Many}
use Rattle.prefix_patterns.specs.declared.leaf.Leaf.{Leaf}
use Rattle.prefix_patterns.specs.declared.set.Search.{Search}
use Rattle.prefix_patterns.specs.declared.set.Search.TheVariants.{Scan, Index}
use Rattle.prefix_patterns.specs.declared.tree.Node.{Node}
use Rattle.prefix_patterns.specs.declared.tree.Subtree.{Subtree}

-- a linked list has these patterns: a link is one more than an index, and 0 ends the list
abbrev pub IsChain : List PrefixPattern → List ℕ → ℕ → List PrefixPattern → Type 0
IsChain patterns next at [] = at ≡ 0
IsChain patterns next at (p ∷ chain) = (index : ℕ) × (at ≡ index + 1) × (slice_get patterns index ≡ Some p)
    × (index < length next) × (get_or next index 0 ≤ index) × IsChain patterns next (get_or next index 0) chain

-- the patterns of each bucket are a linked list
pub record HasChains (patterns : List PrefixPattern) (chains : Chains) : Type 0 where
  pub heads : length chains.heads.items ≡ short_bucket + 1
  pub chain : (bucket : ℕ) → bucket ≤ short_bucket →
      IsChain patterns chains.next.items (get_or chains.heads.items bucket 0) (in_bucket bucket patterns)

-- whether a pattern has 8 bits or more
abbrev pub is_long : PrefixPattern → Bool
is_long pattern = not (bucket pattern == short_bucket)

-- for each prefix of up to 8 bits, by its index, whether it matches one of the patterns of 8 bits or more
pub record AreMarks (marks : List Bool) (patterns : List PrefixPattern) : Type 0 where
  pub count : length marks ≡ 512
  pub marked : (prefix : List Bool) (d : Bool) → length prefix ≤ 8 →
      get_or marks (index_of prefix) d ≡ list_any (λ pattern. is_long pattern && hits prefix pattern) patterns

-- the patterns of fewer than 8 bits have a tree if there are some
abbrev pub ShortStandsFor : List Node → List Leaf → Option Subtree → List PrefixPattern → Type 0
ShortStandsFor nodes leaves None part = part ≡ []
ShortStandsFor nodes leaves (Some subtree) part = (levels : ℕ) → levels ≡ tree_levels → StandsFor levels nodes leaves 0 subtree part

-- What the place of a bucket stands for: the patterns of a leaf, or those of a tree, which begins at depth 8.
abbrev pub BucketStandsFor : List Node → List Leaf → List Leaf → List Subtree → Place → List PrefixPattern → Type 0
BucketStandsFor nodes leaves bucket_leaves trees (Few at) part =
    (leaf : Leaf) × (slice_get bucket_leaves at ≡ Some leaf) × IsLeafOf leaf part
BucketStandsFor nodes leaves bucket_leaves trees (Many at) part =
    (tree : Subtree) × (slice_get trees at ≡ Some tree) × StandsFor 25 nodes leaves 8 tree part

-- The index of a list of patterns: the patterns of fewer than 8 bits have a tree, and those of each other bucket have a leaf or
-- a tree. Prefixes of up to 8 bits have marks.
pub record IsIndexOf (index : PatternIndex) (patterns : List PrefixPattern) : Type 0 where
  pub places : length index.places.items ≡ 256
  pub short : ShortStandsFor index.nodes.items index.leaves.items index.short (in_bucket short_bucket patterns)
  pub long : (bucket : ℕ) (d : Place) → bucket < 256 →
      BucketStandsFor index.nodes.items index.leaves.items index.bucket_leaves.items index.trees.items
      (get_or index.places.items bucket d) (in_bucket bucket patterns)
  pub marks : AreMarks index.marks.items patterns

-- the greatest number of patterns in a set that has no index
abbrev pub scan_limit : ℕ
scan_limit = 12

-- how a set is searched: by the leaves of all its patterns if they are few, and otherwise by its index
abbrev pub IsSearchOf : Search → List PrefixPattern → Type 0
IsSearchOf (Scan leaves) patterns = (length patterns ≤ scan_limit) × AreLeavesOf leaves.items patterns
IsSearchOf (Index index) patterns = IsIndexOf index patterns

-- a set within the limit, and how it is searched
pub record IsSearchable (patterns : List PrefixPattern) (search : Search) : Type 0 where
  pub limit : length patterns ≤ pattern_limit
  pub searched : IsSearchOf search patterns
