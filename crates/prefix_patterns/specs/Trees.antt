-- Trees of patterns by their bits. (This project's own choice.)
use Rattle.std.specs.Prelude.{◌≡◌, ℕ, zero, suc, ◌+◌, ◌-◌, ◌/◌, ◌%◌, ◌^◌, ◌<◌, ◌≤◌, ◌==◌, ◌&&◌, nat_le, nat_lt}
use Rattle.std.specs.Prelude.{if◌then◌else◌, Bool, true, false, Option, Some, None}
use Rattle.std.specs.Prelude.{List, [], ◌∷◌, ◌++◌, get_or, length, filter, reverse, slice_get, take}
use Rattle.std.specs.Bool.{beq}
use Rattle.std.specs.List.{list_any}
use Rattle.prefix_patterns.specs.Bits.{address_length, address_of, number}
use Rattle.prefix_patterns.specs.Matching.{PrefixPattern, matches_any}
use Rattle.prefix_patterns.specs.declared.leaf.Leaf.{Leaf}
use Rattle.prefix_patterns.specs.declared.lengths.Lengths.{Lengths}
use Rattle.prefix_patterns.specs.declared.tree.Node.{Node}
use Rattle.prefix_patterns.specs.declared.tree.Subtree.{Subtree}
use Rattle.prefix_patterns.specs.declared.tree.Subtree.TheVariants.{Few, Inner}

-- whether a set of lengths has this one: its bit is set
abbrev pub has_length : Lengths → ℕ → Bool
has_length lengths len = (lengths.mask / 2 ^ len) % 2 == 1

-- whether a pattern allows prefixes of a length
abbrev pub allows : ℕ → PrefixPattern → Bool
allows len pattern = nat_le pattern.low len && nat_le len pattern.high

-- whether a pattern has no bit at a depth: its bits end there
abbrev pub ends_at : ℕ → PrefixPattern → Bool
ends_at depth pattern = nat_le (length pattern.bits) depth

-- whether a bit is there, and is this one
abbrev pub is_bit : Bool → Option Bool → Bool
is_bit bit None = false
is_bit bit (Some other) = beq bit other

-- whether a pattern has this bit at a depth
abbrev pub turns : Bool → ℕ → PrefixPattern → Bool
turns bit depth pattern = is_bit bit (slice_get pattern.bits depth)

-- the patterns of a part that have this bit at a depth
abbrev pub side : Bool → ℕ → List PrefixPattern → List PrefixPattern
side bit depth part = filter (turns bit depth) part

-- a set has just the lengths that one of the patterns allows
abbrev pub IsUnion : Lengths → List PrefixPattern → Type 0
IsUnion lengths patterns = (len : ℕ) → len ≤ address_length → has_length lengths len ≡ list_any (allows len) patterns

-- a set has just the lengths that one of the patterns that end at a depth allows
abbrev pub IsUnionOfEnds : ℕ → Lengths → List PrefixPattern → Type 0
IsUnionOfEnds depth lengths patterns =
    (len : ℕ) → len ≤ address_length → has_length lengths len ≡ list_any (λ p. ends_at depth p && allows len p) patterns

-- the mask of so many first bits of an address
abbrev pub mask_of : ℕ → ℕ
mask_of len = 2 ^ 32 - 2 ^ (32 - len)

-- the greatest number of patterns in a leaf
abbrev pub leaf_limit : ℕ
leaf_limit = 8

-- what a leaf has of a pattern at a place
pub record IsEntry (leaf : Leaf) (at : ℕ) (pattern : PrefixPattern) : Type 0 where
  pub limit : length pattern.bits ≤ address_length
  pub address : get_or leaf.addresses at 0 ≡ address_of pattern.bits
  pub mask : get_or leaf.masks at 0 ≡ mask_of (length pattern.bits)
  pub low : get_or leaf.lows at 0 ≡ pattern.low
  pub high : get_or leaf.highs at 0 ≡ pattern.high

-- a place of a leaf without a pattern allows no length: the least is above the greatest
abbrev pub IsVacant : Leaf → ℕ → Type 0
IsVacant leaf at = get_or leaf.highs at 0 < get_or leaf.lows at 0

-- a leaf has these patterns, and its other places are vacant
pub record IsLeafOf (leaf : Leaf) (part : List PrefixPattern) : Type 0 where
  pub addresses : length leaf.addresses ≡ leaf_limit
  pub masks : length leaf.masks ≡ leaf_limit
  pub lows : length leaf.lows ≡ leaf_limit
  pub highs : length leaf.highs ≡ leaf_limit
  pub few : length part ≤ leaf_limit
  pub filled : (at : ℕ) (pattern : PrefixPattern) → slice_get part at ≡ Some pattern → IsEntry leaf at pattern
  pub vacant : (at : ℕ) → length part ≤ at → at < leaf_limit → IsVacant leaf at

-- leaves have these patterns, in their order
abbrev pub AreLeavesOf : List Leaf → List PrefixPattern → Type 0
AreLeavesOf [] patterns = patterns ≡ []
AreLeavesOf (leaf ∷ leaves) patterns = (few : List PrefixPattern) × (rest : List PrefixPattern) × (patterns ≡ few ++ rest)
    × IsLeafOf leaf few × AreLeavesOf leaves rest

-- the first of the leaves has no patterns
abbrev pub HasEmptyFirst : List Leaf → Type 0
HasEmptyFirst leaves = (leaf : Leaf) × (slice_get leaves 0 ≡ Some leaf) × IsLeafOf leaf []

-- A subtree at a depth stands for a part of the patterns, those that begin with the bits on the way to it. A few patterns are
-- a leaf. A node stands for a part if `own` has the lengths that the patterns which end there allow, `below`
-- those that any pattern of the part allows, and if its two subtrees stand for the patterns that go on with a 0 and with a
-- 1. `levels` bounds the height.
abbrev pub StandsFor : ℕ → List Node → List Leaf → ℕ → Subtree → List PrefixPattern → Type 0
StandsFor levels nodes leaves depth (Few at) part = (leaf : Leaf) × (slice_get leaves at ≡ Some leaf) × IsLeafOf leaf part
StandsFor zero nodes leaves depth (Inner at) part = ⊥
StandsFor (suc levels) nodes leaves depth (Inner at) part = (node : Node) × (slice_get nodes at ≡ Some node)
    × IsUnionOfEnds depth node.own part × IsUnion node.below part
    × StandsFor levels nodes leaves (depth + 1) node.zero (side false depth part)
    × StandsFor levels nodes leaves (depth + 1) node.one (side true depth part)

-- the subtree of the patterns that go on with a bit
abbrev pub child : Bool → Node → Subtree
child false node = node.zero
child true node = node.one

-- the levels of a tree: one for each length of a prefix
abbrev pub tree_levels : ℕ
tree_levels = 33

-- two lists of bits agree as far as both go
abbrev pub agree : List Bool → List Bool → Bool
agree [] q = true
agree (a ∷ p) [] = true
agree (a ∷ p) (b ∷ q) = beq a b && agree p q

-- a prefix matches a pattern: their bits agree, and the pattern allows the length
abbrev pub hits : List Bool → PrefixPattern → Bool
hits prefix p = agree prefix p.bits && allows (length prefix) p

-- the patterns agree with the first bits of a prefix
abbrev pub AllAgree : ℕ → List Bool → List PrefixPattern → Type 0
AllAgree depth prefix [] = Unit {0}
AllAgree depth prefix (p ∷ part) = (agree (take depth prefix) p.bits ≡ true) × AllAgree depth prefix part

-- a prefix matches one of all patterns if and only if it matches one of those for which a subtree stands
pub record Reached (nodes : List Node) (leaves : List Leaf) (prefix : List Bool) (all : List PrefixPattern) (depth : ℕ)
    (subtree : Subtree) : Type 0 where
  pub levels : ℕ
  pub part : List PrefixPattern
  pub stands : StandsFor levels nodes leaves depth subtree part
  pub agreed : AllAgree depth prefix part
  pub same : matches_any prefix all ≡ list_any (hits prefix) part

-- the index of bits: the number of a 1 and them
abbrev pub index_of : List Bool → ℕ
index_of bits = 2 ^ length bits + number bits

-- the bucket of the patterns of fewer than 8 bits
abbrev pub short_bucket : ℕ
short_bucket = 256

-- the bucket of a pattern: its first 8 bits as a number
abbrev pub bucket : PrefixPattern → ℕ
bucket pattern = if nat_lt (length pattern.bits) 8 then short_bucket else number (take 8 pattern.bits)

-- the patterns of a bucket, the last of them first
abbrev pub in_bucket : ℕ → List PrefixPattern → List PrefixPattern
in_bucket at patterns = reverse (filter (λ pattern. bucket pattern == at) patterns)
