-- When a prefix lies within another, and when it matches a pattern, as in the BIRD 2.0 User's Guide on filters.
use Rattle.std.specs.Prelude.{◌≡◌, ℕ, ◌≤◌, ◌&&◌, nat_le, min, Bool, List, length, take}
use Rattle.std.specs.Bool.{beq}
use Rattle.std.specs.Cmp.Lexicographic.{pointwise}
use Rattle.std.specs.List.{Any, list_any}
use Rattle.prefix_patterns.specs.Bits.{address_length}

-- the bits begin with those of a prefix: their address or prefix lies within it, or equals it
abbrev pub LiesWithin : List Bool → List Bool → Type 0
LiesWithin bits prefix = take (length prefix) bits ≡ prefix

abbrev pub lies_within : List Bool → List Bool → Bool
lies_within bits prefix = pointwise beq (take (length prefix) bits) prefix

-- a pattern: the bits of its prefix, and the least and the greatest length that it allows
pub record PrefixPattern : Type 0 where
  pub bits : List Bool
  pub low : ℕ
  pub high : ℕ

-- a pattern's lengths are in order, and at most that of an address
pub record HasOrderedLengths (low high : ℕ) : Type 0 where
  pub order : low ≤ high
  pub limit : high ≤ address_length

-- the number of bits that both lists have
abbrev pub shared_length : List Bool → List Bool → ℕ
shared_length p q = min (length p) (length q)

-- The prefix agrees with the pattern on the bits that both have, and the pattern allows its length. (A pattern may have
-- bits past the lengths that it allows: this project's own choice.)
pub record Matches (prefix : List Bool) (pattern : PrefixPattern) : Type 0 where
  pub low : pattern.low ≤ length prefix
  pub high : length prefix ≤ pattern.high
  pub same : take (shared_length prefix pattern.bits) prefix ≡ take (shared_length prefix pattern.bits) pattern.bits

abbrev pub has_same_bits : List Bool → List Bool → Bool
has_same_bits p q = pointwise beq (take (shared_length p q) p) (take (shared_length p q) q)

abbrev pub matches : List Bool → PrefixPattern → Bool
matches prefix pattern = has_same_bits prefix pattern.bits && (nat_le pattern.low (length prefix) && nat_le (length prefix) pattern.high)

-- the greatest number of patterns in a set (this project's own choice)
abbrev pub pattern_limit : ℕ
pattern_limit = 1024

-- a prefix matches a set if it matches one of its patterns
abbrev pub MatchesAny : List Bool → List PrefixPattern → Type 0
MatchesAny prefix patterns = Any (Matches prefix) patterns

abbrev pub matches_any : List Bool → List PrefixPattern → Bool
matches_any prefix patterns = list_any (matches prefix) patterns
