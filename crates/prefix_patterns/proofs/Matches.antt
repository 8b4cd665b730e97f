-- The tests of a prefix and a pattern decide the facts.
use Rattle.std.proofs.Common.{nat_le, Bool, List, length, take}
use Rattle.std.specs.Bool.{Decides}
use Rattle.std.specs.Cmp.{booleans_Decides}
use Rattle.std.specs.Cmp.Lexicographic.{pointwise_decides}
use Rattle.std.proofs.lemmas.Bool.{leb-true, le-leb}
use Rattle.std.proofs.lemmas.Bool.Decides.{Decides-and, Decides-like}
use Rattle.std.proofs.lemmas.List.Folds.{Any-from_list_any, list_any-from_Any}
use Rattle.prefix_patterns.specs.Matching.{LiesWithin, lies_within, PrefixPattern, Matches, matches, MatchesAny, matches_any}
use Rattle.prefix_patterns.specs.Matching.{has_same_bits, shared_length}

pub lies_within-Decides : (bits prefix : List Bool) → Decides (lies_within bits prefix) (LiesWithin bits prefix)
lies_within-Decides bits prefix = pointwise_decides booleans_Decides (take (length prefix) bits) prefix

pub matches-Decides : (prefix : List Bool) (pattern : PrefixPattern) → Decides (matches prefix pattern) (Matches prefix pattern)
matches-Decides prefix pattern =
    let n = shared_length prefix pattern.bits in
    Decides-like _
    (λ parts. record { low = parts.1.0; high = parts.1.1; same = parts.0 })
    (λ it. (it.same, (it.low, it.high)))
    (Decides-and (has_same_bits prefix pattern.bits) _ (pointwise_decides booleans_Decides (take n prefix) (take n pattern.bits))
    (Decides-and (nat_le pattern.low (length prefix)) _ (leb-true _ _, le-leb _ _) (leb-true (length prefix) pattern.high, le-leb _ _)))

pub matches_any-Decides : (prefix : List Bool) (patterns : List PrefixPattern) →
    Decides (matches_any prefix patterns) (MatchesAny prefix patterns)
matches_any-Decides prefix patterns = (
  λ yes. let any = Any-from_list_any (matches prefix) patterns yes in (any.0, any.1, any.2, any.3, (matches-Decides prefix any.1).0 any.4),
  λ any. list_any-from_Any (matches prefix) patterns (any.0, any.1, any.2, any.3, (matches-Decides prefix any.1).1 any.4),
)
