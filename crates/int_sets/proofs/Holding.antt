-- The tests of a range and of a set decide the facts.
use Rattle.std.proofs.Common.{nat_le, ℕ, List}
use Rattle.std.specs.Bool.{Decides}
use Rattle.std.proofs.lemmas.Bool.{leb-true, le-leb}
use Rattle.std.proofs.lemmas.Bool.Decides.{Decides-and, Decides-like}
use Rattle.std.proofs.lemmas.List.Folds.{Any-from_list_any, list_any-from_Any}
use Rattle.int_sets.specs.Holding.{NumberRange, Holds, holds, HoldsAny, holds_any}

pub holds-Decides : (number : ℕ) (range : NumberRange) → Decides (holds number range) (Holds number range)
holds-Decides number range =
    Decides-like _
    (λ parts. record { low = parts.0; high = parts.1 })
    (λ it. (it.low, it.high))
    (Decides-and (nat_le range.low number) _ (leb-true _ _, le-leb _ _) (leb-true number range.high, le-leb _ _))

pub holds_any-Decides : (number : ℕ) (ranges : List NumberRange) → Decides (holds_any number ranges) (HoldsAny number ranges)
holds_any-Decides number ranges = (
  λ yes. let any = Any-from_list_any (holds number) ranges yes in (any.0, any.1, any.2, any.3, (holds-Decides number any.1).0 any.4),
  λ any. list_any-from_Any (holds number) ranges (any.0, any.1, any.2, any.3, (holds-Decides number any.1).1 any.4),
)
