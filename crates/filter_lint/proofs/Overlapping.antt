-- Ranges of ints that share a number.
use Rattle.std.proofs.Common.{◌≡◌, ℕ, ◌<◌, ◌≤◌, min, true, List, length}
use Rattle.std.proofs.Common.{take, Option, Some, None, refl, subst, ◌∙◌, arith}
use Rattle.std.specs.Prelude.{max, option_and_then, position, slice_get}
use Rattle.std.proofs.lemmas.List.{get_or-take, length-take}
use Rattle.std.proofs.lemmas.List.Quantifiers.{position-Some}
use Rattle.std.proofs.lemmas.Option.{get_or_from_slice_get}
use Rattle.std.proofs.lemmas.Bool.Decides.{nat_tests}
use Rattle.int_sets.specs.Holding.{Holds, NumberRange}
use Rattle.filter_lint.specs.Overlaps.{overlapped, overlaps}

-- they share the greater of their first numbers
pub shares : (other range : NumberRange) → overlaps other range ≡ true
    → Holds (max other.low range.low) other × Holds (max other.low range.low) range
shares other range e =
    let below : max other.low range.low ≤ min other.high range.high = grind (arith, nat_tests) in (
      record { low = omega arith; high = omega (arith, below) },
      record { low = omega arith; high = omega (arith, below) },
    )

-- a range of a list before an index, which shares a number with another one
pub record Overlaps (ranges : List NumberRange) (at : ℕ) (range other : NumberRange) : Type 0 where
  pub k : ℕ
  pub there : slice_get ranges k ≡ Some other
  pub before : k < at
  pub all : overlaps other range ≡ true

module _ (ranges : List NumberRange) (at : ℕ) (range other : NumberRange) where
  found : (k : Option ℕ) → position (λ one. overlaps one range) (take at ranges) ≡ k → option_and_then (slice_get ranges) k ≡ Some other
      → Overlaps ranges at range other
  found None e is = let no : ⊥ = cc in absurd no
  found (Some k) e is =
      let first = position-Some (λ (one : NumberRange). overlaps one range) (take at ranges) k range e in
      let long : length (take at ranges) ≡ min at (length ranges) = length-take at ranges in
      let low : k < at = omega (arith, first.0, long) in
      record {
        k = k;
        there = is;
        before = low;
        all = subst (λ (one : NumberRange). overlaps one range ≡ true)
            (get_or-take at ranges k range low ∙ get_or_from_slice_get ranges k other range is) first.1;
      }

  pub overlapping : overlapped ranges at range ≡ Some other → Overlaps ranges at range other
  overlapping is = found (position (λ one. overlaps one range) (take at ranges)) refl is
