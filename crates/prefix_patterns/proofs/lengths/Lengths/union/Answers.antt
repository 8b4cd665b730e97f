use Rattle.std.proofs.Common.{◌≡◌, ℕ, ◌<◌, ◌==◌, ◌||◌, max, arith}
use Rattle.std.proofs.lemmas.Bool.Decides.{nat_tests}
use Rattle.std.proofs.lemmas.Nat.Bits.{bit_at_or, bit_at-lt}
use Rattle.prefix_patterns.proofs.lengths.Lengths.union.Goals as goal

-- the greater of two bits is set if one of them is
either_bit : (c a b : ℕ) → c ≡ max a b → a < 2 → b < 2 → (c == 1) ≡ ((a == 1) || (b == 1))
either_bit c a b e small_a small_b = grind (arith, nat_tests)

pub returns : goal.returns
returns c = λ len. either_bit _ _ _ (bit_at_or c.args.self.mask c.args.other.mask len) (bit_at-lt c.args.self.mask len)
    (bit_at-lt c.args.other.mask len)
