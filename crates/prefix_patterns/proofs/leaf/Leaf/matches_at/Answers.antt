use Rattle.std.proofs.Common.{◌≡◌, ℕ, ◌<◌, ◌==◌, ◌&&◌, false, nat_le, arith, refl, sym, bit_and, get_or, length, ap, ◌∙◌}
use Rattle.prefix_patterns.specs.Bits.{address_of}
use Rattle.prefix_patterns.specs.Matching.{has_same_bits}
use Rattle.std.proofs.Math.Bool.{and-false}
use Rattle.std.proofs.lemmas.Bool.Decides.{nat_tests}
use Rattle.prefix_patterns.specs.Trees.{mask_of}
use Rattle.prefix_patterns.proofs.Leaves.{same_under_masks}
use Rattle.prefix_patterns.proofs.leaf.Leaf.matches_at.Goals as goal

pub returns-clause-filled : goal.returns-clause-filled
returns-clause-filled c = λ pattern h.
    let leaf = c.args.self.now in
    let prefix = c.args.prefix.now in
    let at = c.args.at in
    let mask = bit_and (get_or leaf.masks at 0) c.mask.result in
    let masks : mask ≡ bit_and (mask_of (length pattern.bits)) (mask_of (length prefix)) =
    ap (λ m. bit_and m c.mask.result) h.mask ∙ ap (bit_and (mask_of (length pattern.bits))) c.mask.ensures.value in
    let bits = same_under_masks prefix pattern.bits mask c.mask.ensures.limit h.limit masks in
    let same : (bit_and (get_or leaf.addresses at 0) mask == bit_and c.address.result.0 mask) ≡ has_same_bits prefix pattern.bits =
    ap (λ a. bit_and a mask == bit_and c.address.result.0 mask) h.address
    ∙ ap (λ a. bit_and (address_of pattern.bits) mask == bit_and a mask) c.address.ensures ∙ bits in
    let low : nat_le (get_or leaf.lows at 0) c.len.result ≡ nat_le pattern.low (length prefix) =
    ap (λ n. nat_le n c.len.result) h.low ∙ ap (nat_le pattern.low) c.len.ensures.bits in
    let high : nat_le c.len-2.result (get_or leaf.highs at 0) ≡ nat_le (length prefix) pattern.high =
    ap (nat_le c.len-2.result) h.high ∙ ap (λ n. nat_le n pattern.high) c.len-2.ensures.bits in
    rw (same, low, high) refl

-- no length is at least the least and at most the greatest where the greatest is below the least
none_between : (low high len : ℕ) → high < low → (nat_le low len && nat_le len high) ≡ false
none_between low high len vacant = grind (arith, nat_tests)

pub returns-clause-empty : goal.returns-clause-empty
returns-clause-empty c = λ vacant.
    let leaf = c.args.self.now in
    let len : c.len-2.result ≡ c.len.result = c.len-2.ensures.bits ∙ sym c.len.ensures.bits in
    rw (len, none_between (get_or leaf.lows c.args.at 0) (get_or leaf.highs c.args.at 0) c.len.result vacant) (and-false _)
