use Rattle.std.proofs.Common.{◌≡◌, Bool, List, sym, ◌∙◌, ap, length}
use Rattle.std.proofs.lemmas.Bool.Decides.{same_from_decides, Decides-like, Decides-eqb}
use Rattle.std.specs.Bool.{beq, Decides}
use Rattle.std.specs.Cmp.{booleans_Decides}
use Rattle.std.specs.Cmp.Lexicographic.{pointwise, pointwise_decides}
use Rattle.prefix_patterns.specs.Bits.{prefix_bits, address_of}
use Rattle.prefix_patterns.specs.BitLists.{length-prefix_bits}
use Rattle.prefix_patterns.proofs.prefix.PrefixPartialEq.eq.Goals as goal

-- the test of two lists of bits
same_bits : (ps qs : List Bool) → Decides (pointwise beq ps qs) (ps ≡ qs)
same_bits ps qs = pointwise_decides booleans_Decides ps qs

pub returns-then-self-other : goal.returns-then-self-other
returns-then-self-other c =
    let p = c.self.inside in
    let q = c.other.inside in
    let same_lengths = λ (e : p.len ≡ q.len). sym c.self.view_is
    ∙ (ap (λ n. prefix_bits n p.len) c.if-self-other.true ∙ ap (prefix_bits q.address) e) ∙ c.other.view_is in
    let same_lists = λ (e : c.args.self.now ≡ c.args.other.now).
    sym (length-prefix_bits p.address p.len c.self.invariant.limit)
    ∙ ap length (c.self.view_is ∙ e ∙ sym c.other.view_is)
    ∙ length-prefix_bits q.address q.len c.other.invariant.limit in
    same_from_decides _ _ (Decides-like _ same_lengths same_lists (Decides-eqb p.len q.len)) (same_bits c.args.self.now c.args.other.now)

pub returns-else-self-other : goal.returns-else-self-other
returns-else-self-other c =
    let p = c.self.inside in
    let q = c.other.inside in
    let same_addresses = λ (e : c.args.self.now ≡ c.args.other.now).
    sym c.self.invariant.clear ∙ ap address_of (c.self.view_is ∙ e ∙ sym c.other.view_is) ∙ c.other.invariant.clear in
    same_from_decides _ _ (Decides-like _ (λ e. absurd (c.if-self-other.false e)) same_addresses
    (Decides-eqb p.address q.address)) (same_bits c.args.self.now c.args.other.now)
