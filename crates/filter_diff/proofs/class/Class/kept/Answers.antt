use Rattle.std.proofs.Common.{ℕ, Bool, List, arith, ◌≡◌, ◌≤◌, take, length, ◌∙◌, ap}
use Rattle.std.proofs.lemmas.Grind.{common_steps}
use Rattle.prefix_patterns.specs.Bits.{address_of, prefix_bits}
use Rattle.filter_diff.proofs.Addresses.{addr_is}
use Rattle.filter_diff.proofs.Knowing.{kept_known}
use Rattle.filter_diff.proofs.class.Class.kept.Goals as goal

pub returns-then-bits-len : goal.returns-then-bits-len
returns-then-bits-len c route of =
    let limit : length c.args.self.now.known ≤ 32 = omega (arith, c.len.ensures.bits, c.len.ensures.limit) in
    let few : c.args.bits ≤ length c.args.self.now.known = omega (arith, c.if-bits-len.true, c.len.ensures.bits) in
    let same : address_of (prefix_bits (address_of c.args.self.now.known) c.args.bits) ≡ address_of (take c.args.bits route.net) =
    kept_known _ _ c.args.bits of.begins limit few in
    let cut : c.unwrap-first.result ≡ prefix_bits c.address.result.0 c.args.bits = grind (arith, common_steps) in
    addr_is _ _
    (c.address-then-bits-len.ensures
    ∙ (ap (λ (p : List Bool). address_of p) cut ∙ (ap (λ (n : ℕ). address_of (prefix_bits n c.args.bits)) c.address.ensures ∙ same)))
