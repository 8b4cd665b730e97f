use Rattle.std.proofs.Common.{◌≡◌, ℕ, ◌-◌, ◌*◌, ◌/◌, ◌%◌, ◌^◌, ◌<◌, ◌≤◌, ◌∙◌, ap, arith}
use Rattle.std.proofs.lemmas.Nat.{shl_whole, shr_le}
use Rattle.prefix_patterns.specs.Bits.{prefix_bits, address_of, HasNoBitPast}
use Rattle.prefix_patterns.specs.BitLists.{prefix_bits-cleared, address_of-prefix_bits}
use Rattle.prefix_patterns.proofs.prefix.Prefix.masked.Goals as goal

-- the shifts lose nothing at 64 bits
shifted : (n address len : ℕ) → n ≡ address → address < 2 ^ 32 →
    n / 2 ^ (32 - len) * 2 ^ (32 - len) % 2 ^ 64 ≡ address / 2 ^ (32 - len) * 2 ^ (32 - len)
shifted n address len e fits =
    rw e (shl_whole (address / 2 ^ (32 - len)) 32 (32 - len) 64 (omega (arith, shr_le address (32 - len))) (omega arith))

-- the address with zeros past the length is the first of its prefix
cleared : (address len : ℕ) → address < 2 ^ 32 → len ≤ 32 → HasNoBitPast len (address / 2 ^ (32 - len) * 2 ^ (32 - len))
cleared address len fits limit = record {
  limit = limit;
  clear = ap address_of (prefix_bits-cleared address len limit) ∙ address_of-prefix_bits address len fits limit;
}

pub invariant_of-result : goal.invariant_of-result
invariant_of-result c =
    let fits : c.args.ip.0 < 2 ^ 32 = omega arith in
    rw (shifted c.from.result c.args.ip.0 c.args.len c.from.ensures fits) (cleared c.args.ip.0 c.args.len fits c.requires)

pub returns : goal.returns
returns c =
    let fits : c.args.ip.0 < 2 ^ 32 = omega arith in
    ap (λ n. prefix_bits n c.args.len) (shifted c.from.result c.args.ip.0 c.args.len c.from.ensures fits)
    ∙ prefix_bits-cleared c.args.ip.0 c.args.len c.requires
