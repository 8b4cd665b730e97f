use Rattle.std.proofs.Common.{◌-◌, sym, ap, ◌∙◌, arith, length}
use Rattle.std.proofs.lemmas.Nat.{one_shl}
use Rattle.prefix_patterns.specs.BitLists.{length-prefix_bits}
use Rattle.prefix_patterns.specs.Trees.{mask_of}
use Rattle.prefix_patterns.proofs.prefix.Prefix.mask.Goals as goal

pub returns-clause-value : goal.returns-clause-value
returns-clause-value c =
    let p = c.self.inside in
    let same = length-prefix_bits p.address p.len c.self.invariant.limit in
    ap (λ n. 4294967296 - n) (one_shl (32 - p.len) 64 (omega arith)) ∙ ap mask_of (sym same ∙ ap length c.self.view_is)

pub returns-clause-limit : goal.returns-clause-limit
returns-clause-limit c =
    let p = c.self.inside in
    omega (arith, c.self.invariant.limit, length-prefix_bits p.address p.len c.self.invariant.limit, ap length c.self.view_is)
