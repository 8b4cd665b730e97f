use Rattle.std.proofs.Common.{sym, ◌∙◌, ap, length}
use Rattle.prefix_patterns.specs.BitLists.{length-prefix_bits}
use Rattle.prefix_patterns.proofs.prefix.Prefix.len.Goals as goal

pub returns-clause-bits : goal.returns-clause-bits
returns-clause-bits c =
    sym (length-prefix_bits c.self.inside.address c.self.inside.len c.self.invariant.limit) ∙ ap length c.self.view_is
