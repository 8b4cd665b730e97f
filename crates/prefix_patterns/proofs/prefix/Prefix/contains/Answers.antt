use Rattle.std.proofs.Common.{rules, ◌≡◌}
use Rattle.std.proofs.lemmas.Bool.Decides.{Decides-at}
use Rattle.prefix_patterns.proofs.Matches.{lies_within-Decides}
use Rattle.prefix_patterns.specs.Bits.{address_bits}
use Rattle.prefix_patterns.specs.Matching.{lies_within}
use Rattle.prefix_patterns.proofs.prefix.Prefix.contains.Goals as goal

pub returns-clause-cases : goal.returns-clause-cases
returns-clause-cases c =
    let exact : c.eq.result ≡ lies_within (address_bits c.args.ip.0) c.args.self.now = search rules in
    Decides-at _ _ exact (lies_within-Decides (address_bits c.args.ip.0) c.args.self.now)
