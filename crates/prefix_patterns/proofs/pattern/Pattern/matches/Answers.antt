use Rattle.std.proofs.Common.{rules, ◌≡◌}
use Rattle.std.proofs.lemmas.Bool.Decides.{Decides-at}
use Rattle.prefix_patterns.proofs.Matches.{matches-Decides}
use Rattle.prefix_patterns.specs.Matching.{matches}
use Rattle.prefix_patterns.proofs.pattern.Pattern.matches.Goals as goal

pub returns-then-has_same_bits-clause-cases : goal.returns-then-has_same_bits-clause-cases
returns-then-has_same_bits-clause-cases c =
    let exact : c.takes.result ≡ matches c.args.prefix.now c.args.self.now = search rules in
    Decides-at _ _ exact (matches-Decides c.args.prefix.now c.args.self.now)

pub returns-else-has_same_bits-clause-cases : goal.returns-else-has_same_bits-clause-cases
returns-else-has_same_bits-clause-cases c =
    let exact : c.has_same_bits.result ≡ matches c.args.prefix.now c.args.self.now = search rules in
    Decides-at _ _ exact (matches-Decides c.args.prefix.now c.args.self.now)
