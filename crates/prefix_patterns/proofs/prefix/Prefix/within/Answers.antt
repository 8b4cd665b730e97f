use Rattle.std.proofs.Common.{rules, ◌≡◌}
use Rattle.std.proofs.lemmas.Bool.Decides.{Decides-at}
use Rattle.prefix_patterns.proofs.Matches.{lies_within-Decides}
use Rattle.prefix_patterns.specs.Matching.{lies_within}
use Rattle.prefix_patterns.proofs.prefix.Prefix.within.Goals as goal

pub returns-then-len-clause-cases : goal.returns-then-len-clause-cases
returns-then-len-clause-cases c =
    let exact : c.eq.result ≡ lies_within c.args.self.now c.args.other.now = search rules in
    Decides-at _ _ exact (lies_within-Decides c.args.self.now c.args.other.now)
