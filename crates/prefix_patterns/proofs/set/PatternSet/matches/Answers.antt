use Rattle.std.proofs.Common.{rules, ◌≡◌}
use Rattle.std.proofs.lemmas.Bool.Decides.{Decides-at}
use Rattle.prefix_patterns.proofs.Matches.{matches_any-Decides}
use Rattle.prefix_patterns.specs.Matching.{matches_any}
use Rattle.prefix_patterns.proofs.set.PatternSet.matches.Goals as goal

pub returns-in-Index-clause-any : goal.returns-in-Index-clause-any
returns-in-Index-clause-any c =
    let exact : c.matches.result ≡ matches_any c.args.prefix.now c.args.self.now = search rules in
    Decides-at _ _ exact (matches_any-Decides c.args.prefix.now c.args.self.now)

pub returns-in-Scan-clause-any : goal.returns-in-Scan-clause-any
returns-in-Scan-clause-any c =
    let exact : c.any_leaf_matches.result ≡ matches_any c.args.prefix.now c.args.self.now = search rules in
    Decides-at _ _ exact (matches_any-Decides c.args.prefix.now c.args.self.now)
