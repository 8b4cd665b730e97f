use Rattle.std.proofs.Common.{rules, ◌≡◌}
use Rattle.std.proofs.lemmas.Bool.Decides.{Decides-at}
use Rattle.int_sets.specs.Holding.{holds_any}
use Rattle.int_sets.proofs.Holding.{holds_any-Decides}
use Rattle.int_sets.proofs.set.IntSet.holds.Goals as goal

pub returns-in-Some-clause-any : goal.returns-in-Some-clause-any
returns-in-Some-clause-any c =
    let exact : c.search.result ≡ holds_any c.args.number c.args.self.now = search rules in
    Decides-at _ _ exact (holds_any-Decides c.args.number c.args.self.now)

pub returns-in-None-clause-any : goal.returns-in-None-clause-any
returns-in-None-clause-any c =
    let exact : c.scan.result ≡ holds_any c.args.number c.args.self.now = search rules in
    Decides-at _ _ exact (holds_any-Decides c.args.number c.args.self.now)
