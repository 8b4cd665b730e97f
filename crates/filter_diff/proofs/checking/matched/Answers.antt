use Rattle.std.proofs.Common.{Bool, List, ◌∙◌, ap, arith, sym}
use Rattle.prefix_patterns.specs.Matching.{matches}
use Rattle.filter_diff.proofs.Expected.{whole_net}
use Rattle.filter_diff.proofs.checking.matched.Goals as goal

pub returns-then-len-class-clause-matched : goal.returns-then-len-class-clause-matched
returns-then-len-class-clause-matched c route of =
    ap (λ (net : List Bool). matches net c.args.pattern.now)
    (whole_net c.args.class.now route (omega (arith, c.len.ensures.bits, c.if-len-class.true)) of)
    ∙ sym c.matches.ensures.exact
