use Rattle.std.proofs.Common.{◌∙◌}
use Rattle.filter_diff.proofs.Addresses.{last_computed}
use Rattle.filter_diff.proofs.judge.ends_of.Goals as goal

pub returns-clause-last : goal.returns-clause-last
returns-clause-last c =
    last_computed c.args.prefix c.from-first.result c.len-bits.result (c.from-first.ensures ∙ c.address.ensures) c.len-bits.ensures.bits
    c.len-bits.ensures.limit
