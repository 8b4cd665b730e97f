-- The filters stay as they are.
use Rattle.domain_cmds.proofs.Noting.{kept_prefixed}
use Rattle.domain_cmds.proofs.planning.Planning.set_prefix.Goals as goal

pub invariant_of-self : goal.invariant_of-self
invariant_of-self c =
    let i = c.self.inside in
    kept_prefixed i.filters.size i.since i.domain i.origins i.filters.named c.self.invariant c.set_prefix.new.self c.args.node c.args.prefix
    c.set_prefix.ensures
