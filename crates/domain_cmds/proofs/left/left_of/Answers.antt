-- A script leaves the domain that it set up, or nothing.
use Rattle.std.proofs.Common.{arith}
use Rattle.domain_cmds.proofs.Leaving.{left_domain, left_nothing}
use Rattle.domain_cmds.proofs.left.left_of.Goals as goal

pub returns-in-Some : goal.returns-in-Some
returns-in-Some c =
    left_domain c.args.engine.planning c.into_domain.result c.in-Some.domain c.args.refused c.into_domain.ensures c.in-Some.is (omega arith)

pub returns-in-None : goal.returns-in-None
returns-in-None c = (left_nothing c.args.engine.planning c.into_domain.result c.into_domain.ensures c.in-None.is, omega arith)
