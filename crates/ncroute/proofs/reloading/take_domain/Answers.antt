use Rattle.std.proofs.Common.{subst}
use Rattle.domain_files.specs.Nodes.{IsAtNode}
use Rattle.ncroute.proofs.reloading.take_domain.Goals as goal

-- some file was read again, and this is what it says to the node
pub returns : goal.returns
returns g c =
    let file = c.in_ok-file.file in (
      file,
      c.in_ok-file.ensures,
      c.in-Some.node,
      subst (IsAtNode file c.args.origin.now.me) c.in-Some.is c.in_ok-node.ensures,
      c.in_ok-configured_by.ensures,
    )
