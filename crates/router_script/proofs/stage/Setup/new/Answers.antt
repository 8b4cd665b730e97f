-- A domain whose numbers fit is an opening.
use Rattle.netchange_core.proofs.Openings.{is_opening}
use Rattle.netchange_core.proofs.Openings.{is_there}
use Rattle.router_script.proofs.stage.Setup.new.Goals as goal

pub unwrap-opening-requires : goal.unwrap-opening-requires
unwrap-opening-requires c =
    is_there c.new.result _ _ c.new.ensures
    (is_opening c.args.network.size c.args.network.me c.in_ok-prefixes.prefixes.items c.args.network.nodes c.in_ok-prefixes.ensures)
