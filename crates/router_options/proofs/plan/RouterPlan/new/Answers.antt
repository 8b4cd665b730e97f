-- A domain whose numbers fit is an opening.
use Rattle.netchange_core.proofs.Openings.{is_opening}
use Rattle.netchange_core.proofs.Openings.{is_there}
use Rattle.router_options.proofs.Growing.{fit_network}
use Rattle.router_options.proofs.plan.RouterPlan.new.Goals as goal

pub unwrap-requires : goal.unwrap-requires
unwrap-requires c =
    is_there c.new.result _ _ c.new.ensures
    (is_opening _ _ c.in_ok-prefixes.prefixes.items (fit_network _ _ _ _ _ _ c.in_ok-check_numbers.ensures.fit) c.in_ok-prefixes.ensures)
