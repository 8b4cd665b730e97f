-- The default prefixes are those of a plan.
use Rattle.std.proofs.Common.{◌≡◌, length, sym, subst, ◌∙◌, arith}
use Rattle.std.proofs.lemmas.Grind.{common_steps}
use Rattle.domain_routes.specs.Edits.{unlinked}
use Rattle.netchange_core.proofs.Openings.{is_there}
use Rattle.domain_cmds.specs.Origins.{AreLastOf}
use Rattle.domain_cmds.specs.State.{FiltersView}
use Rattle.domain_cmds.proofs.Noting.{none_known}
use Rattle.domain_cmds.proofs.Setting.{fits_size, one_a_node}
use Rattle.domain_cmds.proofs.planning.Planning.new.Goals as goal

pub unwrap-plan-requires : goal.unwrap-plan-requires
unwrap-plan-requires c =
    is_there c.in_ok-new.field-0 _ _ c.in_ok-new.ensures (fits_size c.args.size.nodes c.in_ok-prefixes.prefixes.items c.args.size.fits c.in_ok-prefixes.ensures)

pub invariant_of-result : goal.invariant_of-result
invariant_of-result c =
    let long : length c.in_ok-prefixes.prefixes.items ≡ c.args.size.nodes = one_a_node c.args.size.nodes c.in_ok-prefixes.prefixes.items c.args.size.fits c.in_ok-prefixes.ensures in
    let plan : c.unwrap-plan.result ≡ unlinked c.in_ok-prefixes.prefixes.items = grind (arith, common_steps) in (
      grind (arith, common_steps, long),
      tt,
      none_known c.new-domain.result c.in_ok-prefixes.prefixes.items c.new-origins.result (c.new-domain.ensures ∙ plan) c.new-origins.ensures,
      subst (λ (f : FiltersView). AreLastOf c.new-origins.result f.named) (sym c.new-filters.ensures) (λ name. tt),
    )
