use Rattle.std.proofs.Common.{◌≡◌, sym, subst, arith, List, Bool}
use Rattle.std.proofs.lemmas.Grind.{common_steps}
use Rattle.domain_routes.specs.Edits.{unlinked}
use Rattle.domain_routes.specs.PlanView.{IsPlan}
use Rattle.domain_routes.proofs.Unlinked.{unlinked_plan}
use Rattle.domain_routes.proofs.plan.make_plan.Goals as goal

pub invariant_of-result : goal.invariant_of-result
invariant_of-result c =
    let prefixes : List (List Bool) = c.args.opening.prefixes in
    let limits = c.size-size.ensures.limits in
    let same : (record { size = c.args.opening.size; prefixes = c.args.opening.prefixes; rows = c.loop.rows.items }) ≡ unlinked c.args.opening.prefixes =
    grind (arith, common_steps, limits.one_a_node) in (
      c.requires,
      subst IsPlan (sym same) (unlinked_plan c.args.opening.prefixes
          (record { from_two = omega (arith, limits); to_largest = omega (arith, limits) })),
    )
