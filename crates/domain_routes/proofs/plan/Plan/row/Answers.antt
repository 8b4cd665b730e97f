use Rattle.std.proofs.Common.{◌≡◌, List, [], slice_index_or, subst, ap, ◌∙◌, arith}
use Rattle.std.proofs.lemmas.Grind.{common_steps}
use Rattle.domain_routes.specs.PlanView.{IsPlan, PeerView, stranger}
use Rattle.domain_routes.proofs.plan.Plan.row.Goals as goal

pub returns-clause-linked : goal.returns-clause-linked
returns-clause-linked c =
    let plan : IsPlan c.args.self.now = subst IsPlan c.self.view_is (c.self.invariant.1) in
    let here : c.index.result.now ≡ slice_index_or c.args.self.now.rows c.args.u [] = grind (arith, common_steps) in
    λ w.
    ap (λ (row : List PeerView). (slice_index_or row w stranger).linked) here
    ∙ plan.both_ways c.args.u w
