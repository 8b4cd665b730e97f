-- The routes are told of each history that the journal may have the end of.
use Rattle.std.proofs.Common.{ℕ, Ok, ◌++◌, refl, ap, ◌∙◌}
use Rattle.line_protocol.specs.declared.answers.LineReply.TheVariants.{Answered}
use Rattle.netchange_core.specs.World.{World}
use Rattle.router_status.specs.Objects.{routes_object}
use Rattle.router_operator.proofs.Showing.{told_routes}
use Rattle.router_operator.proofs.looking.answer_routes.Goals as goal

pub returns-clause-ok : goal.returns-clause-ok
returns-clause-ok c =
    told_routes {E = ℕ} c.args.journal.now c.args.out.now.items c.push_routes_object.new.out.items (Ok Answered)
    (c.in_ok-push_routes_object.ensures.ok ∙ ap (λ (w : World). c.args.out.now.items ++ routes_object w) c.tables.ensures, refl)
