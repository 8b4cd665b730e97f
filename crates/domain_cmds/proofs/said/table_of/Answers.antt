-- One destination more.
use Rattle.std.proofs.Common.{[], ◌∷◌, ◌++◌, ap, ◌∙◌}
use Rattle.domain_reports.specs.declared.domain.RouteReport.{RouteReport}
use Rattle.domain_cmds.specs.Said.{route_report}
use Rattle.domain_cmds.specs.Texts.{route_of}
use Rattle.domain_cmds.proofs.Counting.{one_list_more}
use Rattle.domain_cmds.proofs.said.table_of.Goals as goal

pub loop-v-preserved : goal.loop-v-preserved
loop-v-preserved c =
    one_list_more (λ v. route_report (route_of c.args.size c.args.all.now c.args.u v) ∷ []) c.loop-v.v [] c.loop-v.routes.items c.push.new.self.items
    c.loop-v.invariant
    (c.in_ok-push.ensures.items ∙ ap (λ (r : RouteReport). c.loop-v.routes.items ++ r ∷ []) c.route_report.ensures)
