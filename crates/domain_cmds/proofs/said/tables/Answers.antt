-- One node more.
use Rattle.std.proofs.Common.{List, [], ◌∷◌, ◌++◌, Vec, Global, map, ap, ◌∙◌}
use Rattle.std.proofs.lemmas.List.{map-append}
use Rattle.domain_reports.specs.declared.domain.RouteReport.{RouteReport}
use Rattle.domain_cmds.specs.Said.{table_of}
use Rattle.domain_cmds.proofs.Counting.{one_list_more}
use Rattle.domain_cmds.proofs.said.tables.Goals as goal

pub loop-u-preserved : goal.loop-u-preserved
loop-u-preserved c =
    let items : Vec RouteReport Global → List RouteReport = λ table. table.items in
    one_list_more (λ u. table_of c.args.size c.args.all.now u ∷ []) c.loop-u.u [] (map items c.loop-u.tables.items) (map items c.push.new.self.items)
    c.loop-u.invariant
    (ap (map items) c.in_ok-push.ensures.items ∙ map-append items c.loop-u.tables.items (c.in_ok-table_of.field-0 ∷ [])
    ∙ ap (λ (table : List RouteReport). map items c.loop-u.tables.items ++ table ∷ []) c.in_ok-table_of.ensures)
