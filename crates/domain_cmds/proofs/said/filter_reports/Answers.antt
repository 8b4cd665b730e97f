-- One filter more.
use Rattle.std.proofs.Common.{◌≡◌, ◌+◌, ◌<◌, ◌≤◌, List, length, get_or, take, map, sym, ap, subst, ◌∙◌, take_all}
use Rattle.std.specs.List.{AllZip}
use Rattle.domain_reports.specs.Views.{filter_view}
use Rattle.domain_reports.specs.declared.filter.FilterReport.{FilterReport}
use Rattle.domain_routes.specs.PlanView.{opening_of}
use Rattle.netchange_core.specs.OpeningView.{OpeningView}
use Rattle.domain_cmds.specs.Origins.{OriginView}
use Rattle.domain_cmds.specs.Said.{IsFilterReport}
use Rattle.domain_cmds.proofs.Zipping.{zip_more}
use Rattle.domain_cmds.proofs.said.filter_reports.Goals as goal

pub filter_report-requires : goal.filter_report-requires
filter_report-requires c =
    let all = c.args.origins.now.all in
    let i = c.loop-origin.origin-index in
    let one = c.origin-item.result in
    let short : i < length all = subst (λ (l : List OriginView). i < length l) c.all-all.ensures c.loop-origin-test.true in
    let read : one ≡ get_or all i one = c.origin-item.is ∙ ap (λ (l : List OriginView). get_or l i one) c.all-all.ensures in
    record {
      fits = ap (λ (o : OriginView). o.filter.size) read ∙ c.requires.fits i one short
          ∙ sym (ap (λ (o : OpeningView). o.size) c.in_ok-opening.ensures);
    }

pub loop-origin-preserved : goal.loop-origin-preserved
loop-origin-preserved c =
    let all = c.args.origins.now.all in
    let shown = opening_of c.args.plan.now in
    let i = c.loop-origin.origin-index in
    let one = c.origin-item.result in
    let new = c.in_ok-filter_report.field-0 in
    let short : i < length all = subst (λ (l : List OriginView). i < length l) c.all-all.ensures c.loop-origin-test.true in
    let read : one ≡ get_or all i one = c.origin-item.is ∙ ap (λ (l : List OriginView). get_or l i one) c.all-all.ensures in
    let told : IsFilterReport shown one (filter_view new) =
    subst (λ (o : OpeningView). IsFilterReport o one (filter_view new)) c.in_ok-opening.ensures c.in_ok-filter_report.ensures in
    subst (λ (reports : List FilterReport). AllZip (IsFilterReport shown) (take (i + 1) all) (map filter_view reports))
    (sym {A = List FilterReport} c.in_ok-push.ensures.items)
    (zip_more (IsFilterReport shown) filter_view all c.loop-origin.reports.items i one new short read c.loop-origin.invariant told)

pub returns : goal.returns
returns c =
    let all = c.args.origins.now.all in
    let i = c.loop-origin.origin-index in
    let whole : length all ≤ i = subst (λ (l : List OriginView). length l ≤ i) c.all-all.ensures c.loop-origin-test.false in
    subst (λ (l : List OriginView). AllZip (IsFilterReport (opening_of c.args.plan.now)) l (map filter_view c.loop-origin.reports.items))
    (take_all i all whole) c.loop-origin.invariant
