use Rattle.std.proofs.Common.{◌≡◌, ◌∙◌, ap}
use Rattle.std.proofs.lemmas.Result.{IfErr-weaker, IfOk-weaker}
use Rattle.std.specs.Option.{option_map}
use Rattle.router_options.specs.PlanView.{PlanView}
use Rattle.router_daemon.specs.Forgetting.{ForgetterView}
use Rattle.router_daemon.specs.Running.{keep_of}
use Rattle.router_daemon.specs.Spares.{linked_nodes}
use Rattle.router_daemon.specs.declared.fault.DaemonFault.TheVariants as fault
use Rattle.router_daemon.proofs.Running.{exits_early, run_fails, run_is_one, run_saves}
use Rattle.router_daemon.proofs.Sparing.{linked_again}
use Rattle.router_daemon.proofs.run.run_named.Goals as goal

pub returns-clause-operated : goal.returns-clause-operated
returns-clause-operated g c =
    let plan = c.args.setting.plan in
    let given = option_map (λ folder. g.S.SegmentFolder.holds folder) c.args.setting.save in
    let asked =
    ap (λ (v : ForgetterView). option_map keep_of v.saver) c.in_ok-bounding.ensures.begun ∙ c.in_ok-forgetter.ensures.how in
    let nodes = c.in_ok-shared.shared.value.nodes.items in
    let sliced : c.as_slice.result.now ≡ plan.links = c.as_slice.ensures.value ∙ ap (λ (p : PlanView). p.links) c.plan.view_is in
    let are : nodes ≡ linked_nodes plan =
    linked_again _ plan _ nodes c.plan.view_is sliced
    (ap (λ shared. shared.nodes.items) c.in_ok-shared.ensures.ok ∙ c.in_ok-shared_of.ensures) in
    IfOk-weaker c.end_run-ended.result _ _
    (λ end ok. run_is_one plan c.args.setting.filters.entries g.J.Naming.router c.args.pass nodes (g.I.Read.remaining c.args.reader.now)
    (g.I.Read.remaining c.serve_all-ran.new.reader) (g.W.Write.contents c.args.writer.now) (g.W.Write.contents c.serve_all-ran.new.writer)
    given c.requires.is_opened c.requires.set c.take_part.new.pass.fragment.seen c.in_ok-router_pass.ensures.same.0 are
    (λ o. o.answered) (λ o. o.router_pass.pass)
    c.serve_all-ran.result end.refused _ end.saved asked c.serve_all-ran.ensures.operated ok)
    c.end_run-ended.ensures.ok

pub returns-clause-saved : goal.returns-clause-saved
returns-clause-saved g c =
    let plan = c.args.setting.plan in
    let given = option_map (λ folder. g.S.SegmentFolder.holds folder) c.args.setting.save in
    let asked =
    ap (λ (v : ForgetterView). option_map keep_of v.saver) c.in_ok-bounding.ensures.begun ∙ c.in_ok-forgetter.ensures.how in
    let nodes = c.in_ok-shared.shared.value.nodes.items in
    let sliced : c.as_slice.result.now ≡ plan.links = c.as_slice.ensures.value ∙ ap (λ (p : PlanView). p.links) c.plan.view_is in
    let are : nodes ≡ linked_nodes plan =
    linked_again _ plan _ nodes c.plan.view_is sliced
    (ap (λ shared. shared.nodes.items) c.in_ok-shared.ensures.ok ∙ c.in_ok-shared_of.ensures) in
    IfOk-weaker c.end_run-ended.result _ _
    (λ end ok. run_saves plan c.args.setting.filters.entries g.J.Naming.router c.args.pass nodes (g.I.Read.remaining c.args.reader.now)
    (g.I.Read.remaining c.serve_all-ran.new.reader) (g.W.Write.contents c.args.writer.now) (g.W.Write.contents c.serve_all-ran.new.writer)
    given c.requires.is_opened c.requires.set c.take_part.new.pass.fragment.seen c.in_ok-router_pass.ensures.same.0 are
    (λ o. o.answered) (λ o. o.router_pass.pass)
    c.serve_all-ran.result end.refused _ end.saved asked ok)
    c.end_run-ended.ensures.ok

pub returns-clause-failed : goal.returns-clause-failed
returns-clause-failed g c =
    let plan = c.args.setting.plan in
    let given = option_map (λ folder. g.S.SegmentFolder.holds folder) c.args.setting.save in
    let nodes = c.in_ok-shared.shared.value.nodes.items in
    let sliced : c.as_slice.result.now ≡ plan.links = c.as_slice.ensures.value ∙ ap (λ (p : PlanView). p.links) c.plan.view_is in
    let are : nodes ≡ linked_nodes plan =
    linked_again _ plan _ nodes c.plan.view_is sliced
    (ap (λ shared. shared.nodes.items) c.in_ok-shared.ensures.ok ∙ c.in_ok-shared_of.ensures) in
    IfErr-weaker c.end_run-ended.result _ _
    (λ why is. run_fails plan c.args.setting.filters.entries g.J.Naming.router c.args.pass nodes (g.I.Read.remaining c.args.reader.now)
    (g.I.Read.remaining c.serve_all-ran.new.reader) (g.W.Write.contents c.args.writer.now) (g.W.Write.contents c.serve_all-ran.new.writer)
    given c.requires.is_opened c.requires.set c.take_part.new.pass.fragment.seen c.in_ok-router_pass.ensures.same.0 are
    (λ o. o.answered) (λ o. o.router_pass.pass)
    ((c.serve_all-ran.new.reader ≡ c.args.reader.now) × (c.serve_all-ran.new.writer ≡ c.args.writer.now))
    c.serve_all-ran.result why c.serve_all-ran.ensures.operated c.serve_all-ran.ensures.untouched is)
    c.end_run-ended.ensures.err

pub returns-in_err-shared-clause-failed : goal.returns-in_err-shared-clause-failed
returns-in_err-shared-clause-failed g c =
    exits_early c.args.setting.plan c.args.setting.filters.entries g.I.Read.remaining g.W.Write.contents c.args.reader.now c.args.writer.now
    c.from_residual-in_err-shared.result fault.Memory c.from_residual-in_err-shared.ensures.1 tt

pub returns-in_err-router_pass-clause-failed : goal.returns-in_err-router_pass-clause-failed
returns-in_err-router_pass-clause-failed g c =
    exits_early c.args.setting.plan c.args.setting.filters.entries g.I.Read.remaining g.W.Write.contents c.args.reader.now c.args.writer.now
    c.from_residual-in_err-router_pass.result fault.Memory c.from_residual-in_err-router_pass.ensures.1 tt

pub returns-in_err-bounding-clause-failed : goal.returns-in_err-bounding-clause-failed
returns-in_err-bounding-clause-failed g c =
    exits_early c.args.setting.plan c.args.setting.filters.entries g.I.Read.remaining g.W.Write.contents c.args.reader.now c.args.writer.now
    c.from_residual-in_err-bounding.result c.in_err-bounding.field-0.0 c.from_residual-in_err-bounding.ensures.1 c.in_err-bounding.ensures.early
