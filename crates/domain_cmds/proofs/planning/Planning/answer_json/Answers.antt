-- What is said of the plan is told of the domain, in which prefixes stay from now on.
use Rattle.std.proofs.Common.{◌++◌, ◌∙◌, List, ℕ, ap}
use Rattle.domain_reports.specs.Reports.{domain_line}
use Rattle.domain_reports.specs.Views.{domain_view}
use Rattle.domain_cmds.proofs.Carrying.{said}
use Rattle.domain_cmds.proofs.Noting.{all_fit, kept_still}
use Rattle.domain_cmds.proofs.planning.Planning.answer_json.Goals as goal

pub said_of-requires : goal.said_of-requires
said_of-requires c = record { fits = all_fit c.self.inside.domain c.self.inside.origins c.self.invariant.2 }

pub invariant_of-self : goal.invariant_of-self
invariant_of-self c =
    let i = c.self.inside in
    kept_still i.filters.size i.since i.domain i.origins i.filters.named c.self.invariant c.said_of.new.domain c.said_of.ensures.same

pub invariant_of-self-in_err-push_domain : goal.invariant_of-self-in_err-push_domain
invariant_of-self-in_err-push_domain c =
    let i = c.self.inside in
    kept_still i.filters.size i.since i.domain i.origins i.filters.named c.self.invariant c.said_of.new.domain c.said_of.ensures.same

pub invariant_of-self-in_err-extend_from_slice : goal.invariant_of-self-in_err-extend_from_slice
invariant_of-self-in_err-extend_from_slice c =
    let i = c.self.inside in
    kept_still i.filters.size i.since i.domain i.origins i.filters.named c.self.invariant c.said_of.new.domain c.said_of.ensures.same

pub invariant_of-self-2 : goal.invariant_of-self-2
invariant_of-self-2 c =
    let i = c.self.inside in
    kept_still i.filters.size i.since i.domain i.origins i.filters.named c.self.invariant c.said_of.new.domain c.said_of.ensures.same

pub returns-clause-ok : goal.returns-clause-ok
returns-clause-ok c =
    let i = c.self.inside in
    said c.args.out.now.items c.extend_from_slice.new.self.items c.args.self.now i.domain i.begun _ i.since c.said_of.new.domain i.filters.named
    i.origins c.in_ok-said.said c.as_slice.result.now c.self.view_is c.said_of.ensures.same c.self.invariant.2 c.in_ok-said.ensures.said
    (c.as_slice.ensures.value ∙ c.in_ok-push_domain.ensures
    ∙ ap (λ (bytes : List ℕ). bytes ++ domain_line (domain_view c.report.result)) c.new-line.ensures.items ∙ ap domain_line c.report.ensures)
    c.in_ok-extend_from_slice.ensures.items
