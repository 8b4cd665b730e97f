-- The page is that of the plan.
use Rattle.std.proofs.Common.{◌++◌, ◌∙◌, ap}
use Rattle.std.proofs.lemmas.Result.{on_ok_weaker}
use Rattle.domain_reports.specs.Pages.{page_text}
use Rattle.domain_reports.specs.Views.{DomainView}
use Rattle.domain_cmds.proofs.Carrying.{paged}
use Rattle.domain_cmds.proofs.Noting.{all_fit, kept_still}
use Rattle.domain_cmds.proofs.planning.Planning.push_page.Goals as goal

pub said_of-requires : goal.said_of-requires
said_of-requires c = record { fits = all_fit c.self.inside.domain c.self.inside.origins c.self.invariant.2 }

pub invariant_of-self : goal.invariant_of-self
invariant_of-self c =
    let i = c.self.inside in
    kept_still i.filters.size i.since i.domain i.origins i.filters.named c.self.invariant c.said_of.new.domain c.said_of.ensures.same

pub invariant_of-self-2 : goal.invariant_of-self-2
invariant_of-self-2 c =
    let i = c.self.inside in
    kept_still i.filters.size i.since i.domain i.origins i.filters.named c.self.invariant c.said_of.new.domain c.said_of.ensures.same

pub returns-clause-ok : goal.returns-clause-ok
returns-clause-ok c =
    let i = c.self.inside in
    on_ok_weaker c.push_page.result
    (λ e. paged c.args.out.now.items c.push_page.new.out.items c.args.self.now i.domain i.begun _ i.since i.filters.named i.origins c.in_ok-said.said
    c.args.shell c.args.name.now c.self.view_is c.self.invariant.2 c.in_ok-said.ensures.said
    (e ∙ ap (λ (told : DomainView). c.args.out.now.items ++ page_text c.args.shell c.args.name.now told) c.report.ensures)) c.push_page.ensures
