-- The digest is that of the file's plan.
use Rattle.std.proofs.Common.{ℕ, List, Some, ap, ◌∙◌}
use Rattle.domain_files.specs.PlanTexts.{digest_of}
use Rattle.router_options.specs.PlanView.{PlanView}
use Rattle.router_options.specs.declared.plan.DomainMark.{DomainMark}
use Rattle.ncroute.proofs.domain_router.with_mark.Goals as goal

pub returns : goal.returns
returns c =
    let with_digest = λ (digest : List ℕ).
    let mark : DomainMark = record { digest = digest; allows_other = c.args.words.now.allows_other } in
    let view : PlanView = record c.args.plan { domain = Some mark } in
    view in
    c.set_domain.ensures ∙ ap with_digest (c.in_ok-digest.ensures ∙ ap digest_of c.plan-domain.ensures)
