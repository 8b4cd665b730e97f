-- What is said of a filter is what its origin says, and what distances come to under it.
use Rattle.std.proofs.Common.{map, Some, subst, ap, ◌∙◌}
use Rattle.domain_reports.specs.Views.{effect_view}
use Rattle.filter_verifier.specs.Bounds.{cost, peak}
use Rattle.filter_verifier.specs.VerifiedView.{VerifiedView}
use Rattle.domain_cmds.specs.Origins.{OriginView}
use Rattle.domain_cmds.specs.Said.{AreEffects}
use Rattle.domain_cmds.proofs.said.filter_report.Goals as goal

pub effects_of-requires : goal.effects_of-requires
effects_of-requires c =
    let same = c.in_ok-try_clone.ensures ∙ ap (λ (o : OriginView). o.filter) c.origin.view_is in
    record { fits = ap (λ (f : VerifiedView). f.size) same ∙ c.requires.fits }

pub returns : goal.returns
returns c =
    let same = c.origin.view_is in
    let filter = ap (λ (o : OriginView). o.filter) same in
    record {
      name = c.as_slice.ensures.value ∙ ap (λ (o : OriginView). o.name) same;
      line = ap (λ (o : OriginView). o.line) same;
      text = c.as_deref.ensures.value ∙ ap (λ (o : OriginView). o.text) same;
      listing = c.as_slice-2.ensures.value ∙ ap (λ (o : OriginView). o.listing) same;
      budget = c.budget.ensures.value ∙ ap (λ (f : VerifiedView). cost f.program.instrs 0) (c.deref.ensures ∙ filter);
      depth = c.depth.ensures.value ∙ ap (λ (f : VerifiedView). peak f.program.instrs 0 0) (c.deref-2.ensures ∙ filter);
      effects = subst (λ (f : VerifiedView). AreEffects c.args.opening.now (Some f) (map effect_view c.in_ok-effects_of.field-0.items))
          (c.in_ok-try_clone.ensures ∙ filter) c.in_ok-effects_of.ensures;
    }
