-- What is noted is the filter that the name has.
use Rattle.std.proofs.Common.{◌≡◌, Option, Some, None, MatchOption, ap, refl, subst, sym, ◌∙◌}
use Rattle.std.specs.Option.{option_map}
use Rattle.std.specs.declared.sync.Arc.{Arc}
use Rattle.std.specs.declared.alloc.Global.{Global}
use Rattle.std.proofs.lemmas.Result.{on_ok_weaker}
use Rattle.filter_verifier.specs.VerifiedView.{VerifiedView}
use Rattle.domain_cmds.specs.Origins.{Notes}
use Rattle.domain_cmds.specs.State.{filter_named}
use Rattle.domain_cmds.proofs.planning.note_named.Goals as goal

pub returns-in-Some-clause-ok : goal.returns-in-Some-clause-ok
returns-in-Some-clause-ok c =
    let found : filter_named c.args.filters.now.named c.args.name.now ≡ Some c.in-Some.filter.value =
    c.in_ok-filter.ensures.found ∙ ap (λ (o : Option (Arc VerifiedView Global)). option_map (λ f. f.value) o) c.in-Some.is in
    on_ok_weaker c.note.result
    (λ h. subst (λ (o : Option VerifiedView). MatchOption o (c.note.new.self ≡ c.args.origins.now)
    (λ f. Notes c.args.number c.args.name.now c.args.source f c.args.origins.now c.note.new.self)) (sym found) h) c.note.ensures.ok

pub returns-in-None-clause-ok : goal.returns-in-None-clause-ok
returns-in-None-clause-ok c =
    let found : filter_named c.args.filters.now.named c.args.name.now ≡ None =
    c.in_ok-filter.ensures.found ∙ ap (λ (o : Option (Arc VerifiedView Global)). option_map (λ f. f.value) o) c.in-None.is in
    subst (λ (o : Option VerifiedView). MatchOption o (c.args.origins.now ≡ c.args.origins.now)
    (λ f. Notes c.args.number c.args.name.now c.args.source f c.args.origins.now c.args.origins.now)) (sym found) refl
