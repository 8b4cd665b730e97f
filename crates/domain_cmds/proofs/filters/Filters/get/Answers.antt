-- What the map has for a name is the filter of the name, and it fits.
use Rattle.std.proofs.Common.{◌≡◌, Option, Some, None, IfSome, sym, subst, ap, ◌∙◌, arith}
use Rattle.std.proofs.lemmas.Grind.{common_steps}
use Rattle.filter_verifier.specs.VerifiedView.{VerifiedView}
use Rattle.domain_cmds.specs.State.{FiltersView, filter_named}
use Rattle.domain_cmds.proofs.filters.Filters.get.Goals as goal

pub returns-in_ok-try_clone-in-Some-clause-found : goal.returns-in_ok-try_clone-in-Some-clause-found
returns-in_ok-try_clone-in-Some-clause-found c =
    let there : filter_named c.self.inside.named.entries c.args.name.now ≡ Some c.in_ok-try_clone-in-Some.field-0.value =
    grind (arith, common_steps) in
    ap (λ (f : FiltersView). filter_named f.named c.args.name.now) (sym c.self.view_is) ∙ there

pub returns-in_ok-try_clone-in-Some-clause-fits : goal.returns-in_ok-try_clone-in-Some-clause-fits
returns-in_ok-try_clone-in-Some-clause-fits c =
    let there : filter_named c.self.inside.named.entries c.args.name.now ≡ Some c.in_ok-try_clone-in-Some.field-0.value =
    grind (arith, common_steps) in
    subst (λ (o : Option VerifiedView). IfSome o (λ f. f.size ≡ c.self.inside.size)) there (c.self.invariant c.args.name.now)
    ∙ ap (λ (f : FiltersView). f.size) c.self.view_is

pub returns-in-None-clause-found : goal.returns-in-None-clause-found
returns-in-None-clause-found c =
    let there : filter_named c.self.inside.named.entries c.args.name.now ≡ None = grind (arith, common_steps) in
    ap (λ (f : FiltersView). filter_named f.named c.args.name.now) (sym c.self.view_is) ∙ there
