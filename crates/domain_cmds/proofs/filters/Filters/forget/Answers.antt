-- The other names have what they had, and their filters still fit.
use Rattle.std.proofs.Common.{◌≡◌, ◌≢◌, List, ℕ, Option, Global, ap, subst}
use Rattle.std.specs.Option.{option_map}
use Rattle.std.specs.declared.sync.Arc.{Arc}
use Rattle.filter_verifier.specs.VerifiedView.{VerifiedView}
use Rattle.domain_cmds.specs.State.{FiltersView, filter_named}
use Rattle.domain_cmds.proofs.Forgetting.{others_stay, rest_fits}
use Rattle.domain_cmds.proofs.filters.Filters.forget.Goals as goal

pub invariant_of-self : goal.invariant_of-self
invariant_of-self c =
    let m = c.self.inside.named.entries in
    let n = c.remove.new.self.entries in
    rest_fits c.self.inside.size m n c.args.name.now c.self.invariant
    (ap (λ (o : Option (Arc VerifiedView Global)). option_map (λ f. f.value) o) (c.remove.ensures.updates.1))
    (others_stay m n c.args.name.now (c.remove.ensures.updates.3))

pub returns-clause-kept : goal.returns-clause-kept
returns-clause-kept c =
    subst
    (λ (f : FiltersView). (other : List ℕ) → other ≢ c.args.name.now
    → filter_named c.remove.new.self.entries other ≡ filter_named f.named other)
    c.self.view_is (others_stay c.self.inside.named.entries c.remove.new.self.entries c.args.name.now (c.remove.ensures.updates.3))
