-- The plans between which a plan stayed have its nodes.
use Rattle.std.proofs.Common.{◌≡◌, ℕ, zero, suc, Bool, true, false, if◌then◌else◌, Option, Some, None, IfSome, refl, subst, ◌∙◌}
use Rattle.std.specs.Option.{option_map}
use Rattle.domain_routes.specs.PlanView.{PlanView, is_linked}
use Rattle.domain_routes.specs.Still.{BetweenView, after_anew, after_link, after_links_below}

-- they have so many nodes, where there are such plans
abbrev pub Fit : Option BetweenView → ℕ → Type 0
Fit since size = IfSome since (λ b. b.most.size ≡ size)

pub fit_same : (since : Option BetweenView) (a b : ℕ) → a ≡ b → Fit since a → Fit since b
fit_same since a b same h = subst (Fit since) same h

pub fit_there : (since : Option BetweenView) (b : BetweenView) (size : ℕ) → since ≡ Some b → Fit since size → b.most.size ≡ size
fit_there since b size is h = subst (λ (s : Option BetweenView). Fit s size) is h

pub fit_after : (since : Option BetweenView) (change : BetweenView → BetweenView) (size : ℕ) → ((b : BetweenView) → (change b).most.size ≡ b.most.size)
    → Fit since size → Fit (option_map change since) size
fit_after None change size keeps h = h
fit_after (Some b) change size keeps h = keeps b ∙ h

one_size : (t : Bool) (b : BetweenView) (u w size : ℕ) → b.most.size ≡ size → (if t then after_link u w b else b).most.size ≡ size
one_size true b u w size h = h
one_size false b u w size h = h

links_size : (n : ℕ) (plan : PlanView) (u : ℕ) (b : BetweenView) → (after_links_below n plan u b).most.size ≡ b.most.size
links_size zero plan u b = refl
links_size (suc n) plan u b = one_size (is_linked plan u n) (after_links_below n plan u b) u n b.most.size (links_size n plan u b)

pub anew_size : (plan : PlanView) (u : ℕ) (b : BetweenView) → (after_anew plan u b).most.size ≡ b.most.size
anew_size plan u b = links_size plan.size plan u b
