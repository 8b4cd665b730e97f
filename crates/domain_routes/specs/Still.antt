-- Which distances stand still while a plan changes: what two plans say alike between which it stays.
use Rattle.std.specs.Prelude.{◌≡◌, ◌⊎◌, ℕ, suc, zero, ◌==◌, ◌&&◌, min, if◌then◌else◌, Bool, true, false, List, Option, None, Some}
use Rattle.filter_verifier.specs.VerifiedView.{VerifiedView}
use Rattle.routing_domain.specs.Failures.{Loose}
use Rattle.domain_routes.specs.Edits.{linking, unfiltered}
use Rattle.domain_routes.specs.PlanView.{IsPlan, PlanView, is_linked, peer}
use Rattle.domain_routes.specs.Routes.{route_at}
use Rattle.domain_routes.specs.declared.best.Best.{Best}

-- ---- what was done to a plan since a moment

-- the plan with each link that there was at any time since, and without filters where one was set; and the plan with the links alone to which
-- nothing was done
pub record BetweenView : Type 0 where
  pub most : PlanView
  pub least : PlanView

-- nothing was done yet
abbrev pub unchanged : PlanView → BetweenView
unchanged p = record { most = p; least = p }

-- a link was made or cut, or came and went
abbrev pub after_link : ℕ → ℕ → BetweenView → BetweenView
after_link u w b = record { most = linking true u w b.most; least = linking false u w b.least }

-- a filter was set that what the first node receives from the second passes
abbrev pub after_filter : ℕ → ℕ → BetweenView → BetweenView
after_filter u w b = record { most = unfiltered u w (linking true u w b.most); least = linking false u w b.least }

-- each link of a node came and went: those to lesser nodes than one, and all
abbrev pub after_links_below : ℕ → PlanView → ℕ → BetweenView → BetweenView
after_links_below zero plan u b = b
after_links_below (suc n) plan u b = if is_linked plan u n then after_link u n (after_links_below n plan u b) else after_links_below n plan u b

abbrev pub after_anew : PlanView → ℕ → BetweenView → BetweenView
after_anew plan u b = after_links_below plan.size plan u b

-- ---- which plans lie between them

-- the second plan has the links of the first, or some of them, and the same filters and prefixes
pub record HasFewerLinks (p q : PlanView) : Type 0 where
  pub size : q.size ≡ p.size
  pub prefixes : q.prefixes ≡ p.prefixes
  pub linked : (u w : ℕ) → is_linked q u w ≡ true → is_linked p u w ≡ true
  pub imports : (u w : ℕ) → (peer q u w).imports ≡ (peer p u w).imports
  pub exports : (u w : ℕ) → (peer q u w).exports ≡ (peer p u w).exports

-- the links that one of two plans has, and the other has not
abbrev pub is_other : Bool → Bool → Bool
is_other true true = false
is_other true false = true
is_other false true = true
is_other false false = false

-- what the first node receives from the second passes no filter
abbrev pub is_none : Option VerifiedView → Bool
is_none None = true
is_none (Some f) = false

abbrev pub is_unfiltered : PlanView → ℕ → ℕ → Bool
is_unfiltered p u w = is_none (peer p u w).imports && is_none (peer p w u).exports

-- what may have happened meanwhile: links came and went that the greatest plan alone has, and filters were replaced on those of them on which it has
-- none
abbrev pub loose_between : BetweenView → Loose
loose_between b = record {
  links = λ u w. is_other (is_linked b.most u w) (is_linked b.least u w);
  filters = λ u w. is_other (is_linked b.most u w) (is_linked b.least u w) && is_unfiltered b.most u w;
}

-- what the first node receives from the second passes the same filters in both plans
pub record HasSameFilters (p q : PlanView) (u w : ℕ) : Type 0 where
  pub imports : (peer p u w).imports ≡ (peer q u w).imports
  pub exports : (peer p w u).exports ≡ (peer q w u).exports

-- a plan has all links of the least and none that the greatest has not, and the greatest's filters but where these may have been replaced
pub record IsBetween (b : BetweenView) (p : PlanView) : Type 0 where
  pub size : b.most.size ≡ p.size
  pub prefixes : b.most.prefixes ≡ p.prefixes
  pub more : (u w : ℕ) → is_linked p u w ≡ true → is_linked b.most u w ≡ true
  pub fewer : (u w : ℕ) → is_linked b.least u w ≡ true → is_linked p u w ≡ true
  pub filters : (u w : ℕ) → ((loose_between b).filters u w ≡ true) ⊎ HasSameFilters b.most p u w

-- a plan as it was when it began: it lies between them, too, and the least has its filters
pub record IsSince (b : BetweenView) (p : PlanView) : Type 0 where
  pub between : IsBetween b p
  pub least : HasFewerLinks p b.least

-- both of them are plans, between which a plan stayed that was the first and is the second
pub record StaysBetween (b : BetweenView) (p q : PlanView) : Type 0 where
  pub most : IsPlan b.most
  pub least : IsPlan b.least
  pub size : b.least.size ≡ b.most.size
  pub since : IsSince b p
  pub now : IsBetween b q

-- ---- what both say alike

-- the least value at the numbers below one, and at most a limit
abbrev pub least_below : ℕ → ℕ → (ℕ → ℕ) → ℕ
least_below limit zero f = limit
least_below limit (suc n) f = min (least_below limit n f) (f n)

-- the lesser of two distances of a node, where they are two; otherwise the limit
abbrev pub lesser_of_two : ℕ → ℕ → ℕ → ℕ
lesser_of_two limit a b = if a == b then limit else min a b

-- the bound below which two routings are one: the least distance that a node has in one of them and not in the other, or the size
abbrev pub one_below : ℕ → (ℕ → ℕ) → (ℕ → ℕ) → ℕ
one_below size a b = least_below size size (λ u. lesser_of_two size (a u) (b u))

-- that of the routes to a destination in both plans
abbrev pub still_between : BetweenView → List Best → List Best → ℕ
still_between b most least = one_below b.most.size (λ u. (route_at b.most.size most u).dist) (λ u. (route_at b.least.size least u).dist)
