-- What failures change, one after another.
use Rattle.std.proofs.Common.{◌≡◌, ℕ, ◌+◌, Bool, true, false, ◌&&◌, nat_lt, if◌then◌else◌, List, [], ◌∷◌, ◌++◌, sym, ap, subst, ◌∙◌, append_assoc}
use Rattle.std.proofs.lemmas.List.{append-nil}
use Rattle.domain_routes.specs.PlanView.{PlanView, is_linked}
use Rattle.domain_routes.specs.declared.best.Best.{Best}
use Rattle.domain_cmds.specs.Failures.{AddsFailures, AreFailures, IsCutOff, IsFailure, failure_of, link_at, lists_below}
use Rattle.domain_cmds.specs.Rests.{AreAllRoutes}
use Rattle.domain_cmds.specs.declared.failure.Failing.{Failing}
use Rattle.domain_cmds.specs.declared.failure.Failing.TheVariants.{Link}
use Rattle.domain_cmds.specs.declared.failure.FailureEffect.{FailureEffect}
use Rattle.domain_cmds.proofs.Counting.{lists_more}

-- what one failure changes
pub is_failure : (plan later : PlanView) (before after shown : List (List Best)) (size : ℕ) (what : Failing) (f : FailureEffect)
    → IsCutOff what plan later → AreAllRoutes later after → shown ≡ after → size ≡ plan.size → f ≡ failure_of size what before shown
    → IsFailure plan before what f
is_failure plan later before after shown size what f cut routes same sized is =
    (later, cut, after, routes, is ∙ (λ i. failure_of (sized i) what before (same i)))

-- the failures of two lists
both : (plan : PlanView) (before : List (List Best)) (whats others : List Failing) (a b : List FailureEffect)
    → AreFailures plan before whats a → AreFailures plan before others b → AreFailures plan before (whats ++ others) (a ++ b)
both plan before [] others [] b x y = y
both plan before [] others (f ∷ more) b x y = absurd x
both plan before (what ∷ whats) others [] b x y = absurd x
both plan before (what ∷ whats) others (f ∷ more) b x y = (x.0, both plan before whats others more b (x.1) y)

module _ (plan : PlanView) (before : List (List Best)) where
  adds_both : (whats others : List Failing) (old mid new : List FailureEffect) → AddsFailures plan before whats old mid
      → AddsFailures plan before others mid new → AddsFailures plan before (whats ++ others) old new
  adds_both whats others old mid new a b = (
    a.0 ++ b.0,
    both plan before whats others (a.0) (b.0) (a.1) (b.1),
    b.2 ∙ ap (λ (l : List FailureEffect). l ++ b.0) (a.2) ∙ append_assoc old (a.0) (b.0),
  )

  -- those so far, and those at one number more
  pub adds_more : (n : ℕ) (list : ℕ → List Failing) (old mid new : List FailureEffect) → AddsFailures plan before (lists_below n list) old mid
      → AddsFailures plan before (list n) mid new → AddsFailures plan before (lists_below (n + 1) list) old new
  adds_more n list old mid new a b =
      subst (λ (l : List Failing). AddsFailures plan before l old new) (sym (lists_more n list))
      (adds_both (lists_below n list) (list n) old mid new a b)

  pub adds_nothing : (old : List FailureEffect) → AddsFailures plan before [] old old
  adds_nothing old = ([], tt, sym (append-nil old))

  -- one failure
  pub adds_one : (what : Failing) (f : FailureEffect) (old new : List FailureEffect) → IsFailure plan before what f → new ≡ old ++ f ∷ []
      → AddsFailures plan before (what ∷ []) old new
  adds_one what f old new is more = (f ∷ [], (is, tt), more)

  -- that of a link, or none where there is no link
  pub adds_link : (u w : ℕ) (f : FailureEffect) (old new : List FailureEffect) → (nat_lt u w && is_linked plan u w) ≡ true
      → IsFailure plan before (Link u w) f → new ≡ old ++ f ∷ [] → AddsFailures plan before (link_at plan u w) old new
  adds_link u w f old new test is more =
      subst (λ (b : Bool). AddsFailures plan before (if b then Link u w ∷ [] else []) old new) (sym test)
      (adds_one (Link u w) f old new is more)

  pub adds_no_link : (u w : ℕ) (old : List FailureEffect) → (nat_lt u w && is_linked plan u w) ≡ false
      → AddsFailures plan before (link_at plan u w) old old
  adds_no_link u w old test =
      subst (λ (b : Bool). AddsFailures plan before (if b then Link u w ∷ [] else []) old old) (sym test) (adds_nothing old)

  -- all of them
  pub from_none : (whats : List Failing) (new : List FailureEffect) → AddsFailures plan before whats [] new → AreFailures plan before whats new
  from_none whats new a = subst (AreFailures plan before whats) (sym (a.2)) (a.1)
