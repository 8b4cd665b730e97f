-- What failures do after a change that they did not do before it, one after another.
use Rattle.std.proofs.Common.{◌≡◌, ℕ, ◌+◌, Bool, true, false, ◌&&◌, ◌||◌, nat_lt, if◌then◌else◌, List, [], ◌∷◌, ◌++◌, refl, sym, ap, subst, ◌∙◌, append_assoc}
use Rattle.std.proofs.lemmas.List.{append-nil}
use Rattle.domain_routes.specs.PlanView.{PlanView, is_linked}
use Rattle.domain_routes.specs.declared.best.Best.{Best}
use Rattle.domain_cmds.specs.Comparing.{AddsHarms, AreHarms, AreRoutesWithout, IsHarm, harm_of, has_turned_harm, link_of_either}
use Rattle.domain_cmds.specs.Failures.{lists_below}
use Rattle.domain_cmds.specs.declared.comparing.Harm.{Harm}
use Rattle.domain_cmds.specs.declared.failure.Failing.{Failing}
use Rattle.domain_cmds.specs.declared.failure.Failing.TheVariants.{Link}
use Rattle.domain_cmds.proofs.Counting.{lists_more}

-- what a failure does, if it is told, and then what others do
joined : (t : Bool) (harm : Harm) (more b : List Harm) → (if t then harm ∷ more else more) ++ b ≡ (if t then harm ∷ (more ++ b) else more ++ b)
joined true harm more b = refl
joined false harm more b = refl

module _ (p q : PlanView) (before after : List (List Best)) where
  -- what one failure does
  pub is_harm : (what : Failing) (size : ℕ) (harm : Harm) (failed then_failed shown then_shown : List (List Best)) → AreRoutesWithout what p failed
      → AreRoutesWithout what q then_failed → shown ≡ failed → then_shown ≡ then_failed → size ≡ p.size
      → harm ≡ harm_of size what before shown after then_shown → IsHarm p q before after what harm
  is_harm what size harm failed then_failed shown then_shown a b same then_same sized is =
      (failed, a, then_failed, b, is ∙ (λ i. harm_of (sized i) what before (same i) after (then_same i)))

  -- what the failures of two lists do
  both : (whats others : List Failing) (a b : List Harm) → AreHarms p q before after whats a → AreHarms p q before after others b
      → AreHarms p q before after (whats ++ others) (a ++ b)
  both [] others a b x y = subst (AreHarms p q before after others) (ap (λ (l : List Harm). l ++ b) (sym x)) y
  both (what ∷ whats) others a b x y = (
    x.0,
    x.1,
    x.2 ++ b,
    both whats others (x.2) b (x.3) y,
    ap (λ (l : List Harm). l ++ b) (x.4) ∙ joined (has_turned_harm (x.0)) (x.0) (x.2) b,
  )

  pub adds_both : (whats others : List Failing) (old mid new : List Harm) → AddsHarms p q before after whats old mid
      → AddsHarms p q before after others mid new → AddsHarms p q before after (whats ++ others) old new
  adds_both whats others old mid new a b = (
    a.0 ++ b.0,
    both whats others (a.0) (b.0) (a.1) (b.1),
    b.2 ∙ ap (λ (l : List Harm). l ++ b.0) (a.2) ∙ append_assoc old (a.0) (b.0),
  )

  -- those so far, and those at one number more
  pub adds_more : (n : ℕ) (list : ℕ → List Failing) (old mid new : List Harm) → AddsHarms p q before after (lists_below n list) old mid
      → AddsHarms p q before after (list n) mid new → AddsHarms p q before after (lists_below (n + 1) list) old new
  adds_more n list old mid new a b =
      subst (λ (l : List Failing). AddsHarms p q before after l old new) (sym (lists_more n list))
      (adds_both (lists_below n list) (list n) old mid new a b)

  pub adds_nothing : (old : List Harm) → AddsHarms p q before after [] old old
  adds_nothing old = ([], refl, sym (append-nil old))

  -- one failure
  pub adds_one : (what : Failing) (harm : Harm) (old new : List Harm) → IsHarm p q before after what harm
      → new ≡ old ++ (if has_turned_harm harm then harm ∷ [] else []) → AddsHarms p q before after (what ∷ []) old new
  adds_one what harm old new is more = ((if has_turned_harm harm then harm ∷ [] else []), (harm, is, [], refl, refl), more)

  -- that of a link, or none where there is no link
  pub adds_link : (u w : ℕ) (harm : Harm) (old new : List Harm) → (nat_lt u w && (is_linked p u w || is_linked q u w)) ≡ true
      → IsHarm p q before after (Link u w) harm → new ≡ old ++ (if has_turned_harm harm then harm ∷ [] else [])
      → AddsHarms p q before after (link_of_either p q u w) old new
  adds_link u w harm old new test is more =
      subst (λ (b : Bool). AddsHarms p q before after (if b then Link u w ∷ [] else []) old new) (sym test)
      (adds_one (Link u w) harm old new is more)

  pub adds_no_link : (u w : ℕ) (old : List Harm) → (nat_lt u w && (is_linked p u w || is_linked q u w)) ≡ false
      → AddsHarms p q before after (link_of_either p q u w) old old
  adds_no_link u w old test =
      subst (λ (b : Bool). AddsHarms p q before after (if b then Link u w ∷ [] else []) old old) (sym test) (adds_nothing old)

  -- all of them
  pub from_none : (whats : List Failing) (new : List Harm) → AddsHarms p q before after whats [] new → AreHarms p q before after whats new
  from_none whats new a = subst (AreHarms p q before after whats) (sym (a.2)) (a.1)
