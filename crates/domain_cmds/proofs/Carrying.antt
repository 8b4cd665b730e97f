-- The answer of a part of the engine is the answer of the whole.
use Rattle.std.proofs.Common.{◌≡◌, ℕ, Bool, true, List, ◌++◌, length, take, Option, Result, Ok, Err, IfOk, OnErr, refl, sym, subst, ap, ◌∙◌}
use Rattle.std.specs.Io.{StartsWith}
use Rattle.std.proofs.lemmas.List.{take_at}
use Rattle.filter_code.specs.CodeView.{CodeView}
use Rattle.filter_source.specs.declared.refusal.Refusal.{Refusal}
use Rattle.line_protocol.specs.Answers.{Answer}
use Rattle.line_protocol.specs.declared.answers.LineReply.{LineReply}
use Rattle.line_protocol.specs.declared.answers.LineReply.TheVariants.{Answered}
use Rattle.operator_cmds.specs.Replies.{Answers}
use Rattle.operator_cmds.specs.Script.{AnswersSource}
use Rattle.operator_cmds.proofs.Answering.{answers}
use Rattle.domain_reports.specs.Pages.{page_text}
use Rattle.domain_reports.specs.Reports.{domain_line}
use Rattle.domain_reports.specs.Views.{DomainView}
use Rattle.domain_reports.specs.declared.page.Shell.{Shell}
use Rattle.domain_routes.specs.PlanView.{PlanView}
use Rattle.domain_routes.specs.Still.{BetweenView}
use Rattle.domain_routes.specs.declared.best.Best.{Best}
use Rattle.domain_cmds.specs.Origins.{AreOriginsOf, OriginsView}
use Rattle.domain_cmds.specs.Paging.{AddsPage}
use Rattle.domain_cmds.specs.Said.{IsSaid}
use Rattle.domain_cmds.specs.Script.{AnswersLoad, AnswersQuestion, Asks, IsToldDomain}
use Rattle.domain_cmds.specs.State.{FiltersView, Named, PlanningView, filter_named}
use Rattle.domain_cmds.specs.declared.command.Question.{Question}

-- an answer stands behind what was written before
pub begins : (IsAnswer : Answer → Type 0) (old new : List ℕ) (reply : LineReply) → Answers IsAnswer old new reply → StartsWith new old
begins IsAnswer old new reply h = ap (take (length old)) h.1 ∙ take_at old h.0 (length old) refl

-- what holds at all events holds after an error
pub after_error : {T E : Type 0} (done : Result T E) (P : Type 0) → P → OnErr done P
after_error (Ok x) P h = tt
after_error (Err e) P h = h

abbrev domain : PlanView → Named → Bool → Option (List (List Best)) → Option BetweenView → PlanningView
domain plan filters begun marked since = record { plan = plan; filters = filters; begun = begun; marked = marked; since = since }

-- what is answered to a domain whose fields are these; `p` is how it was
module _ {E : Type 0} (done : Result LineReply E) (old new : List ℕ) (p : PlanningView) (plan : PlanView) (begun : Bool)
    (marked : Option (List (List Best))) (so_far : Option BetweenView) (number : ℕ) where
  -- a question, which leaves the plan as it was
  pub asked : (later : PlanView) (filters : Named) (question : Question) → domain plan filters begun marked so_far ≡ p → later ≡ plan
      → IfOk done (Answers (AnswersQuestion question plan marked so_far number) old new)
      → IfOk done (Answers (λ answer. Asks (AnswersQuestion question p.plan p.marked p.since number) p answer (domain later filters true marked so_far)) old new)
  asked later filters question is same h =
      subst
      (λ (q : PlanningView). IfOk done
      (Answers (λ answer. Asks (AnswersQuestion question q.plan q.marked q.since number) q answer (domain later filters true marked so_far)) old new))
      is
      (answers done (AnswersQuestion question plan marked so_far number)
      (λ answer. Asks (AnswersQuestion question plan marked so_far number) (domain plan filters begun marked so_far) answer (domain later filters true marked so_far))
      old new
      (λ answer a. (a, ap (λ (x : PlanView). domain x filters true marked so_far) same)) h)

-- what is said of a domain whose fields are these; `p` is how it was
module _ (old new : List ℕ) (p : PlanningView) (plan : PlanView) (begun : Bool) (marked : Option (List (List Best))) (so_far : Option BetweenView) where
  -- the whole domain, which leaves the plan as it was
  pub said : (later : PlanView) (filters : Named) (origins : OriginsView) (told : DomainView) (line : List ℕ) → domain plan filters begun marked so_far ≡ p
      → later ≡ plan → AreOriginsOf plan origins → IsSaid plan origins told → line ≡ domain_line told → new ≡ old ++ line
      → Answers (λ answer. Asks (IsToldDomain p.plan) p answer (domain later filters true marked so_far)) old new Answered
  said later filters origins told line is same are said_of line_is more =
      subst
      (λ (q : PlanningView). Answers (λ answer. Asks (IsToldDomain q.plan) q answer (domain later filters true marked so_far)) old new Answered) is (
        line,
        more,
        (
          (origins, are, told, said_of, ap (λ (text : List ℕ). record { text = text; reply = Answered }) line_is),
          ap (λ (x : PlanView). domain x filters true marked so_far) same,
        ),
      )

  -- a source, by the filters of names
  pub loaded : (number : ℕ) (Gives : CodeView → Type 0) (Lacks : Refusal → Type 0) (filters later now : FiltersView) (name : List ℕ)
      (reply : LineReply) → domain plan filters.named begun marked so_far ≡ p → filters.size ≡ plan.size → now ≡ later
      → Answers (λ answer. AnswersSource Gives Lacks filters.size number name (filter_named filters.named) answer (filter_named later.named)) old
      new reply
      → Answers (λ answer. AnswersLoad Gives Lacks p number name answer (domain plan now.named begun marked so_far)) old new reply
  loaded number Gives Lacks filters later now name reply is fits left h =
      let IsSo : ℕ → FiltersView → Answer → Type 0 =
      λ n f answer. AnswersSource Gives Lacks n number name (filter_named filters.named) answer (filter_named f.named) in
      let answer : Answer = record { text = h.0; reply = reply } in
      let sized : IsSo plan.size later answer = subst (λ (n : ℕ). IsSo n later answer) fits h.2 in
      let done : IsSo plan.size now answer = subst (λ (f : FiltersView). IsSo plan.size f answer) (sym left) sized in
      subst
      (λ (q : PlanningView). Answers (λ given. AnswersLoad Gives Lacks q number name given (domain plan now.named begun marked so_far)) old new reply)
      is (h.0, h.1, (done, refl))

  -- its page
  pub paged : (filters : Named) (origins : OriginsView) (told : DomainView) (shell : Shell) (name : List ℕ) → domain plan filters begun marked so_far ≡ p
      → AreOriginsOf plan origins → IsSaid plan origins told → new ≡ old ++ page_text shell name told → AddsPage shell name p.plan old new
  paged filters origins told shell name is are said_of more =
      subst (λ (q : PlanningView). AddsPage shell name q.plan old new) is
      (page_text shell name told, (origins, are, told, said_of, refl), more)
