-- A command that asks nothing is carried out or refused, as the script of a domain answers it.
use Rattle.std.proofs.Common.{◌≡◌, ℕ, List, [], ◌++◌, Option, sym, ap, subst, ◌∙◌}
use Rattle.line_protocol.specs.declared.answers.LineReply.{LineReply}
use Rattle.line_protocol.specs.declared.answers.LineReply.TheVariants as reply
use Rattle.operator_cmds.specs.Replies.{Answers}
use Rattle.domain_cmds.specs.CommandView.{CommandView}
use Rattle.domain_cmds.specs.Script.{AnswersPlanned}
use Rattle.domain_cmds.specs.State.{PlanningView}
use Rattle.domain_files.specs.FileView.{FileView, UseView}
use Rattle.domain_files.specs.Files.{IsSetUp, Refuses, used_by, with_use}

module _ (f : FileView) (p later : PlanningView) (uses : List UseView) (number : ℕ) (c : CommandView) (is : LineReply) (old new : List ℕ)
    (view : (let g : FileView = record { planning = p; uses = uses } in g) ≡ f)
    (answers : Answers (λ answer. AnswersPlanned p number c answer later) old new is) where
  pub refused : old ≡ [] → (is ≡ reply.Answered → ⊥) → Refuses f number c new
  refused empty not = subst (λ (g : FileView). Refuses g number c new) view
      (record { text = answers.0; reply = is }, later, answers.2, not, answers.1 ∙ ap (λ (l : List ℕ). l ++ answers.0) empty)

  pub set : (used : Option UseView) (after : FileView) → is ≡ reply.Answered → used ≡ used_by c
      → after ≡ record { planning = later; uses = with_use uses used } → IsSetUp f number c after
  set used after answered given now =
      subst (λ (g : FileView). IsSetUp g number c after) view
      (subst (λ (h : FileView). IsSetUp (record { planning = p; uses = uses }) number c h) (sym now)
      ((record { text = answers.0; reply = is }, answers.2, answered), ap (with_use uses) given))
