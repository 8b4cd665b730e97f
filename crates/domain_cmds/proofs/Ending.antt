-- A script ends where its input does: no answer ends it before.
use Rattle.std.proofs.Common.{ℕ, Bool, List, Option, Some, None, Ok, Err, refl, inl, inr, nat_lt, ◌&&◌}
use Rattle.std.specs.Option.{option_map}
use Rattle.filter_source.specs.Sources.{IsRefusedText}
use Rattle.filter_verifier.specs.VerifiedView.{VerifiedView}
use Rattle.line_protocol.specs.Answers.{Answer}
use Rattle.operator_cmds.specs.Script.{GivesFile, GivesText, IsRefusedFile}
use Rattle.operator_cmds.specs.declared.event.Direction.{Direction}
use Rattle.domain_routes.specs.Edits.{linking}
use Rattle.domain_routes.specs.PlanView.{PlanView, is_linked}
use Rattle.domain_routes.specs.Still.{BetweenView, after_link}
use Rattle.domain_routes.specs.declared.best.Best.{Best}
use Rattle.domain_cmds.specs.CommandView.{CommandView, Domain, Prefix, Load, Code, Link, Use, Anew, Mark, Json, Ask}
use Rattle.domain_cmds.specs.Commands.{Read, command_in}
use Rattle.domain_cmds.specs.Script
use Rattle.domain_cmds.specs.Script.{AnswersLine}
use Rattle.domain_cmds.specs.State.{PlanningView, filter_named}
use Rattle.domain_cmds.specs.declared.command.Question.{Question}
use Rattle.domain_cmds.specs.declared.command.Question.TheVariants as question
use Rattle.domain_cmds.specs.declared.fault.DomainStateFault.{DomainStateFault}
use Rattle.operator_cmds.proofs.Unended.{GoesOn, either, like, source}

module _ (answer : Answer) where
  by_name : (found : Option VerifiedView) (way : Direction) (p : PlanningView) (number u w : ℕ) (after : PlanningView)
      → Script.AnswersUse found way p number u w answer after → GoesOn answer
  by_name None way p number u w after h = like answer _ h.0 refl
  by_name (Some f) way p number u w after h =
      either (Script.are_a_pair p.plan.size u w) _ _ (λ q. like answer _ q.0 refl) (λ q. like answer _ q.0 refl) h

  unless : (why : Option DomainStateFault) (since : Option BetweenView) (plan : PlanView) (p : PlanningView) (number : ℕ) (after : PlanningView)
      → Script.PlansUnless why since plan p number answer after → GoesOn answer
  unless None since plan p number after h = like answer _ h.0 refl
  unless (Some why) since plan p number after h = like answer _ h.0 refl

  linked : (wanted : Bool) (p : PlanningView) (number u w : ℕ) (after : PlanningView) → Script.AnswersLink wanted p number u w answer after
      → GoesOn answer
  linked wanted p number u w after h = either (Script.are_a_pair p.plan.size u w) _ _
      (λ q. unless (Script.link_fault (is_linked p.plan u w) wanted) (option_map (after_link u w) p.since) (linking wanted u w p.plan) p number after q)
      (λ q. like answer _ q.0 refl) h

  prefixed : (p : PlanningView) (number node : ℕ) (bits : List Bool) (after : PlanningView)
      → Script.AnswersPrefix p number node bits answer after → GoesOn answer
  prefixed p number node bits after h = either p.begun _ _ (λ q. like answer _ q.0 refl)
      (λ q. either (nat_lt node p.plan.size) _ _ (λ r. like answer _ r.0 refl) (λ r. like answer _ r.0 refl) q) h

  told_of : (plan : PlanView) (number u v : ℕ) (IsAnswer : List Best → Answer → Type 0)
      → ((routes : List Best) → IsAnswer routes answer → GoesOn answer) → Script.IsAnswerOfRoutes plan number u v IsAnswer answer → GoesOn answer
  told_of plan number u v IsAnswer f h =
      either (nat_lt u plan.size && nat_lt v plan.size) _ _ (λ q. f q.0 q.2) (λ q. like answer _ q refl) h

  settled : (number : ℕ) → Script.IsSettledAnswer number answer → GoesOn answer
  settled number (inl (rounds, messages, few, h)) = like answer _ h refl
  settled number (inr h) = like answer _ h refl

  told : (q : Question) (plan : PlanView) (marked : Option (List (List Best))) (since : Option BetweenView) (number : ℕ)
      → Script.AnswersQuestion q plan marked since number answer → GoesOn answer
  told (question.Route u v) plan marked since number h =
      told_of plan number u v (Script.TellsRoute plan.size u) (λ routes q. like answer _ q refl) h
  told (question.Path u v) plan marked since number h =
      told_of plan number u v (Script.TellsPath plan.size u) (λ routes q. like answer _ q.2 refl) h
  told (question.Table u) plan marked since number h =
      either (nat_lt u plan.size) _ _ (λ q. like answer _ q.2 refl) (λ q. like answer _ q refl) h
  told (question.Draw v) plan marked since number h =
      either (nat_lt v plan.size) _ _ (λ q. like answer _ q.2 refl) (λ q. like answer _ q refl) h
  told (question.DrawChanges v) plan marked since number h =
      either (nat_lt v plan.size) _ _ (λ q. like answer _ q.6 refl) (λ q. like answer _ q refl) h
  told question.Reach plan marked since number h = like answer _ h.2 refl
  told question.Changes plan marked since number h = like answer _ h.6 refl
  told question.Failures plan marked since number h = like answer _ h.4 refl
  told question.NodeFailures plan marked since number h = like answer _ h.4 refl
  told question.Settle plan marked since number h = settled number h

  planned : (p : PlanningView) (number : ℕ) (c : CommandView) (after : PlanningView)
      → Script.AnswersPlanned p number c answer after → GoesOn answer
  planned p number (Domain size) after h = like answer _ h.0 refl
  planned p number (Prefix node bits) after h = prefixed p number node bits after h
  planned p number (Load name text) after h =
      source (GivesText text) (IsRefusedText text) p.plan.size number name (filter_named p.filters) answer (filter_named after.filters) h.0
  planned p number (Code name bytes) after h =
      source (GivesFile bytes) (IsRefusedFile bytes) p.plan.size number name (filter_named p.filters) answer (filter_named after.filters) h.0
  planned p number (Link wanted u w) after h = linked wanted p number u w after h
  planned p number (Use way u w name) after h =
      by_name (filter_named p.filters name) way p number u w after h
  planned p number (Anew u) after h = either (nat_lt u p.plan.size) _ _ (λ q. like answer _ q.0 refl) (λ q. like answer _ q.0 refl) h
  planned p number Mark after h = like answer _ h.2.0 refl
  planned p number Json after h = like answer _ h.0.4 refl
  planned p number (Ask q) after h = told q p.plan p.marked p.since number h.0

  first : (number : ℕ) (c : CommandView) (after : Option PlanningView) → Script.AnswersFirst number c answer after → GoesOn answer
  first number (Domain size) after h = like answer _ h.0 refl
  first number (Prefix node bits) after h = like answer _ h.0 refl
  first number (Load name text) after h = like answer _ h.0 refl
  first number (Code name bytes) after h = like answer _ h.0 refl
  first number (Link wanted u w) after h = like answer _ h.0 refl
  first number (Use way u w name) after h = like answer _ h.0 refl
  first number (Anew u) after h = like answer _ h.0 refl
  first number Mark after h = like answer _ h.0 refl
  first number Json after h = like answer _ h.0 refl
  first number (Ask q) after h = like answer _ h.0 refl

  command : (before : Option PlanningView) (number : ℕ) (c : CommandView) (after : Option PlanningView)
      → Script.AnswersCommand before number c answer after → GoesOn answer
  command None number c after h = first number c after h
  command (Some p) number c after h = planned p number c h.0 h.1

  read : (before : Option PlanningView) (number : ℕ) (r : Read) (after : Option PlanningView)
      → Script.AnswersRead before number r answer after → GoesOn answer
  read before number (Ok c) after h = command before number c after h
  read before number (Err why) after h = like answer _ h.0 refl

-- more is answered after the answer to a line
pub goes_on : (before : Option PlanningView) (number : ℕ) (line : List ℕ) (answer : Answer) (after : Option PlanningView)
    → AnswersLine before number line answer after → GoesOn answer
goes_on before number line answer after h = read answer before number (command_in line) after h
