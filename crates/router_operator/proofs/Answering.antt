-- The answer to what a line asks for is the answer to the line.
use Rattle.std.proofs.Common.{◌≡◌, ℕ, List, Option, Result, Ok, Err, IfOk, refl, sym, subst}
use Rattle.line_protocol.specs.Answers.{Answer}
use Rattle.line_protocol.specs.declared.answers.LineReply.{LineReply}
use Rattle.operator_cmds.specs.CommandView.{CommandView}
use Rattle.operator_cmds.specs.Commands.{Read, command_in}
use Rattle.operator_cmds.specs.Faults.{fault_code}
use Rattle.operator_cmds.specs.Readings.{IsFault, is_code}
use Rattle.operator_cmds.specs.Replies.{Adds, Answers, refused}
use Rattle.operator_cmds.specs.declared.fault.CommandFault.{CommandFault}
use Rattle.operator_cmds.specs.declared.fault.CommandFault.TheVariants as fault
use Rattle.operator_cmds.proofs.Answering.{added}
use Rattle.router_operator.specs.OperatorView.{OperatorView}
use Rattle.router_operator.specs.Lookers as looker
use Rattle.router_operator.specs.Operators.{AnswersAsked, AnswersCommand, AnswersLine, AnswersRead}
use Rattle.router_operator.specs.Questions.{question_in}
use Rattle.router_operator.specs.declared.questions.Question.{Question}

-- ---- a line by what it asks for

-- of the operator who may change
pub as_asked : {E : Type 0} (before after : OperatorView) (number : ℕ) (line : List ℕ) (r : Result LineReply E) (old new : List ℕ)
    (asked : Option Question) → asked ≡ question_in line
    → IfOk r (Answers (λ answer. AnswersAsked before number line asked answer after) old new)
    → IfOk r (Answers (λ answer. AnswersLine before number line answer after) old new)
as_asked before after number line r old new asked is h =
    subst (λ (q : Option Question). IfOk r (Answers (λ answer. AnswersAsked before number line q answer after) old new)) is h

-- and of the one who looks alone, whom a contract sees as `was`
pub as_looked : {E : Type 0} (before was after : OperatorView) (number : ℕ) (line : List ℕ) (r : Result LineReply E) (old new : List ℕ)
    (asked : Option Question) → IfOk r (Answers (λ answer. looker.AnswersAsked before number line asked answer after) old new)
    → before ≡ was → asked ≡ question_in line → IfOk r (Answers (λ answer. looker.AnswersLine was number line answer after) old new)
as_looked before was after number line r old new asked h same is =
    subst (λ (o : OperatorView). IfOk r (Answers (λ answer. looker.AnswersLine o number line answer after) old new)) same
    (subst (λ (q : Option Question). IfOk r (Answers (λ answer. looker.AnswersAsked before number line q answer after) old new)) is h)

-- ---- a command, or none

reads : (line : List ℕ) (f : CommandFault) → IsFault is_code f (command_in line) → (f ≡ fault.Memory → ⊥) → command_in line ≡ Err f
reads line fault.Words h n = h
reads line fault.Numbers h n = h
reads line fault.Hexadecimal h n = h
reads line fault.TooLong h n = h
reads line fault.Prefix h n = h
reads line fault.Memory h n = absurd (n refl)

-- `IsAnswer` is what one of the two operators is answered to a command, or to none
module _ {E : Type 0} (IsAnswer : Read → Answer → Type 0) (line : List ℕ) (r : Result LineReply E) (old new : List ℕ) where
  as_command : (command : CommandView) → command_in line ≡ Ok command → IfOk r (Answers (IsAnswer (Ok command)) old new)
      → IfOk r (Answers (IsAnswer (command_in line)) old new)
  as_command command is h = subst (λ (read : Read). IfOk r (Answers (IsAnswer read) old new)) (sym is) h

  as_fault : (why : CommandFault) (answer : Answer) → IsFault is_code why (command_in line) → (why ≡ fault.Memory → ⊥)
      → ((a : Answer) → a ≡ answer → IsAnswer (Err why) a) → IfOk r (Adds answer old new)
      → IfOk r (Answers (IsAnswer (command_in line)) old new)
  as_fault why answer faulty other same h =
      subst (λ (read : Read). IfOk r (Answers (IsAnswer read) old new)) (sym (reads line why faulty other))
      (added r answer (IsAnswer (Err why)) old new same h)

-- of the operator who may change
module _ {E : Type 0} (before after : OperatorView) (number : ℕ) (line : List ℕ) (r : Result LineReply E) (old new : List ℕ) where
  pub by_command : (command : CommandView) → command_in line ≡ Ok command
      → IfOk r (Answers (λ answer. AnswersCommand before number command answer after) old new)
      → IfOk r (Answers (λ answer. AnswersRead before number (command_in line) answer after) old new)
  by_command command is h = as_command (λ read answer. AnswersRead before number read answer after) line r old new command is h

  pub by_fault : (why : CommandFault) → IsFault is_code why (command_in line) → (why ≡ fault.Memory → ⊥) → after ≡ before
      → IfOk r (Adds (refused (fault_code why) number) old new)
      → IfOk r (Answers (λ answer. AnswersRead before number (command_in line) answer after) old new)
  by_fault why faulty other same h =
      as_fault (λ read answer. AnswersRead before number read answer after) line r old new why (refused (fault_code why) number) faulty other
      (λ answer is. (is, same)) h

-- of the one who looks alone, whom a contract sees as `was`
module _ {E : Type 0} (before was after : OperatorView) (number : ℕ) (line : List ℕ) (r : Result LineReply E) (old new : List ℕ) where
  pub alone_command : (command : CommandView) → command_in line ≡ Ok command → before ≡ was
      → IfOk r (Answers (λ answer. looker.AnswersCommand before number command answer after) old new)
      → IfOk r (Answers (λ answer. looker.AnswersRead was number (command_in line) answer after) old new)
  alone_command command is same h =
      subst (λ (o : OperatorView). IfOk r (Answers (λ answer. looker.AnswersRead o number (command_in line) answer after) old new)) same
      (as_command (λ read answer. looker.AnswersRead before number read answer after) line r old new command is h)

  pub alone_fault : (why : CommandFault) → IsFault is_code why (command_in line) → (why ≡ fault.Memory → ⊥) → after ≡ was
      → IfOk r (Adds (refused (fault_code why) number) old new)
      → IfOk r (Answers (λ answer. looker.AnswersRead was number (command_in line) answer after) old new)
  alone_fault why faulty other same h =
      as_fault (λ read answer. looker.AnswersRead was number read answer after) line r old new why (refused (fault_code why) number) faulty other
      (λ answer is. (is, same)) h
