-- What an operator is answered who may look alone, and what becomes of them. (This project's own choice.)
use Rattle.std.specs.Prelude.{◌≡◌, ℕ, List, Option, Some, None, Ok, Err, codes}
use Rattle.line_protocol.specs.Answers.{Answer}
use Rattle.line_protocol.specs.Runs.{Finishes, Stops}
use Rattle.line_protocol.specs.declared.faults.StreamFault.{StreamFault}
use Rattle.operator_cmds.specs.CommandView.{CommandView, Look, History}
use Rattle.operator_cmds.specs.Commands.{Read, command_in}
use Rattle.operator_cmds.specs.Faults.{fault_code}
use Rattle.router_operator.specs.OperatorView.{OperatorView}
use Rattle.router_operator.specs.Operators as operator
use Rattle.router_operator.specs.Operators.{AnswersRoutes, AnswersStatus, Refuses, SeesMore}
use Rattle.router_operator.specs.Questions.{question_in}
use Rattle.router_operator.specs.Running.{Stays, input_limit}
use Rattle.router_operator.specs.declared.questions.Question.{Question}
use Rattle.router_operator.specs.declared.questions.Question.TheVariants as question

-- what looks is answered as for who may change; all else is refused
abbrev pub AnswersCommand : OperatorView → ℕ → CommandView → Answer → OperatorView → Type 0
AnswersCommand before number (Look look) answer after = operator.AnswersCommand before number (Look look) answer after
AnswersCommand before number (History from) answer after = operator.AnswersCommand before number (History from) answer after
AnswersCommand before number _ answer after = Refuses (codes "O11") number before answer after

abbrev pub AnswersRead : OperatorView → ℕ → Read → Answer → OperatorView → Type 0
AnswersRead before number (Ok command) answer after = AnswersCommand before number command answer after
AnswersRead before number (Err why) answer after = Refuses (fault_code why) number before answer after

-- and so is `quit`
abbrev pub AnswersAsked : OperatorView → ℕ → List ℕ → Option Question → Answer → OperatorView → Type 0
AnswersAsked before number line None answer after = AnswersRead before number (command_in line) answer after
AnswersAsked before number line (Some question.Quit) answer after = Refuses (codes "O11") number before answer after
AnswersAsked before number line (Some (question.Status form)) answer after = AnswersStatus before form answer after
AnswersAsked before number line (Some question.Routes) answer after = AnswersRoutes before answer after

-- they may be given this answer to the line of this number
abbrev pub AnswersLine : OperatorView → ℕ → List ℕ → Answer → OperatorView → Type 0
AnswersLine before number line answer after = AnswersAsked before number line (question_in line) answer after

-- a line that was refused memory may have seen more of the history, and entered nothing
abbrev pub BreaksOff : OperatorView → OperatorView → Type 0
BreaksOff before after = SeesMore before after

-- No call is theirs that was not, and no name is another filter's; else it is as with who may change.
pub record OnlyLooks (before after : OperatorView) : Type 0 where
  pub mine : after.pass.fragment.mine ≡ before.pass.fragment.mine
  pub names : after.names ≡ before.names
  pub stays : Stays before after

-- their lines were answered to their end; the names are those of an operator's `IsServed`
pub record IsServed (before after : OperatorView) (input : List ℕ) (left held holds : Option (List ℕ)) (refused : ℕ) : Type 0 where
  pub finishes : Finishes AnswersLine input_limit before after input left held holds refused
  pub looks : OnlyLooks before after

-- or a fault ended them
pub record IsBrokenOff (fault : StreamFault) (before now : OperatorView) (input : List ℕ) (left held holds : Option (List ℕ)) : Type 0 where
  pub stops : Stops AnswersLine BreaksOff input_limit fault before now input left held holds
  pub looks : OnlyLooks before now
