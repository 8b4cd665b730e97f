-- What is answered to a call of the router, and what those who are shown the journal make of it. (This project's own choice.)
use Rattle.std.specs.Prelude.{◌≡◌, ℕ, Result, Ok, Err, IfOk, OnErr, codes}
use Rattle.std.specs.Io.{StartsWith}
use Rattle.line_protocol.specs.Answers.{Answer}
use Rattle.operator_cmds.specs.Looks.{history_looked, looked}
use Rattle.operator_cmds.specs.Replies.{Adds, answered, refused, reply_answer}
use Rattle.operator_cmds.specs.Script.{tables_of}
use Rattle.operator_cmds.specs.Stages.{Open, session_in}
use Rattle.route_history.specs.JournalView.{JournalView}
use Rattle.route_history.specs.declared.fault.CallFault.{CallFault}
use Rattle.route_history.specs.declared.fault.CallFault.TheVariants as call_fault
use Rattle.slot_lock.specs.declared.answer.Answer.{Answer as CallAnswer}
use Rattle.router_operator.specs.declared.looking.Query.{Query}
use Rattle.router_operator.specs.declared.looking.Query.TheVariants.{Tables, Entries, Status, Routes}
use Rattle.router_operator.specs.declared.looking.StatusQuery.{StatusQuery}
use Rattle.router_operator.specs.declared.looking.FindingSession.{FindingSession}
use Rattle.router_operator.specs.declared.looking.Looking.{Looking}
use Rattle.router_operator.specs.Questions.{status_words}
use Rattle.router_status.specs.Objects.{routes_json}
use Rattle.router_status.specs.Status.{completed, status_view}

-- the answer to a call, by what became of it; where memory was refused there is none
abbrev pub AnswersCall : ℕ → Result CallAnswer CallFault → Answer → Type 0
AnswersCall limit (Ok called) answer = answer ≡ reply_answer called.at called.reply
AnswersCall limit (Err call_fault.Full) answer = answer ≡ refused (codes "J1") limit
AnswersCall limit (Err call_fault.Memory) answer = ⊥

-- what the router is about, by its history, of which so many entries are forgotten
abbrev pub status_answer : StatusQuery → ℕ → JournalView → Answer
status_answer asked first journal = answered (status_words asked.form (completed first journal (status_view asked.status)))

-- the answer to the line of this number, which asks so, by the router's history, of which so many entries are forgotten
abbrev pub query_answer : Query → ℕ → ℕ → JournalView → Answer
query_answer (Tables look) number first journal = looked (tables_of journal) number look
query_answer (Entries from) number first journal = history_looked first journal.entries from
query_answer (Status asked) number first journal = status_answer asked first journal
query_answer Routes number first journal = answered (routes_json (tables_of journal))

-- the answer is added to what was written, unless memory was refused
abbrev pub Tells : Looking → ℕ → JournalView → Looking → Type 0
Tells before first journal after =
    IfOk after.reply (Adds (query_answer before.asked before.number first journal) before.text.items after.text.items)
    × OnErr after.reply (StartsWith after.text.items before.text.items)

-- the session is the node's present one
abbrev pub Finds : FindingSession → JournalView → FindingSession → Type 0
Finds before journal after = after.session ≡ session_in (Open journal) before.node
