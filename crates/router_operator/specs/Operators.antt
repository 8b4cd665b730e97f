-- What the operator of a running router is answered to each line, and what becomes of the router's history. A script is answered so, but
-- that nobody else makes entries meanwhile. (This project's own choice.)
use Rattle.std.specs.Prelude.{◌≡◌, ◌⊎◌, ◌==◌, ℕ, ◌+◌, ◌≤◌, Bool, false, true, MatchBool, List, [], ◌∷◌, ◌++◌, length, Option, Some, None, Ok, Err}
use Rattle.std.specs.Prelude.{codes}
use Rattle.std.specs.List.{list_any}
use Rattle.std.specs.declared.sync.Arc.{Arc}
use Rattle.std.specs.declared.alloc.Global.{Global}
use Rattle.filter_verifier.specs.VerifiedView.{VerifiedView}
use Rattle.line_protocol.specs.Answers.{Answer}
use Rattle.line_protocol.specs.declared.answers.LineReply.TheVariants.{Ended}
use Rattle.netchange_core.specs.declared.event.Event.{Event}
use Rattle.netchange_core.specs.declared.event.Event.TheVariants as event
use Rattle.operator_cmds.specs.CommandView.{CommandView, Network, Prefix, Load, Code, Import, Export, Up, Down, Receive, Take, Show, Look, History}
use Rattle.operator_cmds.specs.Commands.{Read, command_in}
use Rattle.operator_cmds.specs.Faults.{fault_code}
use Rattle.operator_cmds.specs.Looks.{history_looked, looked}
use Rattle.operator_cmds.specs.Replies.{answered, refused, reply_answer}
use Rattle.operator_cmds.specs.Script as script
use Rattle.operator_cmds.specs.Script.{entered, tables_of, told_of}
use Rattle.operator_cmds.specs.Stages.{Open, session_in, session_number}
use Rattle.operator_cmds.specs.declared.fault.CommandFault.TheVariants as fault
use Rattle.operator_cmds.specs.declared.filter.FilterSource.{FilterSource}
use Rattle.operator_cmds.specs.declared.filter.FilterSource.TheVariants as source
use Rattle.route_history.specs.Beginning.{Begins}
use Rattle.route_history.specs.History.{IsLegal}
use Rattle.route_history.specs.JournalView.{JournalView}
use Rattle.route_history.specs.Long.{IsWithin}
use Rattle.route_history.specs.declared.entry.Entry.{Entry}
use Rattle.slot_lock.specs.Passes.{bounds_of}
use Rattle.router_operator.specs.OperatorView.{OperatorView, filter_of, journal_seen, journal_with, script_of}
use Rattle.router_operator.specs.Questions.{question_in, status_words}
use Rattle.router_operator.specs.declared.questions.Question.{Question}
use Rattle.router_operator.specs.declared.questions.Question.TheVariants as question
use Rattle.router_status.specs.Objects.{routes_json}
use Rattle.router_status.specs.Status.{StatusView, completed}
use Rattle.router_status.specs.declared.form.Form.{Form}

-- ---- what a line asks for

-- the node has a link
abbrev pub has_link : List ℕ → ℕ → Bool
has_link links node = list_any (λ linked. linked == node) links

-- ---- what changes

-- Nothing but what the pass knows. It has as many shares as before, so all that was split off it came back: a call that such a part made
-- is one of the pass's own.
pub record OnlyPass (before after : OperatorView) : Type 0 where
  pub rest : after ≡ record before { pass = after.pass }
  pub shares : after.pass.fragment.shares ≡ before.pass.fragment.shares

-- nothing but the filters of names
abbrev pub OnlyNames : OperatorView → OperatorView → Type 0
OnlyNames before after = after ≡ record before { names = after.names }

-- a refusal changes nothing
abbrev pub Refuses : List ℕ → ℕ → OperatorView → Answer → OperatorView → Type 0
Refuses code number before answer after = (answer ≡ refused code number) × (after ≡ before)

-- `network`, `prefix`, `load` and `code` do what they do to a script that has come as far: they refuse, or name a filter
pub record AsScript (before : OperatorView) (number : ℕ) (command : CommandView) (answer : Answer) (after : OperatorView) : Type 0 where
  pub answers : script.AnswersCommand (script_of before) number command answer (script_of after)
  pub names : OnlyNames before after

-- the command that gives the filter of a source a name
abbrev pub loading : List ℕ → FilterSource → CommandView
loading name (source.Text text) = Load name text.now
loading name (source.File bytes) = Code name bytes.now

-- ---- events

-- the router's history as an event found it: others may have made entries since the pass saw it
pub record IsFound (before : OperatorView) (log : List Entry) : Type 0 where
  pub begins : Begins before.pass.fragment.seen log
  pub legal : IsLegal before.router.opening log

-- The event is the new last entry of that history, with the world's reply; that is answered, and the entry is the operator's.
pub record Enters (before : OperatorView) (log : List Entry) (happened : Event) (answer : Answer) (after : OperatorView) : Type 0 where
  pub answers : answer ≡ reply_answer (length log) (told_of (journal_with before.router log) happened)
  pub seen : journal_seen after ≡ entered (journal_with before.router log) happened (told_of (journal_with before.router log) happened)
  pub mine : after.pass.fragment.mine ≡ before.pass.fragment.mine ++ length log ∷ []

-- the room is full: of that history all but as many entries as the limit are forgotten, and none where the router is not endless; nothing is
-- entered
pub record IsFull (before : OperatorView) (log : List Entry) (answer : Answer) (after : OperatorView) : Type 0 where
  pub full : length log ≡ after.pass.fragment.forgot + before.router.limit
  pub whole : before.router.endless ≡ false → after.pass.fragment.forgot ≡ 0
  pub answers : answer ≡ refused (codes "J1") before.router.limit
  pub seen : journal_seen after ≡ journal_with before.router log
  pub mine : after.pass.fragment.mine ≡ before.pass.fragment.mine

-- a line enters exactly one event, or none where the room is full
pub record AnswersEvent (before : OperatorView) (happened : Event) (answer : Answer) (after : OperatorView) : Type 0 where
  pub log : List Entry
  pub found : IsFound before log
  pub does : Enters before log happened answer after ⊎ IsFull before log answer after
  pub only : OnlyPass before after

-- an event with the filter of a name
abbrev pub AnswersUse : Option VerifiedView → (Arc VerifiedView Global → Event) → ℕ → OperatorView → Answer → OperatorView → Type 0
AnswersUse None happens number before answer after = Refuses (codes "O6") number before answer after
AnswersUse (Some f) happens number before answer after =
    (filter : Arc VerifiedView Global) × (filter.value ≡ f) × AnswersEvent before (happens filter) answer after

-- a node that has a link is taken down by the link alone
abbrev pub UnlessLinked : ℕ → ℕ → (Answer → OperatorView → Type 0) → OperatorView → Answer → OperatorView → Type 0
UnlessLinked node number Otherwise before answer after =
    MatchBool (has_link before.links node) (Refuses (codes "O9") number before answer after) (Otherwise answer after)

-- ---- looks

-- The operator has seen the whole history of a moment, which goes on from what they had seen, and knows how many entries of it are forgotten:
-- no fewer than before, all but at most as many as the limit, and none where the router is not endless. Nothing is entered.
pub record Looks (before after : OperatorView) : Type 0 where
  pub found : IsFound before after.pass.fragment.seen
  pub room : IsWithin (bounds_of before.router) after.pass.fragment.forgot (length after.pass.fragment.seen)
  pub on : before.pass.fragment.forgot ≤ after.pass.fragment.forgot
  pub mine : after.pass.fragment.mine ≡ before.pass.fragment.mine
  pub only : OnlyPass before after

-- a look is answered from that one history, of which so many entries are forgotten
abbrev pub AnswersLook : (ℕ → JournalView → Answer) → OperatorView → Answer → OperatorView → Type 0
AnswersLook look before answer after = Looks before after × (answer ≡ look after.pass.fragment.forgot (journal_seen after))

-- what the router is about is answered from that one history, and from what is known beside it, of which nothing is said here
abbrev pub AnswersStatus : OperatorView → Form → Answer → OperatorView → Type 0
AnswersStatus before form answer after = (known : StatusView) × AnswersLook
    (λ first journal. answered (status_words form (completed first journal known))) before answer after

-- and so are the routes, for a program
abbrev pub AnswersRoutes : OperatorView → Answer → OperatorView → Type 0
AnswersRoutes before answer after = AnswersLook (λ first journal. answered (routes_json (tables_of journal))) before answer after

-- a look for the node's present session, and then its Down
abbrev pub AnswersDown : ℕ → OperatorView → Answer → OperatorView → Type 0
AnswersDown node before answer after = (mid : OperatorView) × Looks before mid
    × AnswersEvent mid (event.Down (session_number (session_in (Open (journal_seen mid)) node))) answer after

-- ---- a line

abbrev pub AnswersCommand : OperatorView → ℕ → CommandView → Answer → OperatorView → Type 0
AnswersCommand before number (Network size me limit) answer after = AsScript before number (Network size me limit) answer after
AnswersCommand before number (Prefix node bits) answer after = AsScript before number (Prefix node bits) answer after
AnswersCommand before number (Load name text) answer after = AsScript before number (Load name text) answer after
AnswersCommand before number (Code name bytes) answer after = AsScript before number (Code name bytes) answer after
AnswersCommand before number (Import node name) answer after =
    AnswersUse (filter_of before.names name) (λ filter. event.SetImport node filter) number before answer after
AnswersCommand before number (Export node name) answer after =
    AnswersUse (filter_of before.names name) (λ filter. event.SetExport node filter) number before answer after
-- only links bring nodes up
AnswersCommand before number (Up node) answer after = Refuses (codes "O9") number before answer after
AnswersCommand before number (Down node) answer after = UnlessLinked node number (AnswersDown node before) before answer after
-- only links hand out and take messages
AnswersCommand before number (Receive node dest dist) answer after = Refuses (fault_code fault.Words) number before answer after
AnswersCommand before number (Take node) answer after = Refuses (fault_code fault.Words) number before answer after
AnswersCommand before number (Show node) answer after = AnswersEvent before (event.Show node) answer after
AnswersCommand before number (Look look) answer after =
    AnswersLook (λ first journal. looked (tables_of journal) number look) before answer after
AnswersCommand before number (History from) answer after =
    AnswersLook (λ first journal. history_looked first journal.entries from) before answer after

abbrev pub AnswersRead : OperatorView → ℕ → Read → Answer → OperatorView → Type 0
AnswersRead before number (Ok command) answer after = AnswersCommand before number command answer after
AnswersRead before number (Err why) answer after = Refuses (fault_code why) number before answer after

-- `quit` is confirmed, and ends the operator's lines
abbrev pub Quits : OperatorView → Answer → OperatorView → Type 0
Quits before answer after =
    (answer ≡ record { text = (answered (codes "ok")).text; reply = Ended }) × (after ≡ record before { has_quit = true })

-- a question is answered as such, and any other line is a command
abbrev pub AnswersAsked : OperatorView → ℕ → List ℕ → Option Question → Answer → OperatorView → Type 0
AnswersAsked before number line None answer after = AnswersRead before number (command_in line) answer after
AnswersAsked before number line (Some question.Quit) answer after = Quits before answer after
AnswersAsked before number line (Some (question.Status form)) answer after = AnswersStatus before form answer after
AnswersAsked before number line (Some question.Routes) answer after = AnswersRoutes before answer after

-- the operator may be given this answer to the line of this number, and is then the later operator
abbrev pub AnswersLine : OperatorView → ℕ → List ℕ → Answer → OperatorView → Type 0
AnswersLine before number line answer after = AnswersAsked before number line (question_in line) answer after

-- ---- refused memory

-- nothing was seen, or more of the history was, and nothing is entered
abbrev pub SeesMore : OperatorView → OperatorView → Type 0
SeesMore before after = (after ≡ before) ⊎ Looks before after

-- at most one entry more is the operator's
abbrev pub GrowsByOne : List ℕ → List ℕ → Type 0
GrowsByOne old new = (new ≡ old) ⊎ ((last : ℕ) × (new ≡ old ++ last ∷ []))

-- A line that was refused memory may have entered an event, and no more than one; that it is the line's own is not said here. No name was
-- changed.
pub record BreaksOff (before after : OperatorView) : Type 0 where
  pub only : OnlyPass before after
  pub begins : Begins before.pass.fragment.seen after.pass.fragment.seen
  pub mine : GrowsByOne before.pass.fragment.mine after.pass.fragment.mine
