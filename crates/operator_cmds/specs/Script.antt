-- What a script answers to each of its lines, and what becomes of it. (This project's own choice.)
use Rattle.std.specs.Prelude.{◌≡◌, ◌⊎◌, ℕ, ◌==◌, nat_lt, Bool, MatchBool, List, [], ◌∷◌, ◌++◌, length}
use Rattle.std.specs.Prelude.{Option, Some, None, Ok, Err, slice_set, codes, if◌then◌else◌}
use Rattle.std.specs.Str.{bytes_eq}
use Rattle.std.specs.declared.sync.Arc.{Arc}
use Rattle.std.specs.declared.alloc.Global.{Global}
use Rattle.filter_code.specs.CodeView.{CodeView}
use Rattle.filter_syntax.specs.SyntaxText.{FilterView}
use Rattle.filter_source.specs.Diagnoses.{TellsOfCode, TellsOfFile, TellsOfText}
use Rattle.filter_source.specs.Refusals.{place_in_line, refusal_code}
use Rattle.filter_source.specs.Sources.{IsRefusedText, IsUnsafe, Translates, code_in_file}
use Rattle.filter_source.specs.TextPlaces.{ArePlacesOf}
use Rattle.filter_source.specs.VerifiedLine.{verified_line}
use Rattle.filter_source.specs.declared.diagnosis.Diagnosis.{Diagnosis}
use Rattle.filter_source.specs.declared.refusal.Refusal.{Refusal}
use Rattle.filter_verifier.specs.FirstFault.{the_fault}
use Rattle.filter_verifier.specs.Safe.{IsSafe}
use Rattle.filter_verifier.specs.VerifiedView.{VerifiedView}
use Rattle.line_protocol.specs.Answers.{Answer}
use Rattle.line_protocol.specs.declared.answers.LineReply.TheVariants.{Answered}
use Rattle.netchange_core.specs.Next.{next}
use Rattle.netchange_core.specs.OpeningView.{OpeningView}
use Rattle.netchange_core.specs.World.{World}
use Rattle.netchange_core.specs.declared.event.Event.{Event}
use Rattle.netchange_core.specs.declared.event.Event.TheVariants as event
use Rattle.netchange_core.specs.declared.reply.Reply.{Reply}
use Rattle.route_history.specs.Calls.{entry}
use Rattle.route_history.specs.History.{world_of}
use Rattle.route_history.specs.JournalView.{JournalView}
use Rattle.operator_cmds.specs.CommandView.{CommandView, Network, Prefix, Load, Code, Import, Export, Up, Down, Receive, Take, Show, Look, History}
use Rattle.operator_cmds.specs.Commands.{Read, command_in}
use Rattle.netchange_core.specs.Openings.{default_opening}
use Rattle.route_history.specs.Limits.{limit_or}
use Rattle.operator_cmds.specs.Faults.{fault_code}
use Rattle.line_protocol.specs.Limits.{number_limit}
use Rattle.operator_cmds.specs.Looks.{history_text, looked}
use Rattle.operator_cmds.specs.Replies.{answered, refused, reply_answer}
use Rattle.operator_cmds.specs.Stages.{StageView, Empty, Setting, Open, journal_in, new_journal, session_in, session_number}
use Rattle.operator_cmds.specs.declared.event.Direction.{Direction}
use Rattle.operator_cmds.specs.declared.event.Direction.TheVariants as direction
use Rattle.operator_cmds.specs.declared.filter.FilterSource.{FilterSource}
use Rattle.operator_cmds.specs.declared.filter.FilterSource.TheVariants as source

-- the filter of each name
abbrev pub Filters : Type 0
Filters = List ℕ → Option VerifiedView

-- how far a script has come, and the filter of each name
pub record ScriptView : Type 0 where
  pub stage : StageView
  pub filters : Filters

-- a script at its first line
abbrev pub fresh : ScriptView
fresh = record { stage = Empty; filters = λ name. None }

-- ---- what changes

-- nothing
pub record Keeps (before after : ScriptView) : Type 0 where
  pub stage : after.stage ≡ before.stage
  pub filters : (name : List ℕ) → after.filters name ≡ before.filters name

-- the stage alone
pub record MovesTo (stage : StageView) (before after : ScriptView) : Type 0 where
  pub moved : after.stage ≡ stage
  pub filters : (name : List ℕ) → after.filters name ≡ before.filters name

-- the filter of one name alone: names are compared byte by byte
abbrev pub GetsName : List ℕ → VerifiedView → Filters → Filters → Type 0
GetsName name filter before after =
    (other : List ℕ) → after other ≡ (if bytes_eq name other then Some filter else before other)

pub record Names (name : List ℕ) (filter : VerifiedView) (before after : ScriptView) : Type 0 where
  pub stage : after.stage ≡ before.stage
  pub filters : GetsName name filter before.filters after.filters

-- a refusal changes nothing
abbrev pub Refuses : List ℕ → ℕ → ScriptView → Answer → ScriptView → Type 0
Refuses code at before answer after = (answer ≡ refused code at) × Keeps before after

-- a command that is carried out moves the stage
abbrev pub Confirms : StageView → ScriptView → Answer → ScriptView → Type 0
Confirms stage before answer after = (answer ≡ answered (codes "ok")) × MovesTo stage before after

-- ---- `network` and `prefix`

abbrev pub AnswersNetwork : StageView → ℕ → ℕ → ℕ → Option ℕ → ScriptView → Answer → ScriptView → Type 0
AnswersNetwork Empty number size me limit before answer after =
    Confirms (Setting (default_opening size me) (limit_or limit)) before answer after
AnswersNetwork (Setting o l) number size me limit before answer after = Refuses (codes "O5") number before answer after
AnswersNetwork (Open journal) number size me limit before answer after = Refuses (codes "O5") number before answer after

-- an opening with another prefix of one node
abbrev pub with_prefix : OpeningView → ℕ → List Bool → OpeningView
with_prefix opening node bits = record opening { prefixes = slice_set opening.prefixes node bits }

abbrev pub AnswersPrefix : StageView → ℕ → ℕ → List Bool → ScriptView → Answer → ScriptView → Type 0
AnswersPrefix Empty number node bits before answer after = Refuses (codes "O4") number before answer after
AnswersPrefix (Setting opening limit) number node bits before answer after = MatchBool (nat_lt node opening.size)
    (Confirms (Setting (with_prefix opening node bits) limit) before answer after)
    (Refuses (codes "O2") number before answer after)
AnswersPrefix (Open journal) number node bits before answer after = Refuses (codes "O5") number before answer after

-- ---- `load` and `code`

-- a source gives this code, of which it is known that it never goes wrong in domains of this size
pub record IsVerified (Gives : CodeView → Type 0) (size : ℕ) (filter : VerifiedView) : Type 0 where
  pub gives : Gives filter.program
  pub faultless : the_fault filter.program size ≡ None
  pub safe : IsSafe filter.program size
  pub size_is : filter.size ≡ size

-- a source gives no code, or code of which that is not known
abbrev pub IsRefusedBy : (CodeView → Type 0) → (Refusal → Type 0) → ℕ → Refusal → Type 0
IsRefusedBy Gives Lacks size why = Lacks why ⊎ ((program : CodeView) × Gives program × IsUnsafe program size why)

-- This is told of a source that is refused: what `Tells` says where it gives no code; and otherwise the part of the source that gave the
-- instruction which is refused, and the range that the verifier knows there. `ArePlaces` says which places the instructions come from.
abbrev pub IsDiagnosedBy : (CodeView → Type 0) → (Refusal → Type 0) → (Diagnosis → Type 0) → (List ℕ → Type 0) → ℕ → Diagnosis → Type 0
IsDiagnosedBy Gives Lacks Tells ArePlaces size told = (Lacks told.refusal × Tells told)
    ⊎ ((program : CodeView) × Gives program × IsUnsafe program size told.refusal
    × ((places : List ℕ) × ArePlaces places × TellsOfCode program places size told))

-- a filter gets a name, and is answered with its cost and its peak
abbrev pub Takes : List ℕ → VerifiedView → Filters → Answer → Filters → Type 0
Takes name filter before answer after =
    (answer ≡ record { text = verified_line filter.program; reply = Answered }) × GetsName name filter before after

-- a source is refused, and the filter that the name has stays
abbrev pub TurnsAway : Refusal → ℕ → Filters → Answer → Filters → Type 0
TurnsAway why number before answer after =
    (answer ≡ refused (refusal_code why) (place_in_line why number)) × ((name : List ℕ) → after name ≡ before name)

-- the answer to a source that is to be the filter of a name, in domains of this size
abbrev pub AnswersSource : (CodeView → Type 0) → (Refusal → Type 0) → ℕ → ℕ → List ℕ → Filters → Answer → Filters → Type 0
AnswersSource Gives Lacks size number name before answer after =
    ((filter : VerifiedView) × IsVerified Gives size filter × Takes name filter before answer after)
    ⊎ ((why : Refusal) × IsRefusedBy Gives Lacks size why × TurnsAway why number before answer after)

-- What is told of the last filter that was refused, before a source is answered and after: the same where the source is verified; and where it
-- is refused what is told of this source, and the answer gives the same refusal.
abbrev pub TellsSource : (Diagnosis → Type 0) → ℕ → Option Diagnosis → Answer → Option Diagnosis → Type 0
TellsSource IsTold number before answer after = ((answer.reply ≡ Answered) × (after ≡ before))
    ⊎ ((told : Diagnosis) × IsTold told × (answer ≡ refused (refusal_code told.refusal) (place_in_line told.refusal number))
    × (after ≡ Some told))

-- so a script answers it, and changes nothing else
pub record NamesSource (Gives : CodeView → Type 0) (Lacks : Refusal → Type 0) (size number : ℕ) (name : List ℕ) (before : ScriptView)
    (answer : Answer) (after : ScriptView) : Type 0 where
  pub stage : after.stage ≡ before.stage
  pub filters : AnswersSource Gives Lacks size number name before.filters answer after.filters

abbrev pub AnswersFilter : StageView → (CodeView → Type 0) → (Refusal → Type 0) → ℕ → List ℕ → ScriptView → Answer → ScriptView → Type 0
AnswersFilter Empty Gives Lacks number name before answer after = Refuses (codes "O4") number before answer after
AnswersFilter (Setting opening limit) Gives Lacks number name before answer after =
    NamesSource Gives Lacks opening.size number name before answer after
AnswersFilter (Open journal) Gives Lacks number name before answer after =
    NamesSource Gives Lacks journal.opening.size number name before answer after

-- a text spells a filter with this code; a file has this code, or is refused
abbrev pub GivesText : List ℕ → CodeView → Type 0
GivesText text program = (filter : FilterView) × Translates text filter program

abbrev pub GivesFile : List ℕ → CodeView → Type 0
GivesFile bytes program = code_in_file bytes ≡ Ok program

abbrev pub IsRefusedFile : List ℕ → Refusal → Type 0
IsRefusedFile bytes why = code_in_file bytes ≡ Err why

-- this is told of a text that is refused
abbrev pub IsTextDiagnosis : List ℕ → ℕ → Diagnosis → Type 0
IsTextDiagnosis text size = IsDiagnosedBy (GivesText text) (IsRefusedText text) (TellsOfText text) (ArePlacesOf text) size

-- the instructions of a file come from no places of a text
abbrev pub IsFileDiagnosis : List ℕ → ℕ → Diagnosis → Type 0
IsFileDiagnosis bytes size = IsDiagnosedBy (GivesFile bytes) (IsRefusedFile bytes) TellsOfFile (λ places. places ≡ []) size

-- what a source gives, why it gives nothing, and what is told of it where it is refused
abbrev pub gives : FilterSource → CodeView → Type 0
gives (source.Text text) = GivesText text.now
gives (source.File bytes) = GivesFile bytes.now

abbrev pub lacks : FilterSource → Refusal → Type 0
lacks (source.Text text) = IsRefusedText text.now
lacks (source.File bytes) = IsRefusedFile bytes.now

abbrev pub diagnoses : FilterSource → ℕ → Diagnosis → Type 0
diagnoses (source.Text text) = IsTextDiagnosis text.now
diagnoses (source.File bytes) = IsFileDiagnosis bytes.now

-- ---- events

-- the journal after an event, which is entered with the world's reply
abbrev pub entered : JournalView → Event → Reply → JournalView
entered journal happened told = record journal { entries = journal.entries ++ entry happened told ∷ [] }

-- what the world replies to an event
abbrev pub told_of : JournalView → Event → Reply
told_of journal happened = (next (world_of journal.opening journal.entries) happened).reply

-- A full journal refuses every event. Any other enters it; a refusal of the router names the event's position.
abbrev pub AnswersIn : JournalView → Event → Answer → JournalView → Type 0
AnswersIn journal happened answer after = MatchBool (length journal.entries == journal.limit)
    ((answer ≡ refused (codes "J1") (length journal.entries)) × (after ≡ journal))
    ((answer ≡ reply_answer (length journal.entries) (told_of journal happened))
    × (after ≡ entered journal happened (told_of journal happened)))

abbrev pub AnswersOpen : JournalView → Event → ScriptView → Answer → ScriptView → Type 0
AnswersOpen journal happened before answer after =
    (later : JournalView) × AnswersIn journal happened answer later × MovesTo (Open later) before after

-- the first event opens the journal
abbrev pub AnswersEvent : StageView → ℕ → Event → ScriptView → Answer → ScriptView → Type 0
AnswersEvent Empty number happened before answer after = Refuses (codes "O4") number before answer after
AnswersEvent (Setting opening limit) number happened before answer after =
    AnswersOpen (new_journal opening limit) happened before answer after
AnswersEvent (Open journal) number happened before answer after = AnswersOpen journal happened before answer after

-- a name that no filter has: a missing domain counts first, and no journal is opened
abbrev pub RefusesName : StageView → ℕ → ScriptView → Answer → ScriptView → Type 0
RefusesName Empty number before answer after = Refuses (codes "O4") number before answer after
RefusesName (Setting opening limit) number before answer after = Refuses (codes "O6") number before answer after
RefusesName (Open journal) number before answer after = Refuses (codes "O6") number before answer after

-- a node gets a filter in a direction
abbrev pub setting : Direction → ℕ → Arc VerifiedView Global → Event
setting direction.Import node filter = event.SetImport node filter
setting direction.Export node filter = event.SetExport node filter

-- an event with the filter of a name
abbrev pub AnswersUse : Option VerifiedView → (Arc VerifiedView Global → Event) → ℕ → ScriptView → Answer → ScriptView → Type 0
AnswersUse None happens number before answer after = RefusesName before.stage number before answer after
AnswersUse (Some f) happens number before answer after =
    (filter : Arc VerifiedView Global) × (filter.value ≡ f) × AnswersEvent before.stage number (happens filter) before answer after

-- ---- looks

-- a look by the router's journal
abbrev pub told_by : Option JournalView → ℕ → (JournalView → Answer) → Answer
told_by None number look = refused (codes "O4") number
told_by (Some journal) number look = look journal

-- a look changes nothing, and opens no journal
abbrev pub AnswersLook : ℕ → (JournalView → Answer) → ScriptView → Answer → ScriptView → Type 0
AnswersLook number look before answer after = (answer ≡ told_by (journal_in before.stage) number look) × Keeps before after

-- a look at the tables as they stand after all entries
abbrev pub tables_of : JournalView → World
tables_of journal = world_of journal.opening journal.entries

-- ---- a line

abbrev pub AnswersCommand : ScriptView → ℕ → CommandView → Answer → ScriptView → Type 0
AnswersCommand before number (Network size me limit) answer after =
    AnswersNetwork before.stage number size me limit before answer after
AnswersCommand before number (Prefix node bits) answer after = AnswersPrefix before.stage number node bits before answer after
AnswersCommand before number (Load name text) answer after =
    AnswersFilter before.stage (GivesText text) (IsRefusedText text) number name before answer after
AnswersCommand before number (Code name bytes) answer after =
    AnswersFilter before.stage (GivesFile bytes) (IsRefusedFile bytes) number name before answer after
AnswersCommand before number (Import node name) answer after =
    AnswersUse (before.filters name) (λ filter. event.SetImport node filter) number before answer after
AnswersCommand before number (Export node name) answer after =
    AnswersUse (before.filters name) (λ filter. event.SetExport node filter) number before answer after
AnswersCommand before number (Up node) answer after = AnswersEvent before.stage number (event.Up node) before answer after
AnswersCommand before number (Down node) answer after =
    AnswersEvent before.stage number (event.Down (session_number (session_in before.stage node))) before answer after
AnswersCommand before number (Receive node dest dist) answer after =
    AnswersEvent before.stage number (event.Receive (session_number (session_in before.stage node)) dest dist) before answer after
AnswersCommand before number (Take node) answer after =
    AnswersEvent before.stage number (event.Take (session_number (session_in before.stage node)) number_limit) before answer after
AnswersCommand before number (Show node) answer after = AnswersEvent before.stage number (event.Show node) before answer after
AnswersCommand before number (Look look) answer after =
    AnswersLook number (λ journal. looked (tables_of journal) number look) before answer after
AnswersCommand before number (History from) answer after =
    AnswersLook number (λ journal. answered (history_text journal.entries from)) before answer after

abbrev pub AnswersRead : ScriptView → ℕ → Read → Answer → ScriptView → Type 0
AnswersRead before number (Ok command) answer after = AnswersCommand before number command answer after
AnswersRead before number (Err why) answer after = Refuses (fault_code why) number before answer after

-- the script may give this answer to the line of this number, and is then the later script
abbrev pub AnswersLine : ScriptView → ℕ → List ℕ → Answer → ScriptView → Type 0
AnswersLine before number line answer after = AnswersRead before number (command_in line) answer after
