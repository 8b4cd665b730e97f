-- What a text means as the file of a domain: the domain that its lines set up, as the script of a domain answers them, where none of them is
-- refused. (This project's own choice.)
use Rattle.std.specs.Prelude.{◌≡◌, ◌≢◌, ⊤, ℕ, ◌==◌, ◌&&◌, ◌++◌, Bool, true, false, List, [], ◌∷◌, Option, Some, None, Ok, Err}
use Rattle.std.specs.Prelude.{MatchBool, is_some, codes}
use Rattle.std.specs.List.{enumerate_from}
use Rattle.std.specs.Str.Lines.{lines}
use Rattle.line_protocol.specs.Answers.{Answer}
use Rattle.line_protocol.specs.Lines.{is_skipped}
use Rattle.line_protocol.specs.declared.answers.LineReply.TheVariants as reply
use Rattle.domain_routes.specs.PlanView.{peer}
use Rattle.operator_cmds.specs.Faults.{fault_code}
use Rattle.operator_cmds.specs.Replies.{refused}
use Rattle.operator_cmds.specs.declared.event.Direction.{Direction}
use Rattle.operator_cmds.specs.declared.event.Direction.TheVariants as direction
use Rattle.domain_cmds.specs.CommandView.{CommandView, Domain, Load, Code, Use, Mark, Json, Ask}
use Rattle.domain_cmds.specs.CommandView as command
use Rattle.domain_cmds.specs.Commands.{Read, command_in}
use Rattle.domain_cmds.specs.Script.{AnswersPlanned, begin, new_planning}
use Rattle.filter_verifier.specs.VerifiedView.{VerifiedView}
use Rattle.domain_cmds.specs.State.{PlanningView, filter_named}
use Rattle.domain_cmds.specs.declared.command.DomainCommand.{DomainCommand}
use Rattle.domain_files.specs.FileView.{FileView, UseView}
use Rattle.domain_files.specs.declared.reading.Carried.{Carried}
use Rattle.domain_files.specs.declared.reading.Carried.TheVariants as carried
use Rattle.domain_files.specs.declared.file.WrongFile.{WrongFile}
use Rattle.domain_files.specs.declared.file.WrongFile.TheVariants as wrong

abbrev pub view_of : DomainCommand → CommandView
view_of = command.view_of

-- ---- the last use counts

abbrev pub is_same_way : Direction → Direction → Bool
is_same_way direction.Import direction.Import = true
is_same_way direction.Export direction.Export = true
is_same_way _ _ = false

abbrev pub is_between : Direction → ℕ → ℕ → UseView → Bool
is_between way u w used = is_same_way way used.direction && (u == used.u) && (w == used.w)

-- the name of the last use of a direction between two nodes
abbrev pub or_later : Option (List ℕ) → Option (List ℕ) → Option (List ℕ)
or_later (Some later) before = Some later
or_later None before = before

abbrev pub name_if : Bool → List ℕ → Option (List ℕ)
name_if true name = Some name
name_if false name = None

abbrev pub name_between : Direction → ℕ → ℕ → List UseView → Option (List ℕ)
name_between way u w [] = None
name_between way u w (used ∷ others) = or_later (name_between way u w others) (name_if (is_between way u w used) used.name)

abbrev pub filter_of_name : PlanningView → Option (List ℕ) → Option VerifiedView
filter_of_name p None = None
filter_of_name p (Some name) = filter_named p.filters name

-- the filters of the plan are those that have the names of the last uses
pub record AreUses (p : PlanningView) (uses : List UseView) : Type 0 where
  pub imports : (u w : ℕ) → (peer p.plan u w).imports ≡ filter_of_name p (name_between direction.Import u w uses)
  pub exports : (u w : ℕ) → (peer p.plan u w).exports ≡ filter_of_name p (name_between direction.Export u w uses)

-- ---- what a line comes to: it is carried out, or refused by an answer, or gives a name again

abbrev pub ComesTo : Type 0 → Type 0 → Type 0 → Carried → Type 0
ComesTo IsDone IsRefused IsAgain carried.Done = IsDone
ComesTo IsDone IsRefused IsAgain carried.Refused = IsRefused
ComesTo IsDone IsRefused IsAgain carried.NameAgain = IsAgain

-- ---- a command

abbrev pub has_name : PlanningView → List ℕ → Bool
has_name p name = is_some (filter_named p.filters name)

abbrev pub name_given : CommandView → Option (List ℕ)
name_given (Load name text) = Some name
name_given (Code name bytes) = Some name
name_given _ = None

abbrev pub used_by : CommandView → Option UseView
used_by (Use way u w name) = Some (record { direction = way; u = u; w = w; name = name })
used_by _ = None

-- a question, `json` and `mark` change nothing of the domain but that prefixes stay
abbrev pub is_asking : CommandView → Bool
is_asking (Ask question) = true
is_asking Json = true
is_asking Mark = true
is_asking _ = false

abbrev pub with_use : List UseView → Option UseView → List UseView
with_use uses None = uses
with_use uses (Some used) = uses ++ used ∷ []

-- it gives a name that a filter has
abbrev pub GivesNameAgain : FileView → CommandView → Type 0
GivesNameAgain f c = (name : List ℕ) × (name_given c ≡ Some name) × (has_name f.planning name ≡ true)

-- the script of a domain answers it, and does not refuse it
abbrev pub IsAnswered : PlanningView → ℕ → CommandView → PlanningView → Type 0
IsAnswered p number c q = (answer : Answer) × AnswersPlanned p number c answer q × (answer.reply ≡ reply.Answered)

-- a command that asks nothing is carried out
abbrev pub IsSetUp : FileView → ℕ → CommandView → FileView → Type 0
IsSetUp f number c after = IsAnswered f.planning number c after.planning × (after.uses ≡ with_use f.uses (used_by c))

abbrev pub Carries : FileView → ℕ → CommandView → FileView → Type 0
Carries f number c after = MatchBool (is_asking c)
    (after ≡ record f { planning = begin f.planning })
    (IsSetUp f number c after × (GivesNameAgain f c → ⊥))

-- it does, by this answer
abbrev pub Refuses : FileView → ℕ → CommandView → List ℕ → Type 0
Refuses f number c text = (answer : Answer) × (q : PlanningView) × AnswersPlanned f.planning number c answer q
    × (answer.reply ≢ reply.Answered) × (text ≡ answer.text)

-- what a command that asks nothing, and gives no name again, comes to
abbrev pub SetsUp : FileView → ℕ → CommandView → List ℕ → FileView → Carried → Type 0
SetsUp f number c text after = ComesTo (IsSetUp f number c after) (Refuses f number c text) ⊥

abbrev pub new_file : ℕ → FileView
new_file size = record { planning = new_planning size; uses = [] }

-- ---- before there is a domain, only `domain` is carried out

abbrev pub Begins : ℕ → CommandView → Option FileView → Type 0
Begins number (Domain size) after = after ≡ Some (new_file size)
Begins number c after = ⊥

abbrev pub IsNoBeginning : ℕ → CommandView → List ℕ → Type 0
IsNoBeginning number (Domain size) text = ⊥
IsNoBeginning number c text = text ≡ (refused (codes "O4") number).text

abbrev pub CarriesFirst : Option FileView → ℕ → CommandView → Option FileView → Type 0
CarriesFirst None number c after = Begins number c after
CarriesFirst (Some f) number c after = (later : FileView) × Carries f number c later × (after ≡ Some later)

abbrev pub RefusesFirst : Option FileView → ℕ → CommandView → List ℕ → Type 0
RefusesFirst None number c text = IsNoBeginning number c text
RefusesFirst (Some f) number c text = Refuses f number c text

abbrev pub NamesAgainFirst : Option FileView → CommandView → Type 0
NamesAgainFirst None c = ⊥
NamesAgainFirst (Some f) c = GivesNameAgain f c

-- ---- a line

abbrev pub TakesRead : Option FileView → ℕ → Read → Option FileView → Type 0
TakesRead before number (Ok c) after = CarriesFirst before number c after
TakesRead before number (Err why) after = ⊥

abbrev pub RefusesRead : Option FileView → ℕ → Read → List ℕ → Type 0
RefusesRead before number (Ok c) text = RefusesFirst before number c text
RefusesRead before number (Err why) text = text ≡ (refused (fault_code why) number).text

-- an empty line and a comment say nothing
abbrev pub TakesLine : Option FileView → ℕ → List ℕ → Option FileView → Type 0
TakesLine before number line after = MatchBool (is_skipped line) (after ≡ before) (TakesRead before number (command_in line) after)

abbrev pub RefusesLine : Option FileView → ℕ → List ℕ → List ℕ → Type 0
RefusesLine before number line text = (is_skipped line ≡ false) × RefusesRead before number (command_in line) text

abbrev pub NamesAgain : Option FileView → List ℕ → Type 0
NamesAgain before line = (f : FileView) × (before ≡ Some f) × (c : CommandView) × (command_in line ≡ Ok c) × GivesNameAgain f c

-- ---- all lines, numbered from 1

abbrev pub Numbered : Type 0
Numbered = List (ℕ × List ℕ)

abbrev pub TakesAll : Numbered → Option FileView → Option FileView → Type 0
TakesAll [] before after = after ≡ before
TakesAll (line ∷ others) before after =
    (between : Option FileView) × TakesLine before line.0 line.1 between × TakesAll others between after

abbrev pub numbered : List ℕ → Numbered
numbered text = enumerate_from 1 (lines text)

abbrev pub IsFile : List ℕ → FileView → Type 0
IsFile text f = TakesAll (numbered text) None (Some f)

-- the lines before this one are carried out
abbrev pub Reaches : List ℕ → ℕ × List ℕ → Option FileView → Type 0
Reaches text line before = (first : Numbered) × (others : Numbered) × (numbered text ≡ first ++ line ∷ others) × TakesAll first None before

-- why a text is no such file; memory may be refused
abbrev pub IsNoFile : List ℕ → WrongFile → Type 0
IsNoFile text (wrong.Refused it) = (before : Option FileView) × Reaches text (it.number, it.line.items) before
    × RefusesLine before it.number it.line.items it.answer.items
IsNoFile text (wrong.NameAgain number) = (line : List ℕ) × (before : Option FileView) × Reaches text (number, line) before × NamesAgain before line
IsNoFile text wrong.NoDomain = TakesAll (numbered text) None None
IsNoFile text wrong.Memory = ⊤

-- the line that is refused, unless memory was
abbrev pub IsWrongLine : ℕ → List ℕ → List ℕ → WrongFile → Type 0
IsWrongLine number line answer (wrong.Refused it) = (it.number ≡ number) × (it.line.items ≡ line) × (it.answer.items ≡ answer)
IsWrongLine number line answer wrong.Memory = ⊤
IsWrongLine number line answer _ = ⊥
