-- A script that is started with filters: they get their names when its domain is set up. (This project's own choice.)
use Rattle.std.specs.Prelude.{◌≡◌, ℕ, List, [], ◌∷◌, Option, Some, None, slice_get, take}
use Rattle.filter_verifier.specs.VerifiedView.{VerifiedView}
use Rattle.line_protocol.specs.Answers.{Answer}
use Rattle.line_protocol.specs.declared.answers.LineReply.TheVariants.{Ended}
use Rattle.operator_cmds.specs.Script.{AnswersLine, GivesText, IsTextDiagnosis, IsVerified, Names, ScriptView, fresh}
use Rattle.operator_cmds.specs.Stages.{size_in}
use Rattle.router_script.specs.declared.filter_naming.NamedFilter.{NamedFilter}
use Rattle.router_script.specs.declared.filter_naming.Unfit.{Unfit}

-- a script, the filters that it was started with, and the first of them that was refused, if one was
pub record PreparedView : Type 0 where
  pub script : ScriptView
  pub filters : List NamedFilter
  pub unfit : Option Unfit

-- at its first line
abbrev pub fresh_with : List NamedFilter → PreparedView
fresh_with filters = record { script = fresh; filters = filters; unfit = None }

-- a filter is verified for domains of this size, and gets its name
abbrev pub GetsName : ℕ → NamedFilter → ScriptView → ScriptView → Type 0
GetsName size named before after =
    (filter : VerifiedView) × IsVerified (GivesText named.text.items) size filter × Names named.name.items filter before after

-- so does each of some filters, one after another
abbrev pub GetNames : ℕ → List NamedFilter → ScriptView → ScriptView → Type 0
GetNames size [] before after = after ≡ before
GetNames size (named ∷ more) before after =
    (mid : ScriptView) × GetsName size named before mid × GetNames size more mid after

-- this one is refused for domains of this size, and what is told of it is told of its text
abbrev pub IsUnfit : ℕ → List NamedFilter → Unfit → Type 0
IsUnfit size filters unfit = (named : NamedFilter) × (slice_get filters unfit.index ≡ Some named)
    × IsTextDiagnosis named.text.items size unfit.diagnosis

-- all of them get their names; or this one is the first that is refused, and those before it get theirs
abbrev pub AreNamed : ℕ → List NamedFilter → Option Unfit → ScriptView → ScriptView → Type 0
AreNamed size filters None before after = GetNames size filters before after
AreNamed size filters (Some unfit) before after =
    IsUnfit size filters unfit × GetNames size (take unfit.index filters) before after

-- the size of the domain that a line set up: there was none before it
abbrev pub size_set_up : Option ℕ → Option ℕ → Option ℕ
size_set_up None later = later
size_set_up (Some size) later = None

-- the answer to the line that set the domain up; where a filter is refused nothing is answered, and the script ends
abbrev pub answer_unless : Option Unfit → Answer → Answer
answer_unless None told = told
answer_unless (Some unfit) told = record { text = []; reply = Ended }

-- what becomes of a line that a script answered so, which left it as `mid`, by the size of the domain that it set up
abbrev pub Prepares : Option ℕ → PreparedView → ScriptView → Answer → Answer → PreparedView → Type 0
Prepares None before mid told answer after = (after.script ≡ mid) × (after.unfit ≡ before.unfit) × (answer ≡ told)
Prepares (Some size) before mid told answer after =
    AreNamed size before.filters after.unfit mid after.script × (answer ≡ answer_unless after.unfit told)

-- A line is answered as any script answers it. The one that sets the domain up gives each filter its name; where one of them is refused,
-- it has no answer, and the script ends.
pub record AnswersPrepared (before : PreparedView) (number : ℕ) (line : List ℕ) (answer : Answer) (after : PreparedView) : Type 0 where
  pub told : Answer
  pub mid : ScriptView
  pub answers : AnswersLine before.script number line told mid
  pub prepares : Prepares (size_set_up (size_in before.script.stage) (size_in mid.stage)) before mid told answer after
  pub filters : after.filters ≡ before.filters
