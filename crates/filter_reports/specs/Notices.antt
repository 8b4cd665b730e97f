-- What people are told of a source that is refused. (This project's own choice.)
use Rattle.std.specs.Prelude.{◌≡◌, ℕ, ◌++◌, Bool, List, [], Option, Some, None, codes, if◌then◌else◌}
use Rattle.filter_source.specs.declared.diagnosis.Diagnosis.{Diagnosis}
use Rattle.filter_source.specs.declared.refusal.Refusal.{Refusal}
use Rattle.filter_reports.specs.VerifiedFilters.{refusal_line}
use Rattle.filter_reports.specs.declared.named_text.NamedText.{NamedText}
use Rattle.filter_reports.specs.declared.wording.Wording.{Wording}
use Rattle.filter_reports.specs.declared.wording.Wording.TheVariants.{Nothing, Line, Words}
use Rattle.refusal_words.specs.Explanations.{IsExplanation}
use Rattle.refusal_words.specs.Shown.{shown}

-- a text and the name of its source
pub record Named : Type 0 where
  pub name : List ℕ
  pub text : List ℕ

abbrev pub named : NamedText → Named
named source = record { name = source.name.now; text = source.text.now }

-- words where these are wanted, and otherwise nothing, or the line that refuses the source
abbrev pub words_if : Bool → Wording
words_if is_explained = if is_explained then Words else Nothing

abbrev pub words_or_line : Bool → Wording
words_or_line is_explained = if is_explained then Words else Line

-- the name of a source as it is shown, and the line that refuses it
abbrev pub named_refusal : List ℕ → Refusal → List ℕ
named_refusal name why = shown name ++ codes ": " ++ refusal_line why

-- This is told of a source that is refused: nothing, its refusal behind its name, or the refusal in words.
abbrev pub IsNotice : Wording → Named → Diagnosis → List ℕ → Type 0
IsNotice Nothing source why text = text ≡ []
IsNotice Line source why text = text ≡ named_refusal source.name why.refusal
IsNotice Words source why text = IsExplanation source.name source.text why text

-- This is told of a source that was looked at: nothing where it is not refused.
abbrev pub IsNoticeIf : Wording → Named → Option Diagnosis → List ℕ → Type 0
IsNoticeIf wording source None text = text ≡ []
IsNoticeIf wording source (Some why) text = IsNotice wording source why text
