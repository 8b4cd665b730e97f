-- What `check` writes for an input: the code of a filter's text, and whether it is verified, or a refusal. (This
-- project's own choice.)
use Rattle.std.specs.Prelude.{◌≡◌, ◌⊎◌, ◌<◌, ◌≤◌, ℕ, ◌-◌, Bool, true, false, List, [], ◌∷◌, ◌++◌, Option, Some, None, Ok, Err, length, take, codes}
use Rattle.std.specs.List.{suffix_len}
use Rattle.hex.specs.Hex.{encode_lower}
use Rattle.code_file.specs.Spelling.{IsCode, spelling}
use Rattle.filter_code.specs.CodeView.{CodeView}
use Rattle.filter_syntax.specs.SyntaxText.{FilterView}
use Rattle.filter_source.specs.Limits.{source_limit}
use Rattle.filter_source.specs.Refusals.{place_in_line, refusal_code}
use Rattle.filter_source.specs.Sources.{IsRefusedText, Translates, code_in_hexadecimal}
use Rattle.filter_source.specs.VerifiedLine.{verified_line}
use Rattle.filter_source.specs.declared.refusal.Refusal.{Refusal}
use Rattle.filter_source.specs.declared.refusal.Refusal.TheVariants.{TooLong}
use Rattle.filter_tokens.specs.Tokenization.{is_space}
use Rattle.filter_verifier.specs.FirstFault.{the_fault}
use Rattle.filter_verifier.specs.Faults.{fault_code, fault_place}
use Rattle.filter_verifier.specs.Safe.{IsSafe}
use Rattle.filter_verifier.specs.declared.fault.VerifyFault.{VerifyFault}
use Rattle.line_protocol.specs.Answers.{refusal}

-- what is written, and how many of its lines are refusals
pub record LinesView : Type 0 where
  pub text : List ℕ
  pub refusals : ℕ

-- one line that refuses the input
abbrev pub refusal_lines : Refusal → LinesView
refusal_lines why = record { text = refusal (refusal_code why) (place_in_line why 1); refusals = 1 }

-- the file of a code in hexadecimal, on a line of its own, as `check --code` and `eval` read it
abbrev pub printed : CodeView → List ℕ
printed program = encode_lower (spelling program) ++ 10 ∷ []

-- The printed code is within the limit of a source: a code may have so many sets that its digits are in no line that is read.
abbrev pub FitsLine : CodeView → Type 0
FitsLine program = length (printed program) ≤ source_limit

-- the line of a code
abbrev pub code_line : CodeView → List ℕ
code_line program = codes "code " ++ printed program

-- the second line
abbrev pub verdict_on : CodeView → Option VerifyFault → LinesView
verdict_on program None = record { text = verified_line program; refusals = 0 }
verdict_on program (Some why) = record { text = refusal (fault_code why) (fault_place why); refusals = 1 }

-- a line followed by another report
abbrev pub followed_by : List ℕ → LinesView → LinesView
followed_by first report = record { text = first ++ report.text; refusals = report.refusals }

-- both lines on a code, for domains of a size
abbrev pub code_lines : ℕ → CodeView → LinesView
code_lines size program = followed_by (code_line program) (verdict_on program (the_fault program size))

-- the report on a code that has a file: both lines on it; and where none of them is a refusal, this code is safe for the size
pub record AreCodeLines (size : ℕ) (program : CodeView) (report : LinesView) : Type 0 where
  pub is_code : IsCode program
  pub lines : report ≡ code_lines size program
  pub safe : report.refusals ≡ 0 → IsSafe program size

-- a text without the white space at its end: spaces, tabs, CRs and LFs
abbrev pub without_white_end : List ℕ → List ℕ
without_white_end text = take (length text - suffix_len is_space text) text

-- the code of a code file in hexadecimal, or the translation of a filter's text
abbrev pub IsCodeOf : Bool → List ℕ → CodeView → Type 0
IsCodeOf true input program = code_in_hexadecimal (without_white_end input) ≡ Ok program
IsCodeOf false input program = (filter : FilterView) × Translates input filter program

-- the code that an input within the limit gives
abbrev pub GivesCode : Bool → List ℕ → CodeView → Type 0
GivesCode is_code input program = (length input ≤ source_limit) × IsCodeOf is_code input program

-- why an input within the limit has no code
abbrev pub IsRefusedWithin : Bool → List ℕ → Refusal → Type 0
IsRefusedWithin true input why = code_in_hexadecimal (without_white_end input) ≡ Err why
IsRefusedWithin false input why = IsRefusedText input why

-- why an input has no code: it is too long, or its source is refused
abbrev pub IsRefused : Bool → List ℕ → Refusal → Type 0
IsRefused is_code input why = ((source_limit < length input) × (why ≡ TooLong))
    ⊎ ((length input ≤ source_limit) × IsRefusedWithin is_code input why)

-- the report on an input
abbrev pub AreLines : ℕ → Bool → List ℕ → LinesView → Type 0
AreLines size is_code input report = ((why : Refusal) × IsRefused is_code input why × (report ≡ refusal_lines why))
    ⊎ ((program : CodeView) × GivesCode is_code input program × AreCodeLines size program report)
