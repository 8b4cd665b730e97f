-- What `rewrite` says of a code file in hexadecimal: the file of the same code in the newer form, or in the older one, or a
-- refusal. (This project's own choice.)
use Rattle.std.specs.Prelude.{◌≡◌, ◌⊎◌, ◌++◌, ◌∷◌, ℕ, Bool, true, List, []}
use Rattle.hex.specs.Hex.{encode_lower}
use Rattle.code_file.specs.Spelling.{IsCodeIn, spelling_in}
use Rattle.filter_code.specs.CodeView.{CodeView}
use Rattle.filter_source.specs.Sources.{IsUnwritten, version_for}
use Rattle.filter_source.specs.declared.refusal.Refusal.{Refusal}
use Rattle.filter_reports.specs.Check.{GivesCode, IsRefused, LinesView, refusal_lines}
use Rattle.filter_reports.specs.Reports.{ReportView, status_of}

-- These bytes are the file of the code that the input gives.
abbrev pub SpellsAs : Bool → List ℕ → List ℕ → Type 0
SpellsAs is_old input bytes = (program : CodeView) × GivesCode true input program
    × IsCodeIn (version_for is_old) program × (bytes ≡ spelling_in (version_for is_old) program)

-- why there are none: the input gives no code, or its code has no file in the older form
abbrev pub IsUnspelled : Bool → List ℕ → Refusal → Type 0
IsUnspelled is_old input why = IsRefused true input why
    ⊎ ((program : CodeView) × GivesCode true input program × IsUnwritten is_old program why)

-- a file in hexadecimal, on a line of its own
abbrev pub file_lines : List ℕ → LinesView
file_lines bytes = record { text = encode_lower bytes ++ 10 ∷ []; refusals = 0 }

-- the line on an input
abbrev pub IsRewritten : Bool → List ℕ → LinesView → Type 0
IsRewritten is_old input lines = ((why : Refusal) × IsUnspelled is_old input why × (lines ≡ refusal_lines why))
    ⊎ ((bytes : List ℕ) × SpellsAs is_old input bytes × (lines ≡ file_lines bytes))

-- the report of which people are told nothing
abbrev pub quiet_report : LinesView → ReportView
quiet_report lines = record { out = lines.text; err = []; status = status_of lines.refusals }

-- the report on an input
abbrev pub IsRewriteReport : Bool → List ℕ → ReportView → Type 0
IsRewriteReport is_old input report = (lines : LinesView) × IsRewritten is_old input lines × (report ≡ quiet_report lines)
