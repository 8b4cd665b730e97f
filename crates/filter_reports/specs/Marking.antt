-- The lines on a source, each of which begins with the source's name, or of which only refusals are written. (This project's own choice.)
use Rattle.std.specs.Prelude.{◌==◌, ℕ, Bool, true, false, if◌then◌else◌, List, [], ◌∷◌, ◌++◌, Option, Some, None, codes}
use Rattle.filter_source.specs.declared.diagnosis.Diagnosis.{Diagnosis}
use Rattle.filter_reports.specs.VerifiedFilters.{refusal_line}
use Rattle.refusal_words.specs.Shown.{shown}
use Rattle.report_formats.specs.declared.options.CheckOptions.{CheckOptions}

-- what stands before a byte of a text, by the byte before it: a mark where it begins a line
abbrev pub mark_behind : List ℕ → ℕ → List ℕ
mark_behind mark before = if before == 10 then mark else []

-- each byte of a text, with the mark before it where it begins a line; `before` is the byte before the first of them
abbrev pub marked_after : List ℕ → ℕ → List ℕ → List ℕ
marked_after mark before [] = []
marked_after mark before (byte ∷ more) = mark_behind mark before ++ byte ∷ marked_after mark byte more

-- a text with a mark at the head of each line
abbrev pub marked : List ℕ → List ℕ → List ℕ
marked mark text = marked_after mark 10 text

-- what stands before each line: the name of the source as it is shown
abbrev pub name_mark : Bool → List ℕ → List ℕ
name_mark true name = shown name ++ codes ": "
name_mark false name = []

-- the lines that are written: all of them, or only the one that refuses
abbrev pub kept_lines : Bool → List ℕ → Option Diagnosis → List ℕ
kept_lines false lines why = lines
kept_lines true lines None = []
kept_lines true lines (Some why) = refusal_line why.refusal

-- what is written of the lines on a source
abbrev pub written_lines : CheckOptions → List ℕ → List ℕ → Option Diagnosis → List ℕ
written_lines how name lines why = marked (name_mark how.has_names name) (kept_lines how.is_quiet lines why)
