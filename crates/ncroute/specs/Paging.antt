-- What the program does for the script of a domain with a page, and its exit status. (This project's own choice.)
use Rattle.std.specs.Prelude.{◌≡◌, ◌⊎◌, ℕ, Bool, true, false, List, Option, Some, None, Result, Ok, Err}
use Rattle.std.specs.Io.KnownBytes.{Appends}
use Rattle.std.specs.declared.io.Error.{Error}
use Rattle.domain_cmds.specs.Paging.{PagesDomain}
use Rattle.domain_cmds.specs.declared.paged.Paged.{Paged}
use Rattle.program_words.specs.declared.source.Source.{Source}
use Rattle.program_words.specs.declared.source.Source.TheVariants.{Input, File}
use Rattle.filter_reports.specs.Reports.{status_of}
use Rattle.program_console.specs.Reading.{name_of, uncreated_line, unwritten_line}
use Rattle.ncroute.specs.DomainLoading.{ReadsScript, SkipsScript}
use Rattle.ncroute.specs.Scripts.{IsQuiet, TakesLines}
use Rattle.program_console.specs.Streaming.{Streams, Tells}

-- A page that did not get all is told of. `stderr_before` is what standard error held, `stderr_after` what it holds now.
abbrev pub TellsPaged : List ℕ → Paged → Option (List ℕ) → Option (List ℕ) → ℕ → Type 0
TellsPaged page paged stderr_before stderr_after status = ((paged.is_written ≡ true) × (stderr_after ≡ stderr_before) × (status ≡ status_of paged.refused))
    ⊎ ((paged.is_written ≡ false) × Appends stderr_before stderr_after (unwritten_line page) × (status ≡ 1))

-- A script that people know by a name was carried out, and its page written to a file, which held so much before and holds so much now. Its lines
-- are those of this text, or else of standard input.
pub record RunsPaged (name page : List ℕ) (is_explained : Bool) (text kept keeps : Option (List ℕ)) (before after : Streams) (status : ℕ)
    : Type 0 where
  pub paged : Paged
  pub mid : Option (List ℕ)
  pub carried_out : TakesLines text (λ input left. PagesDomain name input left before.holds after.holds kept keeps paged) before.reads after.reads
  pub quiet : IsQuiet is_explained before.tells mid
  pub told : TellsPaged page paged mid after.tells status

-- `opens name` says what may come of opening a file of this name.
module _ (opens : List ℕ → Result (Option (List ℕ)) Error → Type 0) where
  abbrev pub PagesFile : Source → List ℕ → Bool → Option (List ℕ) → Option (List ℕ) → Streams → Streams → ℕ → Type 0
  PagesFile source page is_explained kept keeps before after status =
      ((script : List ℕ) × (mid : Streams) × ReadsScript opens source script before mid
      × RunsPaged (name_of source) page is_explained (Some script) kept keeps mid after status)
      ⊎ (SkipsScript opens source before after × (keeps ≡ kept) × (status ≡ 3))

  -- The script of a source, line by line as standard input has it, or from a file.
  abbrev pub PagesLines : Source → List ℕ → Bool → Option (List ℕ) → Option (List ℕ) → Streams → Streams → ℕ → Type 0
  PagesLines Input page is_explained kept keeps before after status =
      RunsPaged (name_of Input) page is_explained None kept keeps before after status
  PagesLines (File file) page is_explained kept keeps before after status =
      PagesFile (File file) page is_explained kept keeps before after status

  -- `creates name` says what may come of making a file of this name, and `leaves name` what a new file of this name held when it was closed.
  module _ (creates : List ℕ → Result (Option (List ℕ)) Error → Type 0) (leaves : List ℕ → Option (List ℕ) → Type 0) where
    -- The page's file was made before the first line was answered, and has the page; or it was not made, which standard error was told, and no line
    -- was answered.
    unfoldable pub PagesSource : Source → Bool → List ℕ → Streams → Streams → ℕ → Type 0
    PagesSource source is_explained page before after status =
        ((kept : Option (List ℕ)) × creates page (Ok kept) × (keeps : Option (List ℕ)) × leaves page keeps
        × PagesLines source page is_explained kept keeps before after status)
        ⊎ ((error : Error) × creates page (Err error) × (words : List ℕ) × Tells (uncreated_line page words) before after × (status ≡ 1))
