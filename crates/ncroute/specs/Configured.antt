-- What the program does for `router`, with the options of a file, and its exit status. (This project's own choice.)
use Rattle.std.specs.Prelude.{◌≡◌, ◌≢◌, ◌⊎◌, ℕ, List, [], Option, Some, None, Result, Ok, String, string_bytes}
use Rattle.std.specs.Io.KnownBytes.{Appends}
use Rattle.std.specs.declared.alloc.Global.{Global}
use Rattle.std.specs.declared.io.Error.{Error}
use Rattle.filter_reports.specs.Cuts.{IsCut}
use Rattle.filter_reports.specs.Faults.{stream_fault}
use Rattle.filter_reports.specs.declared.fault.ProgramFault.{ProgramFault}
use Rattle.filter_reports.specs.declared.fault.ProgramFault.TheVariants.{Stream}
use Rattle.history_saver.specs.Folders.{FolderView}
use Rattle.line_protocol.specs.declared.faults.StreamFault.{StreamFault}
use Rattle.line_protocol.specs.declared.faults.StreamFault.TheVariants.{Memory}
use Rattle.router_files.specs.Files.{IsFileFault, StatementView, file_in}
use Rattle.router_files.specs.declared.reading.WrongLine.{WrongLine}
use Rattle.router_files.specs.declared.said.LineFault.TheVariants as line
use Rattle.program_words.specs.Sources.{path_of}
use Rattle.program_words.specs.declared.source.Source.{Source}
use Rattle.command_line.specs.declared.router_words.RouterWords.{RouterWords}
use Rattle.ncroute.specs.DomainRouter.{CutsInDomain, ServesInDomain}
use Rattle.program_console.specs.declared.ending.Program.TheVariants.{Ncroute}
use Rattle.program_console.specs.Ending.{fault_line}
use Rattle.router_words.specs.Gathering.{Fit, Gathers, IsClash}
use Rattle.program_console.specs.Beside.{IsBeside}
use Rattle.program_console.specs.Limited.{IsText, StopsText}
use Rattle.router_words.specs.Stated.{OriginView, no_file}
use Rattle.program_console.specs.Streaming.{Streams}
use Rattle.ncroute.specs.WrongLines.{clash_line, refused_line, wrong_of}
use Rattle.router_words.specs.declared.gathering.Clash.{Clash}

-- `TellsLine told tells line` says in all of this what standard error was told of the line with which a run ends: all of it, or a front.
abbrev pub Telling : Type 1
Telling = Option (List ℕ) → Option (List ℕ) → List ℕ → Type 0

-- memory was refused
abbrev pub EndsByMemory : Telling → Option (List ℕ) → Option (List ℕ) → ℕ → Type 0
EndsByMemory TellsLine stderr_before stderr_after status = TellsLine stderr_before stderr_after (fault_line Ncroute (Stream Memory)) × (status ≡ 1)

-- a line of the file is refused by itself, or memory was refused before that was known
abbrev pub EndsByWrong : Telling → List ℕ → WrongLine → Option (List ℕ) → Option (List ℕ) → ℕ → Type 0
EndsByWrong TellsLine name wrong stderr_before stderr_after status =
    ((wrong.why ≡ line.Memory) × EndsByMemory TellsLine stderr_before stderr_after status)
    ⊎ ((wrong.why ≢ line.Memory) × TellsLine stderr_before stderr_after (refused_line name (wrong_of wrong)) × (status ≡ 2))

-- a line of the file does not go together with others
abbrev pub EndsByClash : Telling → List ℕ → Clash → Option (List ℕ) → Option (List ℕ) → ℕ → Type 0
EndsByClash TellsLine name clash stderr_before stderr_after status = TellsLine stderr_before stderr_after (clash_line name clash) × (status ≡ 2)

-- It ended by a line, and else nothing was done.
abbrev pub EndsBy : (Option (List ℕ) → Option (List ℕ) → ℕ → Type 0) → Streams → Streams → ℕ → Type 0
EndsBy Ends before after status =
    Ends before.tells after.tells status × (after.reads ≡ before.reads) × (after.holds ≡ before.holds)

-- `opens name` says what may come of opening a file of this name.
module _ (opens : List ℕ → Result (Option (List ℕ)) Error → Type 0) where
  -- `makes name` says what may come of making a folder of this name, and `keeps name` what one held when it was left.
  module _ (makes : List ℕ → Result (Option FolderView) Error → Type 0) (keeps : List ℕ → Option FolderView → Type 0) where
    -- What the command line and the lines of a file say together was done; or a line does not go together with others, or memory was refused,
    -- and nothing was read or started. `Does origin words before after status` says what is done for words.
    abbrev pub DoesStatements : (OriginView → RouterWords → Streams → Streams → ℕ → Type 0) → Telling → OriginView → RouterWords
        → Streams → Streams → ℕ → Type 0
    DoesStatements Does TellsLine origin words before after status =
        (Fit words origin.statements × ((all : RouterWords) × Gathers words origin.statements all × Does origin all before after status))
        ⊎ (((clash : Clash) × IsClash words origin.statements clash
        × EndsBy (EndsByClash TellsLine origin.name clash) before after status)
        ⊎ EndsBy (EndsByMemory TellsLine) before after status)

    unfoldable pub ServesStatements : OriginView → RouterWords → Streams → Streams → ℕ → Type 0
    ServesStatements origin words before after status =
        DoesStatements (ServesInDomain opens makes keeps) Appends origin words before after status

    unfoldable pub CutsStatements : StreamFault → OriginView → RouterWords → Streams → Streams → ℕ → Type 0
    CutsStatements cut origin words before after status =
        DoesStatements (CutsInDomain opens makes keeps cut) (IsCut cut) origin words before after status

    -- The lines of the text of a file say these options, the names of files counting from the folder of the file; or the first line is told that
    -- is refused by itself.
    abbrev pub DoesText : (OriginView → RouterWords → Streams → Streams → ℕ → Type 0) → Telling → List ℕ → List ℕ → RouterWords
        → Streams → Streams → ℕ → Type 0
    DoesText Does TellsLine name text words before after status = ((folder : List ℕ) × IsBeside name [] folder
        × (((statements : List StatementView) × (file_in folder text ≡ Ok statements)
        × Does (record { name = name; statements = statements }) words before after status)
        ⊎ ((wrong : WrongLine) × IsFileFault (file_in folder text) wrong × EndsBy (EndsByWrong TellsLine name wrong) before after status)))
        ⊎ EndsBy (EndsByMemory TellsLine) before after status

    unfoldable pub ServesText : List ℕ → List ℕ → RouterWords → Streams → Streams → ℕ → Type 0
    ServesText name text words before after status = DoesText ServesStatements Appends name text words before after status

    unfoldable pub CutsText : StreamFault → List ℕ → List ℕ → RouterWords → Streams → Streams → ℕ → Type 0
    CutsText cut name text words before after status = DoesText (CutsStatements cut) (IsCut cut) name text words before after status

    -- The file was read, and what it says was done; or a fault kept it from being read, or memory was refused.
    abbrev pub DoesFile : (List ℕ → RouterWords → Streams → Streams → ℕ → Type 0) → Telling → List ℕ → RouterWords
        → Streams → Streams → ℕ → Type 0
    DoesFile Does TellsLine name words before after status =
        ((source : Source) × (path_of source ≡ Some name)
        × (((text : List ℕ) × (mid : Streams) × IsText opens source (Some text) before mid × Does text words mid after status)
        ⊎ ((fault : ProgramFault) × (mid : Streams) × StopsText opens (stream_fault fault) source before mid
        × EndsBy (λ stderr_before stderr_after ended. TellsLine stderr_before stderr_after (fault_line Ncroute fault) × (ended ≡ 1)) mid after status)))
        ⊎ EndsBy (EndsByMemory TellsLine) before after status

    -- ... or it was not read, with status 1.
    unfoldable pub ServesFile : List ℕ → RouterWords → Streams → Streams → ℕ → Type 0
    ServesFile name words before after status = DoesFile (ServesText name) Appends name words before after status
        ⊎ ((source : Source) × (path_of source ≡ Some name) × IsText opens source None before after × (status ≡ 1))

    unfoldable pub CutsFile : StreamFault → List ℕ → RouterWords → Streams → Streams → ℕ → Type 0
    CutsFile cut name words before after status = DoesFile (CutsText cut name) (IsCut cut) name words before after status

    -- The words name no file, or one.
    abbrev pub ServesBy : Option (String Global) → RouterWords → Streams → Streams → ℕ → Type 0
    ServesBy None words before after status = ServesInDomain opens makes keeps no_file words before after status
    ServesBy (Some name) words before after status = ServesFile (string_bytes name) words before after status

    abbrev pub CutsBy : StreamFault → Option (String Global) → RouterWords → Streams → Streams → ℕ → Type 0
    CutsBy cut None words before after status = CutsInDomain opens makes keeps cut no_file words before after status
    CutsBy cut (Some name) words before after status = CutsFile cut (string_bytes name) words before after status

    -- A router was run as its words say, with those of the file that they name, or what these say was looked at alone; or nothing was started,
    -- and standard error was told why.
    abbrev pub ServesConfigured : RouterWords → Streams → Streams → ℕ → Type 0
    ServesConfigured words before after status = ServesBy words.config words before after status

    -- It ended with a line, and a fault cut what standard error was told of that one.
    abbrev pub CutsConfigured : StreamFault → RouterWords → Streams → Streams → ℕ → Type 0
    CutsConfigured cut words before after status = CutsBy cut words.config words before after status
