-- What a router's file says, line by line, or the first line that is refused. (This project's own choice.)
use Rattle.std.specs.Prelude.{◌≡◌, ◌≢◌, ℕ, ◌++◌, List, [], ◌∷◌, Option, Some, None, Result, Ok, Err, if◌then◌else◌}
use Rattle.std.specs.List.{enumerate_from, list_all}
use Rattle.std.specs.Option.{option_map}
use Rattle.std.specs.Str.{is_utf8}
use Rattle.std.specs.Str.Lines.{lines}
use Rattle.router_files.specs.Options.{option_in}
use Rattle.router_files.specs.Said.{IsFault, Reading, SaidView, said_of, view_of}
use Rattle.router_files.specs.Words.{words_in}
use Rattle.router_files.specs.declared.options.RouterOption.{RouterOption}
use Rattle.router_files.specs.declared.reading.Statement.{Statement}
use Rattle.router_files.specs.declared.reading.WrongLine.{WrongLine}
use Rattle.router_files.specs.declared.said.LineFault.{LineFault}
use Rattle.router_files.specs.declared.said.LineFault.TheVariants as fault
use Rattle.router_files.specs.declared.said.Said.{Said}

-- a line that says an option: the option, what it says of it, its number and the line
pub record StatementView : Type 0 where
  pub option : RouterOption
  pub said : SaidView
  pub number : ℕ
  pub line : List ℕ

-- a line that is refused
pub record WrongView : Type 0 where
  pub number : ℕ
  pub line : List ℕ
  pub why : LineFault

abbrev pub statement_of : Statement → StatementView
statement_of s = record { option = s.option; said = view_of s.said; number = s.number; line = s.line.items }

-- ---- one line

-- what it says, if anything
abbrev pub Read : Type 0
Read = Option (RouterOption × SaidView)

abbrev pub read_of : RouterOption × Said → RouterOption × SaidView
read_of read = (read.0, view_of read.1)

abbrev pub as_read : RouterOption → Reading → Result Read LineFault
as_read option (Ok said) = Ok (Some (option, said))
as_read option (Err why) = Err why

-- the first word is the name of an option, and the others say something of it
abbrev pub named_read : List ℕ → Option RouterOption → List (List ℕ) → Result Read LineFault
named_read folder None values = Err fault.Unknown
named_read folder (Some option) values = as_read option (said_of folder option values)

abbrev pub words_read : List ℕ → List (List ℕ) → Result Read LineFault
words_read folder [] = Ok None
words_read folder (name ∷ values) = named_read folder (option_in name) values

abbrev pub line_read : List ℕ → List ℕ → Result Read LineFault
line_read folder line = if list_all is_utf8 (words_in line) then words_read folder (words_in line) else Err fault.NotText

-- what a reading of a line answers
abbrev pub IsRead : Result (Option (RouterOption × Said)) LineFault → Result Read LineFault → Type 0
IsRead (Ok read) found = found ≡ Ok (option_map read_of read)
IsRead (Err why) found = IsFault found why

-- ---- all lines

abbrev pub Line : Type 0
Line = ℕ × List ℕ

abbrev pub with_read : List StatementView → ℕ → List ℕ → Read → List StatementView
with_read before number line None = before
with_read before number line (Some read) = before ++ record { option = read.0; said = read.1; number = number; line = line } ∷ []

-- what a line says stands before what the others say; the first line that is refused is named
abbrev pub before_others : Result Read LineFault → Line → Result (List StatementView) WrongView → Result (List StatementView) WrongView
before_others (Err why) line others = Err (record { number = line.0; line = line.1; why = why })
before_others (Ok read) line (Err wrong) = Err wrong
before_others (Ok read) line (Ok others) = Ok (with_read [] line.0 line.1 read ++ others)

abbrev pub statements_in : List ℕ → List Line → Result (List StatementView) WrongView
statements_in folder [] = Ok []
statements_in folder (line ∷ lines) = before_others (line_read folder line.1) line (statements_in folder lines)

-- what a text says; its lines are numbered from 1
abbrev pub file_in : List ℕ → List ℕ → Result (List StatementView) WrongView
file_in folder text = statements_in folder (enumerate_from 1 (lines text))

-- a line that is refused for this reason, or for want of memory
pub record IsWrong (number : ℕ) (line : List ℕ) (why : LineFault) (wrong : WrongLine) : Type 0 where
  pub is : wrong.why ≢ fault.Memory
      → (wrong.number ≡ number) × (wrong.line.items ≡ line) × (wrong.why ≡ why)

-- the fault is the one that was found; refused memory says nothing of the text
abbrev pub IsFileFault : Result (List StatementView) WrongView → WrongLine → Type 0
IsFileFault found wrong = wrong.why ≢ fault.Memory
    → found ≡ Err (record { number = wrong.number; line = wrong.line.items; why = wrong.why })
