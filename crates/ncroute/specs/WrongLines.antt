-- What people are told of a line of a router's file that is refused. (This project's own choice.)
use Rattle.std.specs.Prelude.{ℕ, List, [], ◌∷◌, ◌++◌, codes, decimal}
use Rattle.router_files.specs.Files.{StatementView, WrongView, statement_of}
use Rattle.router_files.specs.Options.{form_of}
use Rattle.router_files.specs.Places.{first_byte, second_byte, third_byte}
use Rattle.router_files.specs.declared.options.RouterOption.{RouterOption}
use Rattle.router_files.specs.declared.reading.WrongLine.{WrongLine}
use Rattle.router_files.specs.declared.said.LineFault.{LineFault}
use Rattle.router_files.specs.declared.said.LineFault.TheVariants as fault
use Rattle.ncroute.specs.WrongWords.{place_words}
use Rattle.router_words.specs.declared.gathering.Clash.{Clash}
use Rattle.router_words.specs.declared.gathering.Clash.TheVariants.{Again, Wrong}
use Rattle.router_words.specs.declared.gathering.StatementFault.{StatementFault}
use Rattle.router_words.specs.declared.gathering.StatementFault.TheVariants as statement

-- ---- a line that is refused by itself

abbrev pub wrong_of : WrongLine → WrongView
wrong_of wrong = record { number = wrong.number; line = wrong.line.items; why = wrong.why }

-- the byte at which that begins which is refused
abbrev pub byte_of : List ℕ → LineFault → ℕ
byte_of line fault.NotText = 0
byte_of line fault.Unknown = first_byte line
byte_of line (fault.Form option) = first_byte line
byte_of line fault.Number = second_byte line
byte_of line fault.Node = second_byte line
byte_of line fault.Comma = third_byte line
byte_of line fault.CommaOfControl = second_byte line
byte_of line fault.Memory = 0

abbrev pub form_words : RouterOption → List ℕ
form_words option = codes "the form is '" ++ form_of option ++ codes "'"

abbrev pub why_words : LineFault → List ℕ
why_words fault.NotText = codes "this line is not UTF-8"
why_words fault.Unknown = codes "no option has this name"
why_words (fault.Form option) = form_words option
why_words fault.Number = codes "a number is 0 to 4294967295"
why_words fault.Node = codes "this is no number of a node"
why_words fault.Comma = codes "IN has a comma in its name, or in that of the folder"
why_words fault.CommaOfControl = codes "IN or OUT has a comma in its name, or in that of the folder"
why_words fault.Memory = codes "out of memory"

-- the line that tells of it, in the file of this name
abbrev pub refused_line : List ℕ → WrongView → List ℕ
refused_line name wrong =
    place_words name wrong.number wrong.line (byte_of wrong.line wrong.why) ++ why_words wrong.why ++ 10 ∷ []

-- ---- a line that does not go together with others

-- it says again what an earlier one says
abbrev pub again_line : List ℕ → StatementView → StatementView → List ℕ
again_line name later earlier = place_words name later.number later.line (first_byte later.line) ++ codes "line "
    ++ decimal earlier.number ++ codes " says this too" ++ 10 ∷ []

abbrev pub fault_words : StatementFault → List ℕ
fault_words statement.Name =
    codes "the name of a filter is letters, digits and _, does not begin with a digit, and has at most 64 bytes" ++ 10 ∷ []
fault_words statement.Beside = codes "the command line says this too" ++ 10 ∷ []

abbrev pub byte_by : List ℕ → StatementFault → ℕ
byte_by line statement.Name = second_byte line
byte_by line statement.Beside = first_byte line

abbrev pub statement_line : List ℕ → StatementView → StatementFault → List ℕ
statement_line name said why = place_words name said.number said.line (byte_by said.line why) ++ fault_words why

abbrev pub clash_line : List ℕ → Clash → List ℕ
clash_line name (Again later earlier) = again_line name (statement_of later.now) (statement_of earlier.now)
clash_line name (Wrong said why) = statement_line name (statement_of said.now) why
