-- What the words of the command line ask for. (This project's own choice.)
use Rattle.std.specs.Prelude.{◌≡◌, ◌⊎◌, ℕ, Bool, false, List, [], Some, None, codes, option_map, string_bytes}
use Rattle.clap.specs.Words.{IsAmong, Row, fault_of, matches_of}
use Rattle.clap.specs.declared.error.kind.ErrorKind.{ErrorKind}
use Rattle.line_protocol.specs.declared.faults.StreamFault.{StreamFault}
use Rattle.line_protocol.specs.declared.faults.StreamFault.TheVariants.{Memory, Write}
use Rattle.program_words.specs.Given.{number_of, word_of}
use Rattle.program_words.specs.Showing.{status_of}
use Rattle.program_words.specs.Sources.{IsNamed, is_input, one_name}
use Rattle.import_words.specs.Program.{program}
use Rattle.import_words.specs.declared.words.Importing.{Importing}
use Rattle.import_words.specs.declared.words.Invocation.{Invocation}
use Rattle.import_words.specs.declared.words.Invocation.TheVariants.{Asked, Shown}

-- how filters are imported
pub record IsImporting (given : List Row) (how : Importing) : Type 0 where
  pub size : number_of 32 (codes "size") given ≡ Some how.size
  pub folder : option_map (λ copy. string_bytes copy) how.folder ≡ word_of (codes "out") given

-- What the words come to that the parser of words accepts. It accepts none without a size.
abbrev pub ComesTo : List Row → Invocation → Type 0
ComesTo given (Asked how source) = IsImporting given how × IsNamed (one_name (codes "file") given) source
ComesTo given (Shown status) = (number_of 32 (codes "size") given ≡ None) × (status ≡ 2)

-- The parser of words does not accept the words of a command line, and this is one of the kinds of error that the first mistake has.
abbrev pub IsWrong : List (List ℕ) → ErrorKind → Type 0
IsWrong line shown = IsAmong shown (fault_of program line)

-- what the words of a command line come to, of which the first is the program's name
abbrev pub IsMeant : List (List ℕ) → Invocation → Type 0
IsMeant line words = ((shown : ErrorKind) × IsWrong line shown × (words ≡ Shown (status_of shown)))
    ⊎ ((fault_of program line ≡ []) × ComesTo (matches_of program line) words)

-- The words do not come to anything: memory was refused, or help was to be shown and was not taken.
abbrev pub FailsBy : List (List ℕ) → StreamFault → Type 0
FailsBy line fault = (fault ≡ Memory) ⊎ ((fault ≡ Write) × ((shown : ErrorKind) × IsWrong line shown × (status_of shown ≡ 0)))

-- the words ask for something that is on standard input
abbrev pub reads_input : Invocation → Bool
reads_input (Asked how source) = is_input source
reads_input (Shown status) = false
