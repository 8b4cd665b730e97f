-- Lines of a router's file that are read one after another.
use Rattle.std.proofs.Common.{◌≡◌, ℕ, List, ◌++◌, Some, None, Result, Ok, Err, ap, refl, sym}
use Rattle.std.proofs.lemmas.List.{append_assoc}
use Rattle.router_files.specs.Files.{IsFileFault, IsWrong, Read, StatementView, WrongView, before_others, with_read}
use Rattle.router_files.specs.Said.{IsFault}
use Rattle.router_files.specs.declared.reading.WrongLine.{WrongLine}
use Rattle.router_files.specs.declared.said.LineFault.{LineFault}
use Rattle.router_files.specs.declared.said.LineFault.TheVariants.{Memory}

-- what was read before what is read of the rest
abbrev pub behind : List StatementView → Result (List StatementView) WrongView → Result (List StatementView) WrongView
behind done (Ok more) = Ok (done ++ more)
behind done (Err wrong) = Err wrong

-- one line more
pub grown : (done : List StatementView) (number : ℕ) (line : List ℕ) (read : Read) (others : Result (List StatementView) WrongView)
    → behind done (before_others (Ok read) (number, line) others) ≡ behind (with_read done number line read) others
grown done number line None (Ok others) = refl
grown done number line (Some read) (Ok others) = ap Ok (sym (append_assoc done _ others))
grown done number line None (Err wrong) = refl
grown done number line (Some read) (Err wrong) = refl

-- a line that is refused
pub refused : (done : List StatementView) (number : ℕ) (line : List ℕ) (found : Result (List StatementView) WrongView)
    (said : Result Read LineFault) (others : Result (List StatementView) WrongView) (why : LineFault) (wrong : WrongLine)
    → found ≡ behind done (before_others said (number, line) others) → IsFault said why → IsWrong number line why wrong
    → IsFileFault found wrong
refused done number line found said others why wrong is fault told some =
    let same = told.is some in
    let known : said ≡ Err why = fault (rw (← same.2) some) in
    rw (is, known, same.0, same.1, same.2) refl

-- memory was refused
pub no_memory : (number : ℕ) (line : List ℕ) (found : Result (List StatementView) WrongView) (wrong : WrongLine)
    → IsWrong number line Memory wrong → IsFileFault found wrong
no_memory number line found wrong told some = absurd (some (told.is some).2)
