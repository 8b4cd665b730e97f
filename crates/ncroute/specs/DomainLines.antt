-- What people are told of words that do not go together with the file of a domain. (This project's own choice.)
use Rattle.std.specs.Prelude.{ℕ, List, [], ◌∷◌, ◌++◌, Option, Some, None, codes, decimal}
use Rattle.router_files.specs.Files.{StatementView}
use Rattle.router_files.specs.Options.{name_of}
use Rattle.router_files.specs.Places.{first_byte, second_byte}
use Rattle.router_files.specs.declared.options.RouterOption.TheVariants as option
use Rattle.router_words.specs.Stated.{OriginView, nth_stated}
use Rattle.ncroute.specs.WrongWords.{place_words}
use Rattle.ncroute.specs.declared.domain_words.DomainFault.{DomainFault}
use Rattle.ncroute.specs.declared.domain_words.DomainFault.TheVariants.{Beside, NoNeighbour, NoStreams}

abbrev pub line_of : DomainFault → List StatementView → Option StatementView
line_of (Beside option) statements = nth_stated option 0 statements
line_of (NoNeighbour at node) statements = nth_stated option.Link at statements
line_of (NoStreams node) statements = None

abbrev pub byte_of : DomainFault → List ℕ → ℕ
byte_of (NoNeighbour at node) line = second_byte line
byte_of (Beside option) line = first_byte line
byte_of (NoStreams node) line = first_byte line

abbrev pub why_words : DomainFault → List ℕ
why_words (Beside option) = codes "the file of the domain says this"
why_words (NoNeighbour at node) = codes "the file of the domain has no link to node " ++ decimal node
why_words (NoStreams node) =
    codes "the file of the domain has a link to node " ++ decimal node ++ codes ", and no --link says where its streams are"

abbrev pub option_words : DomainFault → List ℕ
option_words (Beside option) = codes "--" ++ name_of option ++ codes ": "
option_words (NoNeighbour at node) = codes "--" ++ name_of option.Link ++ codes ": "
option_words (NoStreams node) = []

-- the place of the line that says it, or else the name of the option
abbrev pub front_words : List ℕ → DomainFault → Option StatementView → List ℕ
front_words name fault None = codes "error: " ++ option_words fault
front_words name fault (Some statement) = place_words name statement.number statement.line (byte_of fault statement.line)

abbrev pub domain_line : OriginView → DomainFault → List ℕ
domain_line origin fault = front_words origin.name fault (line_of fault origin.statements) ++ why_words fault ++ 10 ∷ []
