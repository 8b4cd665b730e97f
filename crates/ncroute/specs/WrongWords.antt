-- What people are told of wrong words of `router`: which option has which value, and why it is refused. (This project's own choice.)
use Rattle.std.specs.Prelude.{ℕ, List, [], ◌∷◌, ◌++◌, Option, Some, None, codes, decimal}
use Rattle.refusal_words.specs.Explanations.{position}
use Rattle.refusal_words.specs.Places.{column_at}
use Rattle.refusal_words.specs.Shown.{shown}
use Rattle.router_files.specs.Files.{StatementView}
use Rattle.router_files.specs.Options.{form_of}
use Rattle.router_files.specs.Places.{second_byte, third_byte}
use Rattle.router_files.specs.declared.options.RouterOption.{RouterOption}
use Rattle.router_files.specs.declared.options.RouterOption.TheVariants as said
use Rattle.router_options.specs.declared.fault.NodeFault.{NodeFault}
use Rattle.router_options.specs.declared.fault.NodeFault.TheVariants.{Outside, Itself}
use Rattle.router_options.specs.declared.fault.NumberFault.{NumberFault}
use Rattle.router_options.specs.declared.fault.NumberFault.TheVariants as number
use Rattle.router_options.specs.declared.fault.OptionFault.{OptionFault}
use Rattle.router_options.specs.declared.fault.OptionFault.TheVariants as option
use Rattle.router_words.specs.Stated.{OriginView, nth_stated}
use Rattle.ncroute.specs.declared.planning.OptionKind.{OptionKind}
use Rattle.ncroute.specs.declared.planning.OptionKind.TheVariants as kind
use Rattle.ncroute.specs.declared.planning.PlanFault.{PlanFault}
use Rattle.ncroute.specs.declared.planning.PlanFault.TheVariants.{Missing, WrongNumber, WrongOption}

-- ---- the names of options, and their forms

abbrev pub option_name : OptionKind → List ℕ
option_name kind.Prefix = codes "--prefix"
option_name kind.Filter = codes "--filter"
option_name kind.Import = codes "--import"
option_name kind.Export = codes "--export"
option_name kind.Link = codes "--link"
option_name kind.Control = codes "--control"

abbrev pub option_form : OptionKind → List ℕ
option_form kind.Prefix = codes "the form is V=PREFIX, with the number of a node and a prefix as 10.0.0.0/8"
option_form kind.Filter = codes "the form is NAME=FILE"
option_form kind.Import = codes "the form is W=NAME, with the number of a neighbour and the name of a filter"
option_form kind.Export = codes "the form is W=NAME, with the number of a neighbour and the name of a filter"
option_form kind.Link = codes "the form is W=IN,OUT, with the number of a neighbour and two files"
option_form kind.Control = codes "the form is IN,OUT or IN,OUT,look, with two files"

-- ---- why an option is refused

abbrev pub node_words : ℕ → List ℕ
node_words node = codes "node " ++ decimal node

-- a node is not in the domain, whose last node is this
abbrev pub outside_words : ℕ → ℕ → List ℕ
outside_words node last = node_words node ++ codes " is not in the domain, whose nodes are 0 to " ++ decimal last

-- a node is the router itself
abbrev pub itself_words : ℕ → List ℕ
itself_words node = node_words node ++ codes " is this router itself"

abbrev pub node_fault_words : ℕ → NodeFault → List ℕ
node_fault_words node (Outside last) = outside_words node last
node_fault_words node Itself = itself_words node

-- an earlier option of this kind is of the same node
abbrev pub twice_words : OptionKind → ℕ → List ℕ
twice_words k node = codes "an earlier " ++ option_name k ++ codes " names node " ++ decimal node ++ codes " too"

abbrev pub option_fault_words : OptionKind → OptionFault → List ℕ
option_fault_words k option.Form = option_form k
option_fault_words k (option.Node node why) = node_fault_words node why
option_fault_words k option.UnknownFilter = codes "no --filter gives this name"
option_fault_words k (option.Twice node) = twice_words k node
option_fault_words k option.Memory = codes "out of memory"

-- a neighbour that comes up is told so many distances
abbrev pub queue_words : ℕ → List ℕ
queue_words least = decimal least ++ codes " messages wait for each neighbour that comes up"

abbrev pub number_fault_words : NumberFault → List ℕ
number_fault_words (number.Size size) = codes "a domain has 2 to 250 nodes"
number_fault_words (number.Node node last) = outside_words node last
number_fault_words (number.Limit limit) = codes "a router has room for 2048 to 1000000 entries in memory"
number_fault_words (number.Queue queue least) = queue_words least
number_fault_words number.Segments = codes "1 segment is kept or more"
number_fault_words (number.Unsaved count) = codes "no --save gives a folder to keep segments in"
number_fault_words number.Retry = codes "a link is opened again after 1 second or more"
number_fault_words (number.Hold hold) = codes "a HOLD is 3600 seconds or fewer"
number_fault_words number.Memory = codes "out of memory"

-- ---- the number that is refused, and the name of its option; refused memory has neither, and is told otherwise

abbrev pub number_name : NumberFault → List ℕ
number_name (number.Size size) = codes "--size"
number_name (number.Node node last) = codes "--node"
number_name (number.Limit limit) = codes "--limit"
number_name (number.Queue queue least) = codes "--queue"
number_name number.Segments = codes "--segments"
number_name (number.Unsaved count) = codes "--segments"
number_name number.Retry = codes "--retry"
number_name (number.Hold hold) = codes "--hold"
number_name number.Memory = []

abbrev pub number_value : NumberFault → ℕ
number_value (number.Size size) = size
number_value (number.Node node last) = node
number_value (number.Limit limit) = limit
number_value (number.Queue queue least) = queue
number_value number.Segments = 0
number_value (number.Unsaved count) = count
number_value number.Retry = 0
number_value (number.Hold hold) = hold
number_value number.Memory = 0

-- ---- the line

-- what is refused: a number in decimal, and a text as it is shown, with the name of the option
abbrev pub number_words : NumberFault → List ℕ
number_words why = codes "invalid value '" ++ decimal (number_value why) ++ codes "' for '" ++ number_name why ++ codes "': "

abbrev pub option_words : OptionKind → List ℕ → List ℕ
option_words k text = codes "invalid value '" ++ shown text ++ codes "' for '" ++ option_name k ++ codes "': "

abbrev pub refused_words : PlanFault → List ℕ
refused_words (Missing option) = []
refused_words (WrongNumber why) = number_words why
refused_words (WrongOption k at text why) = option_words k text.now

-- why it is
abbrev pub missing_words : RouterOption → List ℕ
missing_words option = codes "--" ++ form_of option ++ codes " is missing"

abbrev pub reason_words : PlanFault → List ℕ
reason_words (Missing option) = missing_words option
reason_words (WrongNumber why) = number_fault_words why
reason_words (WrongOption k at text why) = option_fault_words k why

-- the line that tells what is wrong with an option of the command line
abbrev pub unplaced_line : PlanFault → List ℕ
unplaced_line fault = codes "error: " ++ refused_words fault ++ reason_words fault ++ 10 ∷ []

-- the place of a byte of a line of a file: the file's name as it is shown, the number of the line, and the column
abbrev pub place_words : List ℕ → ℕ → List ℕ → ℕ → List ℕ
place_words name number line byte = shown name ++ position number (column_at line byte) ++ codes ": "

-- the option whose number is refused; none where memory was refused
abbrev pub numbered_option : NumberFault → Option RouterOption
numbered_option (number.Size size) = Some said.Size
numbered_option (number.Node node last) = Some said.Node
numbered_option (number.Limit limit) = Some said.Limit
numbered_option (number.Queue queue least) = Some said.Queue
numbered_option number.Segments = Some said.Segments
numbered_option (number.Unsaved count) = Some said.Segments
numbered_option number.Retry = Some said.Retry
numbered_option (number.Hold hold) = Some said.Hold
numbered_option number.Memory = None

-- the option of a kind
abbrev pub option_of : OptionKind → RouterOption
option_of kind.Prefix = said.Prefix
option_of kind.Filter = said.Filter
option_of kind.Import = said.Import
option_of kind.Export = said.Export
option_of kind.Link = said.Link
option_of kind.Control = said.Control

-- the first line that says an option
abbrev pub first_stated : Option RouterOption → List StatementView → Option StatementView
first_stated None statements = None
first_stated (Some option) statements = nth_stated option 0 statements

-- the line of the file that says what is refused, if one does: what the file says comes before what the command line says
abbrev pub line_of : PlanFault → List StatementView → Option StatementView
line_of (Missing option) statements = None
line_of (WrongNumber why) statements = first_stated (numbered_option why) statements
line_of (WrongOption k at text why) statements = nth_stated (option_of k) at statements

-- the byte of the line at which it begins: the name of the filter that is not known, or what follows the name of the option
abbrev pub byte_by : OptionFault → List ℕ → ℕ
byte_by option.UnknownFilter line = third_byte line
byte_by _ line = second_byte line

abbrev pub byte_of : PlanFault → List ℕ → ℕ
byte_of (WrongOption k at text why) line = byte_by why line
byte_of _ line = second_byte line

-- the line that tells what is wrong with an option of a file
abbrev pub placed_line : List ℕ → StatementView → PlanFault → List ℕ
placed_line name statement fault =
    place_words name statement.number statement.line (byte_of fault statement.line) ++ reason_words fault ++ 10 ∷ []

-- the line that tells what is wrong with the words, some of which a file may say
abbrev pub told_by : List ℕ → Option StatementView → PlanFault → List ℕ
told_by name None fault = unplaced_line fault
told_by name (Some statement) fault = placed_line name statement fault

abbrev pub wrong_line : OriginView → PlanFault → List ℕ
wrong_line origin fault = told_by origin.name (line_of fault origin.statements) fault
