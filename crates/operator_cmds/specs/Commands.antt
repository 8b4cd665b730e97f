-- What command a line gives, or the first thing that is wrong with it. (This project's own choice.)
use Rattle.std.specs.Prelude.{ℕ, Bool, ◌&&◌, List, [], ◌∷◌, length, nat_lt, Option, Some, None, Result, Ok, Err, if◌then◌else◌}
use Rattle.hex.specs.Hex.{decode_of}
use Rattle.hex.specs.declared.error.FromHexError.{FromHexError}
use Rattle.line_protocol.specs.Limits.{line_limit, number_limit}
use Rattle.line_protocol.specs.Words.{words, without_front_blanks}
use Rattle.prefix_patterns.specs.Reading.{number_in, prefix_in}
use Rattle.operator_cmds.specs.CommandView.{CommandView, Network, Prefix, Load, Code, Import, Export, Up, Down, Receive, Take, Show, Look, History}
use Rattle.route_history.specs.Limits.{largest_limit}
use Rattle.operator_cmds.specs.Limits.{largest_position}
use Rattle.line_protocol.specs.Names.{is_name}
use Rattle.netchange_core.specs.Openings.{is_network}
use Rattle.operator_cmds.specs.Verbs.{verb_in}
use Rattle.operator_cmds.specs.WordLists.{after_word, one_of, two_of, three_of}
use Rattle.operator_cmds.specs.declared.command.Look.{Look as TablesLook}
use Rattle.operator_cmds.specs.declared.command.Look.TheVariants as look
use Rattle.operator_cmds.specs.declared.fault.CommandFault.{CommandFault}
use Rattle.operator_cmds.specs.declared.fault.CommandFault.TheVariants as fault
use Rattle.operator_cmds.specs.declared.verb.Verb.{Verb}
use Rattle.operator_cmds.specs.declared.verb.Verb.TheVariants as verb

-- a command, or what is wrong with its line
abbrev pub Read : Type 0
Read = Result CommandView CommandFault

abbrev pub network_parts : Option ℕ → Option ℕ → Read
network_parts None me = Err fault.Numbers
network_parts (Some size) None = Err fault.Numbers
network_parts (Some size) (Some me) = if is_network size me then Ok (Network size me None) else Err fault.Numbers

abbrev pub limited_parts : Option ℕ → Option ℕ → Option ℕ → Read
limited_parts None me limit = Err fault.Numbers
limited_parts (Some size) None limit = Err fault.Numbers
limited_parts (Some size) (Some me) None = Err fault.Numbers
limited_parts (Some size) (Some me) (Some limit) =
    if is_network size me && nat_lt 0 limit then Ok (Network size me (Some limit)) else Err fault.Numbers

-- `network N ME [LIMIT]`
abbrev pub network_of : List (List ℕ) → Read
network_of [] = Err fault.Words
network_of (size ∷ []) = Err fault.Words
network_of (size ∷ (me ∷ [])) = network_parts (number_in number_limit size) (number_in number_limit me)
network_of (size ∷ (me ∷ (limit ∷ []))) =
    limited_parts (number_in number_limit size) (number_in number_limit me) (number_in largest_limit limit)
network_of (size ∷ (me ∷ (limit ∷ (word ∷ more)))) = Err fault.Words

abbrev pub prefix_parts : Option ℕ → Option (List Bool) → Result (ℕ × List Bool) CommandFault
prefix_parts None prefix = Err fault.Numbers
prefix_parts (Some node) None = Err fault.Prefix
prefix_parts (Some node) (Some prefix) = Ok (node, prefix)

-- the number and the prefix of a node, as the only two words
abbrev pub node_prefix_in : Option (List ℕ × List ℕ) → Result (ℕ × List Bool) CommandFault
node_prefix_in None = Err fault.Words
node_prefix_in (Some (node, prefix)) = prefix_parts (number_in number_limit node) (prefix_in prefix)

-- the name and the text of a filter, where the text has at least one word
abbrev pub load_in : List (List ℕ) → List ℕ → Result (List ℕ × List ℕ) CommandFault
load_in [] text = Err fault.Words
load_in (name ∷ []) text = Err fault.Words
load_in (name ∷ (word ∷ more)) text = if is_name name then Ok (name, text) else Err fault.Words

abbrev pub code_parts : List ℕ → Result (List ℕ) FromHexError → Result (List ℕ × List ℕ) CommandFault
code_parts name (Ok bytes) = Ok (name, bytes)
code_parts name (Err why) = Err fault.Hexadecimal

-- the name of a filter and the bytes that the digits of its code file write, as the only two words
abbrev pub code_in : Option (List ℕ × List ℕ) → Result (List ℕ × List ℕ) CommandFault
code_in None = Err fault.Words
code_in (Some (name, digits)) = if is_name name then code_parts name (decode_of digits) else Err fault.Words

-- the number that a text writes
abbrev pub number_or : Option ℕ → Result ℕ CommandFault
number_or None = Err fault.Numbers
number_or (Some node) = Ok node

-- the number of a node, as the only word
abbrev pub node_in : Option (List ℕ) → Result ℕ CommandFault
node_in None = Err fault.Words
node_in (Some node) = number_or (number_in number_limit node)

abbrev pub named : List ℕ → Option ℕ → Result (ℕ × List ℕ) CommandFault
named name None = Err fault.Numbers
named name (Some node) = Ok (node, name)

-- the number of a node and the name of a filter, as the only two words: a bad name counts before a bad number
abbrev pub filter_in : Option (List ℕ × List ℕ) → Result (ℕ × List ℕ) CommandFault
filter_in None = Err fault.Words
filter_in (Some (node, name)) = if is_name name then named name (number_in number_limit node) else Err fault.Words

-- the command that is made of what was read
abbrev pub made : {X Command : Type 0} → (X → Command) → Result X CommandFault → Result Command CommandFault
made make (Ok x) = Ok (make x)
made make (Err why) = Err why

abbrev pub receive_parts : Option ℕ → Option ℕ → Option ℕ → Read
receive_parts None dest dist = Err fault.Numbers
receive_parts (Some node) None dist = Err fault.Numbers
receive_parts (Some node) (Some dest) None = Err fault.Numbers
receive_parts (Some node) (Some dest) (Some dist) = Ok (Receive node dest dist)

-- `recv W V D`
abbrev pub receive_of : Option (List ℕ × List ℕ × List ℕ) → Read
receive_of None = Err fault.Words
receive_of (Some (node, dest, dist)) =
    receive_parts (number_in number_limit node) (number_in number_limit dest) (number_in number_limit dist)

-- `routes` and `neighbours`: nothing follows them
abbrev pub alone_of : TablesLook → List (List ℕ) → Read
alone_of what [] = Ok (Look what)
alone_of what (word ∷ more) = Err fault.Words

-- a position in the history, as the only word
abbrev pub position_in : Option (List ℕ) → Result ℕ CommandFault
position_in None = Err fault.Words
position_in (Some from) = number_or (number_in largest_position from)

-- a command by its verb and the words after it; `text` is what follows the second word of the line, without blanks at its front
abbrev pub command_of : Option Verb → List (List ℕ) → List ℕ → Read
command_of None args text = Err fault.Words
command_of (Some verb.Network) args text = network_of args
command_of (Some verb.Prefix) args text = made (λ p. Prefix p.0 p.1) (node_prefix_in (two_of args))
command_of (Some verb.Load) args text = made (λ p. Load p.0 p.1) (load_in args text)
command_of (Some verb.Code) args text = made (λ p. Code p.0 p.1) (code_in (two_of args))
command_of (Some verb.Import) args text = made (λ p. Import p.0 p.1) (filter_in (two_of args))
command_of (Some verb.Export) args text = made (λ p. Export p.0 p.1) (filter_in (two_of args))
command_of (Some verb.Up) args text = made Up (node_in (one_of args))
command_of (Some verb.Down) args text = made Down (node_in (one_of args))
command_of (Some verb.Receive) args text = receive_of (three_of args)
command_of (Some verb.Take) args text = made Take (node_in (one_of args))
command_of (Some verb.Show) args text = made Show (node_in (one_of args))
command_of (Some verb.Routes) args text = alone_of look.Routes args
command_of (Some verb.Neighbours) args text = alone_of look.Neighbours args
command_of (Some verb.Told) args text = made (λ node. Look (look.Told node)) (node_in (one_of args))
command_of (Some verb.History) args text = made History (position_in (one_of args))

abbrev pub command_of_words : List (List ℕ) → List ℕ → Read
command_of_words [] text = Err fault.Words
command_of_words (first ∷ args) text = command_of (verb_in first) args text

-- the text of a filter in a line: what follows the second word, from its first byte that is no blank
abbrev pub text_in : List ℕ → List ℕ
text_in line = without_front_blanks (after_word (after_word line))

-- the command that a line gives
abbrev pub command_in : List ℕ → Read
command_in line = if nat_lt line_limit (length line) then Err fault.TooLong else command_of_words (words line) (text_in line)
