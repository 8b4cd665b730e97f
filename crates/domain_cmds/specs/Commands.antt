-- What command a line gives, or the first thing that is wrong with it. (This project's own choice.)
use Rattle.std.specs.Prelude.{ℕ, true, false, List, [], ◌∷◌, length, nat_lt, Option, Some, None, Result, Ok, Err, if◌then◌else◌, codes}
use Rattle.std.specs.Str.{bytes_eq}
use Rattle.line_protocol.specs.Limits.{line_limit}
use Rattle.line_protocol.specs.Words.{words}
use Rattle.prefix_patterns.specs.Reading.{number_in}
use Rattle.operator_cmds.specs.Commands.{code_in, load_in, made, node_in, node_prefix_in, text_in}
use Rattle.line_protocol.specs.Limits.{number_limit}
use Rattle.line_protocol.specs.Names.{is_name}
use Rattle.operator_cmds.specs.WordLists.{one_of, two_of, three_of}
use Rattle.operator_cmds.specs.declared.event.Direction.TheVariants as direction
use Rattle.operator_cmds.specs.declared.fault.CommandFault.{CommandFault}
use Rattle.operator_cmds.specs.declared.fault.CommandFault.TheVariants as fault
use Rattle.domain_cmds.specs.CommandView.{CommandView, Domain, Prefix, Load, Code, Link, Use, Anew, Mark, Json, Ask}
use Rattle.domain_cmds.specs.Sizes.{is_size}
use Rattle.domain_cmds.specs.Verbs.{verb_in}
use Rattle.domain_cmds.specs.declared.command.Question.TheVariants as question
use Rattle.domain_cmds.specs.declared.verb.DomainVerb.{DomainVerb}
use Rattle.domain_cmds.specs.declared.verb.DomainVerb.TheVariants as verb

-- a command, or what is wrong with its line
abbrev pub Read : Type 0
Read = Result CommandView CommandFault

abbrev pub domain_parts : Result ℕ CommandFault → Read
domain_parts (Err why) = Err why
domain_parts (Ok size) = if is_size size then Ok (Domain size) else Err fault.Numbers

-- `domain N`
abbrev pub domain_of : Option (List ℕ) → Read
domain_of word = domain_parts (node_in word)

-- the numbers of two nodes that two texts write
abbrev pub both_numbers : Option ℕ → Option ℕ → Result (ℕ × ℕ) CommandFault
both_numbers None w = Err fault.Numbers
both_numbers (Some u) None = Err fault.Numbers
both_numbers (Some u) (Some w) = Ok (u, w)

-- the numbers of two nodes, as the only two words
abbrev pub nodes_in : Option (List ℕ × List ℕ) → Result (ℕ × ℕ) CommandFault
nodes_in None = Err fault.Words
nodes_in (Some (u, w)) = both_numbers (number_in number_limit u) (number_in number_limit w)

abbrev pub named : List ℕ → Result (ℕ × ℕ) CommandFault → Result (ℕ × ℕ × List ℕ) CommandFault
named name (Err why) = Err why
named name (Ok nodes) = Ok (nodes.0, nodes.1, name)

-- the numbers of two nodes and the name of a filter, as the only three words: a bad name counts before a bad number
abbrev pub filter_in : Option (List ℕ × List ℕ × List ℕ) → Result (ℕ × ℕ × List ℕ) CommandFault
filter_in None = Err fault.Words
filter_in (Some (u, w, name)) =
    if is_name name then named name (both_numbers (number_in number_limit u) (number_in number_limit w)) else Err fault.Words

-- a command of one word
abbrev pub alone : CommandView → List (List ℕ) → Read
alone command [] = Ok command
alone command (word ∷ more) = Err fault.Words

-- the number of a node, as the only word, or with the word `changes` behind it: another word counts before a bad number
abbrev pub drawing_in : List (List ℕ) → Option (List ℕ × List ℕ) → Read
drawing_in args None = made (λ v. Ask (question.Draw v)) (node_in (one_of args))
drawing_in args (Some (node, option)) =
    if bytes_eq option (codes "changes") then made (λ v. Ask (question.DrawChanges v)) (node_in (Some node)) else Err fault.Words

-- all links, or with the word `nodes` alone all nodes
abbrev pub failures_in : List (List ℕ) → Option (List ℕ) → Read
failures_in args None = alone (Ask question.Failures) args
failures_in args (Some what) = if bytes_eq what (codes "nodes") then Ok (Ask question.NodeFailures) else Err fault.Words

-- a command by its verb and the words after it; `text` is what follows the second word of the line, without blanks at its front
abbrev pub command_of : Option DomainVerb → List (List ℕ) → List ℕ → Read
command_of None args text = Err fault.Words
command_of (Some verb.Domain) args text = domain_of (one_of args)
command_of (Some verb.Prefix) args text = made (λ p. Prefix p.0 p.1) (node_prefix_in (two_of args))
command_of (Some verb.Load) args text = made (λ p. Load p.0 p.1) (load_in args text)
command_of (Some verb.Code) args text = made (λ p. Code p.0 p.1) (code_in (two_of args))
command_of (Some verb.Link) args text = made (λ p. Link true p.0 p.1) (nodes_in (two_of args))
command_of (Some verb.Cut) args text = made (λ p. Link false p.0 p.1) (nodes_in (two_of args))
command_of (Some verb.Import) args text = made (λ p. Use direction.Import p.0 p.1 p.2) (filter_in (three_of args))
command_of (Some verb.Export) args text = made (λ p. Use direction.Export p.0 p.1 p.2) (filter_in (three_of args))
command_of (Some verb.Anew) args text = made (λ u. Anew u) (node_in (one_of args))
command_of (Some verb.Route) args text = made (λ p. Ask (question.Route p.0 p.1)) (nodes_in (two_of args))
command_of (Some verb.Path) args text = made (λ p. Ask (question.Path p.0 p.1)) (nodes_in (two_of args))
command_of (Some verb.Table) args text = made (λ u. Ask (question.Table u)) (node_in (one_of args))
command_of (Some verb.Draw) args text = drawing_in args (two_of args)
command_of (Some verb.Reach) args text = alone (Ask question.Reach) args
command_of (Some verb.Mark) args text = alone Mark args
command_of (Some verb.Changes) args text = alone (Ask question.Changes) args
command_of (Some verb.Failures) args text = failures_in args (one_of args)
command_of (Some verb.Settle) args text = alone (Ask question.Settle) args
command_of (Some verb.Json) args text = alone Json args

abbrev pub command_of_words : List (List ℕ) → List ℕ → Read
command_of_words [] text = Err fault.Words
command_of_words (first ∷ args) text = command_of (verb_in first) args text

-- the command that a line gives
abbrev pub command_in : List ℕ → Read
command_in line = if nat_lt line_limit (length line) then Err fault.TooLong else command_of_words (words line) (text_in line)
