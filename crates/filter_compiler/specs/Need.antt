-- How many operands a filter needs at one time. (This project's own choice.)
use Rattle.std.specs.Prelude.{ℕ, ◌+◌, max, List, [], ◌∷◌}
use Rattle.filter_syntax.specs.declared.tree.op.Op.{Op}
use Rattle.filter_syntax.specs.declared.tree.op.Op.TheVariants as o
use Rattle.filter_syntax.specs.Syntax.{ExprView, number, address, prefix, truth, name, attribute, defined, group, negation, binary, member}
use Rattle.filter_syntax.specs.Syntax.{suffixed}
use Rattle.filter_syntax.specs.SyntaxCommands.{CommandView, empty, block, if_then, if_else, case, assign}
use Rattle.filter_syntax.specs.SyntaxCommands.{accept, reject, CommandsView, no_commands, command_then}
use Rattle.filter_syntax.specs.SyntaxCommands.{TargetView, to_metric, DeclView, PartsView, no_parts, part_then}
use Rattle.filter_syntax.specs.SyntaxText as syntax

-- the left operand waits while the right one is worked out; of `&&` and `||` it does not
abbrev pub joined_need : Op → ℕ → ℕ → ℕ
joined_need o.And left right = max left right
joined_need o.Or left right = max left right
joined_need op left right = max left (right + 1)

-- the operands that an expression needs
abbrev pub expression_need : ExprView → ℕ
expression_need (number n) = 1
expression_need (address a) = 1
expression_need (prefix bits) = 1
expression_need (truth b) = 1
expression_need (name text) = 1
expression_need (attribute a) = 1
expression_need (defined a) = 1
expression_need (group inner) = expression_need inner
expression_need (negation inner) = expression_need inner
expression_need (binary op left right) = joined_need op (expression_need left) (expression_need right)
expression_need (member op left set) = expression_need left
expression_need (suffixed inner s) = expression_need inner

-- the metric received is on the stack beside the value that is set
abbrev pub target_need : TargetView → ℕ → ℕ
target_need to_metric value = max value 2
target_need _ value = value

-- the greatest need in a command, in commands one after another, and in the parts of a `case`
abbrev mutual
  pub command_need : CommandView → ℕ
  command_need empty = 0
  command_need (block body) = commands_need body
  command_need (if_then test chosen) = max (expression_need test) (command_need chosen)
  command_need (if_else test chosen other) = max (expression_need test) (max (command_need chosen) (command_need other))
  command_need (case argument parts) = max (expression_need argument) (parts_need parts)
  command_need (assign target value) = target_need target (expression_need value)
  command_need (accept has_text) = 0
  command_need (reject has_text) = 0

  pub commands_need : CommandsView → ℕ
  commands_need no_commands = 0
  commands_need (command_then first more) = max (command_need first) (commands_need more)

  pub parts_need : PartsView → ℕ
  parts_need no_parts = 0
  parts_need (part_then label commands more) = max (commands_need commands) (parts_need more)

-- a declaration needs one operand
abbrev pub declarations_need : List DeclView → ℕ
declarations_need [] = 0
declarations_need (d ∷ rest) = 1

-- the operands that a filter needs
abbrev pub need : syntax.FilterView → ℕ
need filter = max (declarations_need filter.decls) (commands_need filter.body)
