-- The translation of filters: the code of each form. (This project's own choice.)
use Rattle.std.specs.Prelude.{ℕ, ◌+◌, Bool, true, false, List, [], ◌∷◌, ◌++◌, length, map}
use Rattle.filter_code.specs.declared.instruction.Instr.{Instr}
use Rattle.filter_code.specs.declared.instruction.Instr.TheVariants as instr
use Rattle.filter_syntax.specs.declared.tree.decl.Kind.{Kind}
use Rattle.filter_syntax.specs.declared.tree.decl.Kind.TheVariants as kind
use Rattle.filter_syntax.specs.declared.tree.expr.Attribute.{Attribute}
use Rattle.filter_syntax.specs.declared.tree.expr.Attribute.TheVariants as attributes
use Rattle.filter_syntax.specs.declared.tree.op.Membership.{Membership}
use Rattle.filter_syntax.specs.declared.tree.op.Membership.TheVariants as membership
use Rattle.filter_syntax.specs.declared.tree.op.Op.{Op}
use Rattle.filter_syntax.specs.declared.tree.op.Op.TheVariants as o
use Rattle.filter_syntax.specs.declared.tree.op.Suffix.{Suffix}
use Rattle.filter_syntax.specs.declared.tree.op.Suffix.TheVariants as suffix
use Rattle.filter_syntax.specs.Syntax.{ExprView, number, address, prefix, truth, name, attribute, defined, group, negation, binary, member}
use Rattle.filter_syntax.specs.Syntax.{suffixed, SetView, of_patterns, of_ranges, RangeView, pattern_of, range_of}
use Rattle.filter_syntax.specs.SyntaxCommands.{CommandView, empty, block, if_then, if_else, case, assign}
use Rattle.filter_syntax.specs.SyntaxCommands.{accept, reject, CommandsView, no_commands, command_then}
use Rattle.filter_syntax.specs.SyntaxCommands.{LabelView, ranges_label, else_label, PartsView, no_parts, part_then}
use Rattle.filter_syntax.specs.SyntaxCommands.{TargetView, to_name, to_metric, to_net, DeclView}
use Rattle.filter_syntax.specs.SyntaxText as syntax
use Rattle.filter_code.specs.CodeView as code
use Rattle.filter_types.specs.Kinds.{number_of}
use Rattle.filter_compiler.specs.SetOrder.{Sets, SetCounts, no_sets, none_before, past, with_sets}

-- a set of ranges alone, as the label of a part of `case` is one
abbrev pub ranges_set : List RangeView → Sets
ranges_set ranges = record { patterns = []; ints = map range_of ranges ∷ [] }

-- a set alone
abbrev pub one_set : SetView → Sets
one_set (of_patterns patterns) = record { patterns = map pattern_of patterns ∷ []; ints = [] }
one_set (of_ranges ranges) = ranges_set ranges

-- the sets of an expression, in the order of the text
abbrev pub sets_of : ExprView → Sets
sets_of (number n) = no_sets
sets_of (address a) = no_sets
sets_of (prefix bits) = no_sets
sets_of (truth b) = no_sets
sets_of (name text) = no_sets
sets_of (attribute a) = no_sets
sets_of (defined a) = no_sets
sets_of (group inner) = sets_of inner
sets_of (negation inner) = sets_of inner
sets_of (binary op left right) = with_sets (sets_of left) (sets_of right)
sets_of (member op left set) = with_sets (sets_of left) (one_set set)
sets_of (suffixed inner s) = sets_of inner

-- the instructions of an operator that takes both operands, after them
abbrev pub operator_code : Op → List Instr
operator_code o.Add = instr.Add ∷ []
operator_code o.Sub = instr.Sub ∷ []
operator_code o.Mul = instr.Mul ∷ []
operator_code o.Div = instr.Div ∷ []
operator_code o.Equal = instr.Eq ∷ []
operator_code o.NotEqual = instr.Eq ∷ instr.Not ∷ []
operator_code o.Less = instr.Lt ∷ []
operator_code o.Greater = instr.Le ∷ instr.Not ∷ []
operator_code o.LessEqual = instr.Le ∷ []
operator_code o.GreaterEqual = instr.Lt ∷ instr.Not ∷ []
operator_code o.Match = instr.Within ∷ []
operator_code o.NotMatch = instr.Within ∷ instr.Not ∷ []
operator_code o.And = []
operator_code o.Or = []

-- a right side that is run where the left one is true, and otherwise false
abbrev pub and_code : List Instr → List Instr → List Instr
and_code left right =
    left ++ instr.JumpIfNot (length right + 1) ∷ (right ++ instr.Jump 1 ∷ instr.Bool false ∷ [])

-- true where the left side is true, and otherwise the right side, which is run
abbrev pub or_code : List Instr → List Instr → List Instr
or_code left right = left ++ instr.JumpIfNot 2 ∷ instr.Bool true ∷ instr.Jump (length right) ∷ right

-- an operator and its operands
abbrev pub joined_code : Op → List Instr → List Instr → List Instr
joined_code o.And left right = and_code left right
joined_code o.Or left right = or_code left right
joined_code op left right = left ++ (right ++ operator_code op)

-- the question whether an operand is in a set: the next set of its kind has this number
abbrev pub question : SetView → SetCounts → Instr
question (of_patterns patterns) sets = instr.Member sets.patterns
question (of_ranges ranges) sets = instr.InSet sets.ints

-- a question, and its opposite
abbrev pub member_code : Membership → Instr → List Instr
member_code membership.In asked = asked ∷ []
member_code membership.NotIn asked = asked ∷ instr.Not ∷ []

abbrev pub suffix_code : Suffix → Instr
suffix_code suffix.Ip = instr.Addr
suffix_code suffix.Len = instr.Len
suffix_code (suffix.Mask n) = instr.Mask n

abbrev pub attribute_code : Attribute → Instr
attribute_code attributes.Net = instr.Net
attribute_code attributes.RipMetric = instr.Metric

-- the code of an expression among these declarations, where so many sets come before it in the text
abbrev pub expression_code : List DeclView → SetCounts → ExprView → List Instr
expression_code decls sets (number n) = instr.Int n ∷ []
expression_code decls sets (address a) = instr.Ip (record { 0 = a }) ∷ []
expression_code decls sets (prefix bits) = instr.Prefix bits ∷ []
expression_code decls sets (truth b) = instr.Bool b ∷ []
expression_code decls sets (name text) = instr.Load (number_of decls text) ∷ []
expression_code decls sets (attribute a) = attribute_code a ∷ []
expression_code decls sets (defined a) = instr.Bool true ∷ []
expression_code decls sets (group inner) = expression_code decls sets inner
expression_code decls sets (negation inner) = expression_code decls sets inner ++ instr.Not ∷ []
expression_code decls sets (binary op left right) =
    joined_code op (expression_code decls sets left) (expression_code decls (past sets (sets_of left)) right)
expression_code decls sets (member op left set) =
    expression_code decls sets left ++ member_code op (question set (past sets (sets_of left)))
expression_code decls sets (suffixed inner s) = expression_code decls sets inner ++ suffix_code s ∷ []

-- whether a part of a `case` has a label of ranges
abbrev pub has_labelled : PartsView → Bool
has_labelled no_parts = false
has_labelled (part_then (ranges_label ranges) _ more) = true
has_labelled (part_then else_label _ more) = has_labelled more

-- a `case` in which no part has one is compiled as if a part with no ranges and no commands stood first
abbrev pub opening_sets : Bool → Sets
opening_sets true = no_sets
opening_sets false = ranges_set []

-- the set of a label
abbrev pub label_sets : LabelView → Sets
label_sets (ranges_label ranges) = ranges_set ranges
label_sets else_label = no_sets

-- the sets of a command, of commands one after another, and of the parts of a `case`
abbrev mutual
  pub command_sets : CommandView → Sets
  command_sets empty = no_sets
  command_sets (block body) = commands_sets body
  command_sets (if_then test chosen) = with_sets (sets_of test) (command_sets chosen)
  command_sets (if_else test chosen other) = with_sets (sets_of test) (with_sets (command_sets chosen) (command_sets other))
  command_sets (case argument parts) = with_sets (sets_of argument) (with_sets (opening_sets (has_labelled parts)) (parts_sets parts))
  command_sets (assign target value) = sets_of value
  command_sets (accept has_text) = no_sets
  command_sets (reject has_text) = no_sets

  pub commands_sets : CommandsView → Sets
  commands_sets no_commands = no_sets
  commands_sets (command_then first more) = with_sets (command_sets first) (commands_sets more)

  pub parts_sets : PartsView → Sets
  parts_sets no_parts = no_sets
  parts_sets (part_then label commands more) = with_sets (label_sets label) (with_sets (commands_sets commands) (parts_sets more))

-- a command that is passed over where the test is false
abbrev pub if_code : List Instr → List Instr → List Instr
if_code test chosen = test ++ instr.JumpIfNot (length chosen) ∷ chosen

-- one of two commands
abbrev pub if_else_code : List Instr → List Instr → List Instr → List Instr
if_else_code test chosen other =
    test ++ instr.JumpIfNot (length chosen + 1) ∷ (chosen ++ instr.Jump (length other) ∷ other)

-- the commands of a part, where these instructions ask whether the argument is in its label, and what is run where it is not
abbrev pub part_code : List Instr → ℕ → List Instr → List Instr → List Instr
part_code argument set commands rest = if_else_code (argument ++ instr.InSet set ∷ []) commands rest

-- the part with no ranges and no commands that a `case` without a labelled part begins with
abbrev pub opening_code : Bool → List Instr → ℕ → List Instr → List Instr
opening_code true argument set rest = rest
opening_code false argument set rest = part_code argument set [] rest

-- what sets the metric: to the value on the stack, or to the metric received where this is greater
abbrev pub metric_code : List Instr
metric_code = instr.Received ∷ instr.Max ∷ instr.SetMetric ∷ []

-- what sets a variable, and the metric. `net` is never assigned
abbrev pub target_code : List DeclView → TargetView → List Instr
target_code decls (to_name text) = instr.Store (number_of decls text) ∷ []
target_code decls to_metric = metric_code
target_code decls to_net = []

-- the code of a command, of commands one after another, and of the parts of a `case`: its labelled parts in order, and then the `else` part
abbrev mutual
  pub command_code : List DeclView → SetCounts → CommandView → List Instr
  command_code decls sets empty = []
  command_code decls sets (block body) = commands_code decls sets body
  command_code decls sets (if_then test chosen) =
      if_code (expression_code decls sets test) (command_code decls (past sets (sets_of test)) chosen)
  command_code decls sets (if_else test chosen other) =
      if_else_code (expression_code decls sets test)
      (command_code decls (past sets (sets_of test)) chosen)
      (command_code decls (past (past sets (sets_of test)) (command_sets chosen)) other)
  command_code decls sets (case argument parts) =
      let first = past sets (sets_of argument) in
      opening_code (has_labelled parts) (expression_code decls sets argument) first.ints
      (parts_code decls (expression_code decls sets argument) [] (past first (opening_sets (has_labelled parts))) parts)
  command_code decls sets (assign target value) = expression_code decls sets value ++ target_code decls target
  command_code decls sets (accept has_text) = instr.Accept ∷ []
  command_code decls sets (reject has_text) = instr.Reject ∷ []

  pub commands_code : List DeclView → SetCounts → CommandsView → List Instr
  commands_code decls sets no_commands = []
  commands_code decls sets (command_then first more) =
      command_code decls sets first ++ commands_code decls (past sets (command_sets first)) more

  pub parts_code : List DeclView → List Instr → List Instr → SetCounts → PartsView → List Instr
  parts_code decls argument other sets no_parts = other
  parts_code decls argument other sets (part_then (ranges_label ranges) commands more) =
      part_code argument sets.ints
      (commands_code decls (past sets (ranges_set ranges)) commands)
      (parts_code decls argument other (past (past sets (ranges_set ranges)) (commands_sets commands)) more)
  parts_code decls argument other sets (part_then else_label commands more) =
      parts_code decls argument (commands_code decls sets commands) (past sets (commands_sets commands)) more

-- what puts a variable's first value on the stack
abbrev pub first_value : Kind → Instr
first_value kind.Int = instr.Int 0
first_value kind.Bool = instr.Bool false
first_value kind.Ip = instr.Ip (record { 0 = 0 })
first_value kind.Prefix = instr.Prefix []

-- the declarations, where so many come before them
abbrev pub declarations_code : ℕ → List DeclView → List Instr
declarations_code before [] = []
declarations_code before (d ∷ rest) = first_value d.kind ∷ instr.Store before ∷ declarations_code (before + 1) rest

-- the instructions of a filter: its declarations, its commands, and a REJECT at the end
abbrev pub instructions : syntax.FilterView → List Instr
instructions filter =
    declarations_code 0 filter.decls ++ (commands_code filter.decls none_before filter.body ++ instr.Reject ∷ [])

-- the code of a filter
abbrev pub code_of : syntax.FilterView → code.CodeView
code_of filter = record {
  locals = length filter.decls;
  sets = (commands_sets filter.body).patterns;
  int_sets = (commands_sets filter.body).ints;
  instrs = instructions filter;
}
