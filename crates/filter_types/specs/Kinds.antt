-- Where a filter's names and kinds fit: a variable is declared once and before it is used, there are not more of them than the
-- limit, `net` is not assigned, each form has operands of the kinds that the table says, and no two labels of a `case` share a
-- number. As in the BIRD 2.0 User's Guide on filters; the limit, that `net` is not assigned and what is said of labels are this
-- project's own choice.
use Rattle.std.specs.Prelude.{◌≡◌, ◌≢◌, ℕ, ◌≤◌, Option, Some, None, List, length, AllPairs}
use Rattle.std.specs.List.{position_or_len, find}
use Rattle.std.specs.Option.{option_map}
use Rattle.std.specs.Str.{bytes_eq}
use Rattle.filter_syntax.specs.Syntax.{ExprView, number, address, prefix, truth, name, attribute, defined}
use Rattle.filter_syntax.specs.Syntax.{group, negation, binary, member, suffixed}
use Rattle.filter_syntax.specs.Surroundings.{variable_limit}
use Rattle.filter_syntax.specs.SyntaxCommands.{CommandView, CommandsView, PartsView, TargetView, DeclView, to_name, to_metric, to_net}
use Rattle.filter_syntax.specs.SyntaxCommands.{empty, block, if_then, if_else, case, assign, accept, reject, no_commands, command_then}
use Rattle.filter_syntax.specs.SyntaxCommands.{no_parts, part_then}
use Rattle.filter_syntax.specs.SyntaxText.{FilterView}
use Rattle.filter_syntax.specs.declared.tree.decl.Kind.{Kind}
use Rattle.filter_syntax.specs.declared.tree.decl.Kind.TheVariants as kind
use Rattle.filter_syntax.specs.declared.tree.expr.Attribute.TheVariants as attributes
use Rattle.filter_types.specs.Labels.{AreAllApart, labels_of}
use Rattle.filter_types.specs.Table.{operator, negated, in_set, suffixed_by, attribute_kind, condition_kind, argument_kind}

-- the number of a variable: variables are numbered from 0 in the order of declaration, and a name that none has gets their count
abbrev pub number_of : List DeclView → List ℕ → ℕ
number_of variables text = position_or_len (λ d. bytes_eq d.name text) variables

-- the kind of the variable of a name, if there is one
abbrev pub kind_named : List DeclView → List ℕ → Option Kind
kind_named variables text = option_map (λ d. d.kind) (find (λ d. bytes_eq d.name text) variables)

-- a form of one operand, and a form of two, where each operand has a kind
abbrev pub of_one : (Kind → Option Kind) → Option Kind → Option Kind
of_one row None = None
of_one row (Some a) = row a

abbrev pub of_two : (Kind → Kind → Option Kind) → Option Kind → Option Kind → Option Kind
of_two row None b = None
of_two row (Some a) b = of_one (row a) b

-- the kind of an expression under these variables; None where its names or kinds do not fit
abbrev pub kind_in : List DeclView → ExprView → Option Kind
kind_in variables (number n) = Some kind.Int
kind_in variables (address a) = Some kind.Ip
kind_in variables (prefix bits) = Some kind.Prefix
kind_in variables (truth b) = Some kind.Bool
kind_in variables (name text) = kind_named variables text
kind_in variables (attribute a) = Some (attribute_kind a)
kind_in variables (defined a) = Some kind.Bool
kind_in variables (group inner) = kind_in variables inner
kind_in variables (negation inner) = of_one negated (kind_in variables inner)
kind_in variables (binary op left right) = of_two (operator op) (kind_in variables left) (kind_in variables right)
kind_in variables (member op left set) = of_one (in_set set) (kind_in variables left)
kind_in variables (suffixed inner s) = of_one (suffixed_by s) (kind_in variables inner)

-- the kind of what an assignment sets; `net` is not assigned
abbrev pub target_kind : List DeclView → TargetView → Option Kind
target_kind variables (to_name text) = kind_named variables text
target_kind variables to_metric = Some (attribute_kind attributes.RipMetric)
target_kind variables to_net = None

-- an assignment gives what it sets a value of the same kind
abbrev pub HasSameKind : Option Kind → Option Kind → Type 0
HasSameKind target value = (k : Kind) × (target ≡ Some k) × (value ≡ Some k)

-- the names and kinds of a command fit, and those of commands one after another and of the parts of a `case`
abbrev mutual
  pub KindsFit : List DeclView → CommandView → Type 0
  KindsFit variables empty = Unit {0}
  KindsFit variables (block body) = KindsFitAll variables body
  KindsFit variables (if_then test chosen) = (kind_in variables test ≡ Some condition_kind) × KindsFit variables chosen
  KindsFit variables (if_else test chosen other) =
      (kind_in variables test ≡ Some condition_kind) × KindsFit variables chosen × KindsFit variables other
  KindsFit variables (case argument parts) =
      (kind_in variables argument ≡ Some argument_kind) × AreAllApart (labels_of parts) × KindsFitParts variables parts
  KindsFit variables (assign target value) = HasSameKind (target_kind variables target) (kind_in variables value)
  KindsFit variables (accept has_text) = Unit {0}
  KindsFit variables (reject has_text) = Unit {0}

  pub KindsFitAll : List DeclView → CommandsView → Type 0
  KindsFitAll variables no_commands = Unit {0}
  KindsFitAll variables (command_then first more) = KindsFit variables first × KindsFitAll variables more

  pub KindsFitParts : List DeclView → PartsView → Type 0
  KindsFitParts variables no_parts = Unit {0}
  KindsFitParts variables (part_then label commands more) = KindsFitAll variables commands × KindsFitParts variables more

-- no two variables have one name
abbrev pub AreDeclaredOnce : List DeclView → Type 0
AreDeclaredOnce variables = AllPairs (λ c d. c.name ≢ d.name) variables

-- each variable is declared once, and there are at most this many
pub record AreDeclared (variables : List DeclView) : Type 0 where
  pub once : AreDeclaredOnce variables
  pub few : length variables ≤ variable_limit

-- A filter's names and kinds fit. Each variable is declared before it is used, since all declarations come before the
-- first command.
pub record IsTyped (filter : FilterView) : Type 0 where
  pub declared : AreDeclared filter.decls
  pub body : KindsFitAll filter.decls filter.body
