-- The kinds table: which kinds of operands each form takes, and which kind it gives. It is None where the form does not
-- take them. As in the BIRD 2.0 User's Guide on filters; what is left out is this project's own choice.
use Rattle.std.specs.Prelude.{Option, Some, None}
use Rattle.filter_syntax.specs.Syntax.{SetView, of_patterns, of_ranges}
use Rattle.filter_syntax.specs.declared.tree.decl.Kind.{Kind}
use Rattle.filter_syntax.specs.declared.tree.decl.Kind.TheVariants as kind
use Rattle.filter_syntax.specs.declared.tree.expr.Attribute.{Attribute}
use Rattle.filter_syntax.specs.declared.tree.expr.Attribute.TheVariants as attributes
use Rattle.filter_syntax.specs.declared.tree.op.Op.{Op}
use Rattle.filter_syntax.specs.declared.tree.op.Op.TheVariants as o
use Rattle.filter_syntax.specs.declared.tree.op.Suffix.{Suffix}
use Rattle.filter_syntax.specs.declared.tree.op.Suffix.TheVariants as suffix

-- `+ - * /`: two ints give an int
abbrev pub arithmetic : Kind → Kind → Option Kind
arithmetic kind.Int kind.Int = Some kind.Int
arithmetic _ _ = None

-- `= !=`: two of one kind give a bool
abbrev pub equality : Kind → Kind → Option Kind
equality kind.Int kind.Int = Some kind.Bool
equality kind.Bool kind.Bool = Some kind.Bool
equality kind.Ip kind.Ip = Some kind.Bool
equality kind.Prefix kind.Prefix = Some kind.Bool
equality _ _ = None

-- `< > <= >=`: two ints or two ips give a bool
abbrev pub order : Kind → Kind → Option Kind
order kind.Int kind.Int = Some kind.Bool
order kind.Ip kind.Ip = Some kind.Bool
order _ _ = None

-- `~ !~` between two operands: an ip or a prefix, and a prefix, give a bool
abbrev pub within : Kind → Kind → Option Kind
within kind.Ip kind.Prefix = Some kind.Bool
within kind.Prefix kind.Prefix = Some kind.Bool
within _ _ = None

-- `&& ||`: two bools give a bool
abbrev pub logic : Kind → Kind → Option Kind
logic kind.Bool kind.Bool = Some kind.Bool
logic _ _ = None

-- the rows of operators between two operands
pub data OperatorRow : Type 0 where
  Arithmetic : OperatorRow
  Equality : OperatorRow
  Order : OperatorRow
  Within : OperatorRow
  Logic : OperatorRow

-- the row of each operator
abbrev pub row_of : Op → OperatorRow
row_of o.Add = Arithmetic
row_of o.Sub = Arithmetic
row_of o.Mul = Arithmetic
row_of o.Div = Arithmetic
row_of o.Equal = Equality
row_of o.NotEqual = Equality
row_of o.Less = Order
row_of o.Greater = Order
row_of o.LessEqual = Order
row_of o.GreaterEqual = Order
row_of o.Match = Within
row_of o.NotMatch = Within
row_of o.And = Logic
row_of o.Or = Logic

-- the kinds of a row
abbrev pub row_kinds : OperatorRow → Kind → Kind → Option Kind
row_kinds Arithmetic = arithmetic
row_kinds Equality = equality
row_kinds Order = order
row_kinds Within = within
row_kinds Logic = logic

-- an operator between two operands
abbrev pub operator : Op → Kind → Kind → Option Kind
operator op = row_kinds (row_of op)

-- `!`: a bool gives a bool
abbrev pub negated : Kind → Option Kind
negated kind.Bool = Some kind.Bool
negated _ = None

-- the kind of a set's members
abbrev pub member_kind : SetView → Kind
member_kind (of_patterns patterns) = kind.Prefix
member_kind (of_ranges ranges) = kind.Int

-- `~ !~` with a set: one of the kind of its members gives a bool
abbrev pub in_set : SetView → Kind → Option Kind
in_set (of_patterns patterns) kind.Prefix = Some kind.Bool
in_set (of_ranges ranges) kind.Int = Some kind.Bool
in_set _ _ = None

-- `.ip` and `.len` of a prefix give an ip and an int, `.mask(n)` of an ip gives an ip
abbrev pub suffixed_by : Suffix → Kind → Option Kind
suffixed_by suffix.Ip kind.Prefix = Some kind.Ip
suffixed_by suffix.Len kind.Prefix = Some kind.Int
suffixed_by (suffix.Mask n) kind.Ip = Some kind.Ip
suffixed_by _ _ = None

-- `net` is a prefix and `rip_metric` an int
abbrev pub attribute_kind : Attribute → Kind
attribute_kind attributes.Net = kind.Prefix
attribute_kind attributes.RipMetric = kind.Int

-- what an `if` takes
abbrev pub condition_kind : Kind
condition_kind = kind.Bool

-- what a `case` takes
abbrev pub argument_kind : Kind
argument_kind = kind.Int
