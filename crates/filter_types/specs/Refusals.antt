-- What the kinds table says of operands that it does not take: which of them is blamed, and what is expected there. The left
-- operand is judged first; where each would do alone but the two differ, the right one is blamed. (This project's own choice.)
use Rattle.std.specs.Prelude.{ℕ, Bool, true, false, if◌then◌else◌, List, [], ◌∷◌}
use Rattle.filter_syntax.specs.Places.{expr_place, range_place}
use Rattle.filter_syntax.specs.Syntax.{SetView}
use Rattle.filter_syntax.specs.declared.tree.command.Label.{Label}
use Rattle.filter_syntax.specs.declared.tree.command.Label.TheVariants as label
use Rattle.filter_syntax.specs.declared.tree.decl.Kind.{Kind}
use Rattle.filter_syntax.specs.declared.tree.decl.Kind.TheVariants as kind
use Rattle.filter_syntax.specs.declared.tree.op.Op.{Op}
use Rattle.filter_syntax.specs.declared.tree.op.Suffix.{Suffix}
use Rattle.filter_syntax.specs.declared.tree.op.Suffix.TheVariants as suffix
use Rattle.filter_syntax.specs.declared.tree.set.SetRange.{SetRange}
use Rattle.filter_types.specs.Codes.{expected_of}
use Rattle.filter_types.specs.Table.{OperatorRow, row_of, member_kind}
use Rattle.filter_types.specs.Table.OperatorRow.{Arithmetic, Equality, Order, Within, Logic}
use Rattle.filter_types.specs.declared.fault.ExpectedKind.{ExpectedKind}
use Rattle.filter_types.specs.declared.fault.ExpectedKind.TheVariants as expected
use Rattle.filter_types.specs.declared.fault.TypeFault.{TypeFault}
use Rattle.filter_types.specs.declared.fault.TypeFault.TheVariants as fault
use Rattle.filter_types.specs.declared.table.Operand.{Operand}

-- an operand, as it is spoken of: where it begins, and its kind
pub record OperandView : Type 0 where
  pub at : ℕ
  pub kind : Kind

abbrev pub view_operand : Operand → OperandView
view_operand operand = record { at = expr_place operand.expr.now; kind = operand.kind }

-- the operand at its place has another kind than is expected
abbrev pub wrong_kind : OperandView → ExpectedKind → TypeFault
wrong_kind operand wanted = fault.WrongKind operand.at wanted operand.kind

-- the kinds that the left side of a form takes
abbrev pub is_int : Kind → Bool
is_int kind.Int = true
is_int _ = false

abbrev pub is_bool : Kind → Bool
is_bool kind.Bool = true
is_bool _ = false

abbrev pub is_ordered : Kind → Bool
is_ordered kind.Int = true
is_ordered kind.Ip = true
is_ordered _ = false

abbrev pub is_within : Kind → Bool
is_within kind.Ip = true
is_within kind.Prefix = true
is_within _ = false

-- `+ - * /`
abbrev pub arithmetic_refusal : OperandView → OperandView → TypeFault
arithmetic_refusal left right = if is_int left.kind then wrong_kind right expected.Int else wrong_kind left expected.Int

-- `= !=`
abbrev pub equality_refusal : OperandView → OperandView → TypeFault
equality_refusal left right = wrong_kind right (expected_of left.kind)

-- `< > <= >=`
abbrev pub order_refusal : OperandView → OperandView → TypeFault
order_refusal left right = if is_ordered left.kind then wrong_kind right (expected_of left.kind) else wrong_kind left expected.IntOrIp

-- `~ !~` between two operands
abbrev pub within_refusal : OperandView → OperandView → TypeFault
within_refusal left right = if is_within left.kind then wrong_kind right expected.Prefix else wrong_kind left expected.IpOrPrefix

-- `&& ||`
abbrev pub logic_refusal : OperandView → OperandView → TypeFault
logic_refusal left right = if is_bool left.kind then wrong_kind right expected.Bool else wrong_kind left expected.Bool

-- the refusal of a row
abbrev pub row_refusal : OperatorRow → OperandView → OperandView → TypeFault
row_refusal Arithmetic = arithmetic_refusal
row_refusal Equality = equality_refusal
row_refusal Order = order_refusal
row_refusal Within = within_refusal
row_refusal Logic = logic_refusal

-- an operator between two operands
abbrev pub operator_refusal : Op → OperandView → OperandView → TypeFault
operator_refusal op = row_refusal (row_of op)

-- `~ !~` with a set
abbrev pub member_refusal : SetView → OperandView → TypeFault
member_refusal set operand = wrong_kind operand (expected_of (member_kind set))

-- the place of a label, and 0 for one without ranges, which no filter has
abbrev pub first_place : List SetRange → ℕ
first_place [] = 0
first_place (x ∷ xs) = range_place x

abbrev pub label_place : Label → ℕ
label_place (label.Ranges ranges) = first_place ranges.items
label_place (label.Else at) = at

-- `.ip`, `.len` and `.mask(n)`
abbrev pub suffix_refusal : Suffix → OperandView → TypeFault
suffix_refusal suffix.Ip operand = wrong_kind operand expected.Prefix
suffix_refusal suffix.Len operand = wrong_kind operand expected.Prefix
suffix_refusal (suffix.Mask n) operand = wrong_kind operand expected.Ip
