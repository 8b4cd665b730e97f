-- The kinds of chains and of operands with suffixes, part by part from the left, as they are judged.
use Rattle.std.specs.Prelude.{◌≡◌, ◌⊎◌, ℕ, Option, Some, None, List, [], ◌∷◌, Contains, slice_get, take}
use Rattle.filter_syntax.specs.Places.{expr_place}
use Rattle.filter_syntax.specs.Syntax.{ExprView, view, view_more}
use Rattle.filter_syntax.specs.SyntaxCommands.{DeclView}
use Rattle.filter_syntax.specs.declared.tree.decl.Kind.{Kind}
use Rattle.filter_syntax.specs.declared.tree.expr.Expr.{Expr}
use Rattle.filter_syntax.specs.declared.tree.op.Op.{Op}
use Rattle.filter_syntax.specs.declared.tree.op.Suffix.{Suffix}
use Rattle.filter_types.specs.Faults.{HasFault, IsRefusedOperator}
use Rattle.filter_types.specs.Kinds.{kind_in, of_one}
use Rattle.filter_types.specs.Refusals.{OperandView, operator_refusal, suffix_refusal}
use Rattle.filter_types.specs.Table.{operator, suffixed_by}
use Rattle.filter_types.specs.declared.fault.TypeFault.{TypeFault}

-- the kind of an operand of this kind with operators after it, each with the operand at its right
abbrev pub kind_with : List DeclView → Kind → List (ℕ × Op × ExprView) → Option Kind
kind_with variables kind [] = Some kind
kind_with variables kind (x ∷ xs) =
    of_one (λ k. kind_with variables k xs) (of_one (operator x.1 kind) (kind_in variables x.2))

-- the kind of an operand of this kind with suffixes
abbrev pub kind_after : Kind → List Suffix → Option Kind
kind_after kind [] = Some kind
kind_after kind (x ∷ xs) = of_one (λ k. kind_after k xs) (suffixed_by x kind)

-- an operator does not take a first operand with the operators before it, and the operand at its right
pub record OperatorRefuses (variables : List DeclView) (first : OperandView) (more : List (ℕ × Op × Expr)) (why : TypeFault) : Type 0 where
  pub index : ℕ
  pub next : ℕ × Op × Expr
  pub is : slice_get more index ≡ Some next
  pub left : Kind
  pub before : kind_with variables first.kind (view_more (take index more)) ≡ Some left
  pub right : Kind
  pub found : kind_in variables (view next.2) ≡ Some right
  pub refused : operator next.1 left right ≡ None
  pub is_said : why ≡ operator_refusal next.1 (record { at = first.at; kind = left }) (record { at = expr_place next.2; kind = right })

-- two operands with the operator between them have this fault, of an operand or of the operator
abbrev pub BinaryHasFault : List DeclView → Expr × ℕ × Op × Expr → TypeFault → Type 0
BinaryHasFault variables parts why =
    HasFault variables parts.0 why ⊎ HasFault variables parts.3 why
    ⊎ IsRefusedOperator variables parts.0 ((parts.1, parts.2, parts.3) ∷ []) why

-- what follows a first operand has this fault
abbrev pub ChainHasFault : List DeclView → OperandView → List (ℕ × Op × Expr) → TypeFault → Type 0
ChainHasFault variables first more why =
    ((next : ℕ × Op × Expr) × Contains more next × HasFault variables next.2 why) ⊎ OperatorRefuses variables first more why

-- a suffix does not take an operand with the suffixes before it
pub record SuffixRefuses (operand : OperandView) (suffixes : List Suffix) (why : TypeFault) : Type 0 where
  pub index : ℕ
  pub suffix : Suffix
  pub is : slice_get suffixes index ≡ Some suffix
  pub left : Kind
  pub before : kind_after operand.kind (take index suffixes) ≡ Some left
  pub refused : suffixed_by suffix left ≡ None
  pub is_said : why ≡ suffix_refusal suffix (record { at = operand.at; kind = left })
