-- How strongly operators bind, and what follows an operand up to the operators around it. It follows the parser; no crate above
-- `filter_parser` cites it.
use Rattle.std.specs.Prelude.{ℕ, zero, suc, ◌+◌, ◌-◌, ◌<◌, ◌≤◌, Option, Some, None}
use Rattle.filter_tokens.specs.declared.symbol.Symbol.{Symbol}
use Rattle.filter_tokens.specs.declared.symbol.Symbol.TheVariants as symbols
use Rattle.expression_parser.specs.declared.expr_level.Level.{Level}
use Rattle.expression_parser.specs.declared.expr_level.Level.TheVariants as l
use Rattle.filter_syntax.specs.declared.tree.op.Op.{Op}
use Rattle.filter_syntax.specs.declared.tree.op.Op.TheVariants as o
use Rattle.expression_parser.specs.Readers.{Reader, ◌>>=◌, with◌then◌else◌, done}
use Rattle.expression_parser.specs.Reading.{an_operator, chain_with, comparison_with, expr_with, join_from}
use Rattle.expression_parser.specs.Reading.{next_with, right_operand_with, sum_with, unmixed}
use Rattle.filter_syntax.specs.Syntax.{ExprView}

-- the operator that a symbol stands for
abbrev pub operator_of : Symbol → Option Op
operator_of symbols.Times = Some o.Mul
operator_of symbols.Divide = Some o.Div
operator_of symbols.Plus = Some o.Add
operator_of symbols.Minus = Some o.Sub
operator_of symbols.Equal = Some o.Equal
operator_of symbols.NotEqual = Some o.NotEqual
operator_of symbols.Less = Some o.Less
operator_of symbols.Greater = Some o.Greater
operator_of symbols.LessEqual = Some o.LessEqual
operator_of symbols.GreaterEqual = Some o.GreaterEqual
operator_of symbols.Match = Some o.Match
operator_of symbols.NotMatch = Some o.NotMatch
operator_of symbols.And = Some o.And
operator_of symbols.Or = Some o.Or
operator_of _ = None

-- the level of an operator
abbrev pub level_of_op : Op → Level
level_of_op o.Mul = l.Product
level_of_op o.Div = l.Product
level_of_op o.Add = l.Sum
level_of_op o.Sub = l.Sum
level_of_op o.Equal = l.Comparison
level_of_op o.NotEqual = l.Comparison
level_of_op o.Less = l.Comparison
level_of_op o.Greater = l.Comparison
level_of_op o.LessEqual = l.Comparison
level_of_op o.GreaterEqual = l.Comparison
level_of_op o.Match = l.Comparison
level_of_op o.NotMatch = l.Comparison
level_of_op o.And = l.And
level_of_op o.Or = l.Or

-- how strongly the operators of a level bind; `&&` and `||` do not mix, so neither binds more strongly
abbrev pub strength : Level → ℕ
strength l.Or = 1
strength l.And = 1
strength l.Comparison = 2
strength l.Sum = 3
strength l.Product = 4

-- a level of each strength
abbrev pub level_at : ℕ → Level
level_at zero = l.Or
level_at (suc zero) = l.Or
level_at (suc (suc zero)) = l.Comparison
level_at (suc (suc (suc zero))) = l.Sum
level_at (suc (suc (suc (suc n)))) = l.Product

-- what operators inside an operand exceed in strength: of an operand of operators of the level `outer`, or of a whole expression
abbrev pub least : Option Level → ℕ
least None = 0
least (Some outer) = strength outer

-- the greatest strength of operators that follow those of the level `inner` in the same operand, or the first part of it
abbrev pub most : Option Level → ℕ
most None = 4
most (Some l.Or) = 0
most (Some l.And) = 0
most (Some l.Comparison) = 1
most (Some l.Sum) = 2
most (Some l.Product) = 3

-- a level that binds more strongly than `outer` and less than `inner`
abbrev pub IsBetween : Option Level → Option Level → Level → Type 0
IsBetween outer inner level = (least outer < strength level) × (strength level ≤ most inner)

-- an operand of operators of the level `outer`, or a whole expression
abbrev pub operand_with : Reader ExprView → Option Level → Reader ExprView
operand_with unary None = expr_with unary
operand_with unary (Some outer) = next_with unary outer

-- a chain of `&&` or of `||`, after its first operand, where none of the other ones follows
abbrev pub join_with : Reader ExprView → ExprView → Reader ExprView
join_with unary first = do
  whole ← join_from (comparison_with unary) first
  unmixed whole

-- a comparison, after its left operand, or that alone
abbrev pub compared_with : Reader ExprView → ExprView → Reader ExprView
compared_with unary left = with an_operator l.Comparison then right_operand_with (sum_with unary) left else done left

-- the operators of a level, after their first operand
abbrev pub level_with : Reader ExprView → Level → ExprView → Reader ExprView
level_with unary l.Or first = join_with unary first
level_with unary l.And first = join_with unary first
level_with unary l.Comparison first = compared_with unary first
level_with unary l.Sum first = chain_with unary l.Sum first
level_with unary l.Product first = chain_with unary l.Product first

-- the operators of so many strengths above `least`, the greatest first, after their first operand
abbrev pub rest_down : Reader ExprView → ℕ → ℕ → ExprView → Reader ExprView
rest_down unary least zero first = done first
rest_down unary least (suc n) first = do
  whole ← level_with unary (level_at (least + suc n)) first
  rest_down unary least n whole

-- what follows the first part of an operand: the operators between `outer` and `inner`
abbrev pub rest_with : Reader ExprView → Option Level → Option Level → ExprView → Reader ExprView
rest_with unary outer inner first = rest_down unary (least outer) (most inner - least outer) first
