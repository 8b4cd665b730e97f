-- Operators, their operators and their levels.
use Rattle.std.proofs.Common.{◌≡◌, ◌≢◌, refl, subst, ℕ, ◌≤◌, Some, ◌⊎◌, inl, inr, arith}
use Rattle.std.proofs.Math.Nat.{eq-or-lt_of_le}
use Rattle.filter_tokens.specs.declared.symbol.Symbol.{Symbol}
use Rattle.filter_tokens.specs.declared.symbol.Symbol.TheVariants as symbols
use Rattle.expression_parser.specs.declared.expr_level.Level.{Level}
use Rattle.expression_parser.specs.declared.expr_level.Level.TheVariants as l
use Rattle.filter_syntax.specs.declared.tree.op.Op.{Op}
use Rattle.filter_syntax.specs.declared.tree.op.Op.TheVariants as o
use Rattle.expression_parser.specs.Reading.{op_of}
use Rattle.filter_syntax.specs.Syntax.{FitsSides, rank_of, op_symbol}
use Rattle.expression_parser.proofs.Steps.{some_is}

-- how loosely a level's operators bind
abbrev pub top : Level → ℕ
top l.Product = 2
top l.Sum = 3
top l.Comparison = 4
top l.And = 5
top l.Or = 6

-- how loosely the operand at the right of such an operator may bind
abbrev pub side : Level → ℕ
side l.Product = 1
side l.Sum = 2
side l.Comparison = 3
side l.And = 4
side l.Or = 4

-- what may be at its left
abbrev pub FitsLeft : Level → ℕ → Type 0
FitsLeft l.Product a = a ≤ 2
FitsLeft l.Sum a = a ≤ 3
FitsLeft l.Comparison a = a ≤ 3
FitsLeft l.And a = a ≤ 5
FitsLeft l.Or a = (a ≤ 6) × (a ≢ 5)

-- an operator of a level
pub record IsOp (level : Level) (symbol : Symbol) (op : Op) : Type 0 where
  pub spelled : symbol ≡ op_symbol op
  pub binds : rank_of op ≡ top level
  pub sides : (a b : ℕ) → FitsLeft level a → b ≤ side level → FitsSides op a b

at_op : (level : Level) (symbol : Symbol) (p q : Op) → Some p ≡ Some q → IsOp level symbol p → IsOp level symbol q
at_op level symbol p q e h = let P : Op → Type 0 = IsOp level symbol in subst P (some_is e) h

found_product : (symbol : Symbol) (op : Op) → op_of l.Product symbol ≡ Some op → IsOp l.Product symbol op
found_product symbols.Times op e = at_op l.Product symbols.Times o.Mul op e (record { spelled = refl; binds = refl; sides = λ a b h k. (h, k) })
found_product symbols.Divide op e = at_op l.Product symbols.Divide o.Div op e (record { spelled = refl; binds = refl; sides = λ a b h k. (h, k) })
found_product _ op e = absurd (cc)

found_sum : (symbol : Symbol) (op : Op) → op_of l.Sum symbol ≡ Some op → IsOp l.Sum symbol op
found_sum symbols.Plus op e = at_op l.Sum symbols.Plus o.Add op e (record { spelled = refl; binds = refl; sides = λ a b h k. (h, k) })
found_sum symbols.Minus op e = at_op l.Sum symbols.Minus o.Sub op e (record { spelled = refl; binds = refl; sides = λ a b h k. (h, k) })
found_sum _ op e = absurd (cc)

found_comparison : (symbol : Symbol) (op : Op) → op_of l.Comparison symbol ≡ Some op → IsOp l.Comparison symbol op
found_comparison symbols.Equal op e = at_op l.Comparison symbols.Equal o.Equal op e (record { spelled = refl; binds = refl; sides = λ a b h k. (h, k) })
found_comparison symbols.NotEqual op e = at_op l.Comparison symbols.NotEqual o.NotEqual op e
    (record { spelled = refl; binds = refl; sides = λ a b h k. (h, k) })
found_comparison symbols.Less op e = at_op l.Comparison symbols.Less o.Less op e (record { spelled = refl; binds = refl; sides = λ a b h k. (h, k) })
found_comparison symbols.Greater op e = at_op l.Comparison symbols.Greater o.Greater op e
    (record { spelled = refl; binds = refl; sides = λ a b h k. (h, k) })
found_comparison symbols.LessEqual op e = at_op l.Comparison symbols.LessEqual o.LessEqual op e
    (record { spelled = refl; binds = refl; sides = λ a b h k. (h, k) })
found_comparison symbols.GreaterEqual op e = at_op l.Comparison symbols.GreaterEqual o.GreaterEqual op e
    (record { spelled = refl; binds = refl; sides = λ a b h k. (h, k) })
found_comparison symbols.Match op e = at_op l.Comparison symbols.Match o.Match op e (record { spelled = refl; binds = refl; sides = λ a b h k. (h, k) })
found_comparison symbols.NotMatch op e = at_op l.Comparison symbols.NotMatch o.NotMatch op e
    (record { spelled = refl; binds = refl; sides = λ a b h k. (h, k) })
found_comparison _ op e = absurd (cc)

found_and : (symbol : Symbol) (op : Op) → op_of l.And symbol ≡ Some op → IsOp l.And symbol op
found_and symbols.And op e = at_op l.And symbols.And o.And op e (record { spelled = refl; binds = refl; sides = λ a b h k. (h, k) })
found_and _ op e = absurd (cc)

found_or : (symbol : Symbol) (op : Op) → op_of l.Or symbol ≡ Some op → IsOp l.Or symbol op
found_or symbols.Or op e = at_op l.Or symbols.Or o.Or op e (record { spelled = refl; binds = refl; sides = λ a b h k. (h.0, h.1, k) })
found_or _ op e = absurd (cc)

-- what a operator of a level says
pub op_found : (level : Level) (symbol : Symbol) (op : Op) → op_of level symbol ≡ Some op → IsOp level symbol op
op_found l.Product symbol op e = found_product symbol op e
op_found l.Sum symbol op e = found_sum symbol op e
op_found l.Comparison symbol op e = found_comparison symbol op e
op_found l.And symbol op e = found_and symbol op e
op_found l.Or symbol op e = found_or symbol op e

-- an operator of a level is read by its operator, and has operands of that level
pub record IsRead (level : Level) (op : Op) : Type 0 where
  pub reads : op_of level (op_symbol op) ≡ Some op
  pub left : (a b : ℕ) → FitsSides op a b → FitsLeft level a
  pub right : (a b : ℕ) → FitsSides op a b → b ≤ side level

read_product : (op : Op) → rank_of op ≡ 2 → IsRead l.Product op
read_product o.Mul e = record { reads = refl; left = λ a b h. h.0; right = λ a b h. h.1 }
read_product o.Div e = record { reads = refl; left = λ a b h. h.0; right = λ a b h. h.1 }
read_product _ e = absurd (omega arith)

read_sum : (op : Op) → rank_of op ≡ 3 → IsRead l.Sum op
read_sum o.Add e = record { reads = refl; left = λ a b h. h.0; right = λ a b h. h.1 }
read_sum o.Sub e = record { reads = refl; left = λ a b h. h.0; right = λ a b h. h.1 }
read_sum _ e = absurd (omega arith)

read_comparison : (op : Op) → rank_of op ≡ 4 → IsRead l.Comparison op
read_comparison o.Equal e = record { reads = refl; left = λ a b h. h.0; right = λ a b h. h.1 }
read_comparison o.NotEqual e = record { reads = refl; left = λ a b h. h.0; right = λ a b h. h.1 }
read_comparison o.Less e = record { reads = refl; left = λ a b h. h.0; right = λ a b h. h.1 }
read_comparison o.Greater e = record { reads = refl; left = λ a b h. h.0; right = λ a b h. h.1 }
read_comparison o.LessEqual e = record { reads = refl; left = λ a b h. h.0; right = λ a b h. h.1 }
read_comparison o.GreaterEqual e = record { reads = refl; left = λ a b h. h.0; right = λ a b h. h.1 }
read_comparison o.Match e = record { reads = refl; left = λ a b h. h.0; right = λ a b h. h.1 }
read_comparison o.NotMatch e = record { reads = refl; left = λ a b h. h.0; right = λ a b h. h.1 }
read_comparison _ e = absurd (omega arith)

read_and : (op : Op) → rank_of op ≡ 5 → IsRead l.And op
read_and o.And e = record { reads = refl; left = λ a b h. h.0; right = λ a b h. h.1 }
read_and _ e = absurd (omega arith)

read_or : (op : Op) → rank_of op ≡ 6 → IsRead l.Or op
read_or o.Or e = record { reads = refl; left = λ a b h. (h.0, h.1); right = λ a b h. h.2 }
read_or _ e = absurd (omega arith)

pub op_read : (level : Level) (op : Op) → rank_of op ≡ top level → IsRead level op
op_read l.Product op e = read_product op e
op_read l.Sum op e = read_sum op e
op_read l.Comparison op e = read_comparison op e
op_read l.And op e = read_and op e
op_read l.Or op e = read_or op e

-- at the left of a level's operator is one of that level, or what could be at its right too
pub left_cases : (level : Level) (a : ℕ) → level ≢ l.Comparison → FitsLeft level a → (a ≡ top level) ⊎ (a ≤ side level)
left_cases l.Product a n h = elim (eq-or-lt_of_le h) [ inl e ↦ inl e | inr k ↦ inr (omega arith) ]
left_cases l.Sum a n h = elim (eq-or-lt_of_le h) [ inl e ↦ inl e | inr k ↦ inr (omega arith) ]
left_cases l.Comparison a n h = absurd (n refl)
left_cases l.And a n h = elim (eq-or-lt_of_le h) [ inl e ↦ inl e | inr k ↦ inr (omega arith) ]
left_cases l.Or a n h = elim (eq-or-lt_of_le h.0) [ inl e ↦ inl e | inr k ↦ inr (omega arith) ]
