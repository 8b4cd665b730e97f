-- What may follow an expression, so that it ends there.
use Rattle.std.proofs.Common.{◌≡◌, refl, ap, ◌∙◌, ℕ, ◌≤◌, ◌<◌, List, [], ◌∷◌, Bool, true, false, Option, Some, None, arith}
use Rattle.filter_tokens.specs.Lexemes.{Lexeme}
use Rattle.filter_tokens.specs.declared.symbol.Symbol.{Symbol}
use Rattle.filter_tokens.specs.declared.symbol.Symbol.TheVariants as symbols
use Rattle.expression_parser.specs.declared.expr_level.Level.{Level}
use Rattle.filter_syntax.specs.declared.tree.op.Op.{Op}
use Rattle.filter_syntax.specs.declared.tree.op.Op.TheVariants as o
use Rattle.expression_parser.specs.Reading.{op_of, an_operator}
use Rattle.expression_parser.specs.Readers.{is_symbol, symbol}
use Rattle.filter_syntax.specs.Syntax.{rank_of, op_symbol}
use Rattle.expression_parser.proofs.Operators.{op_found, top}
use Rattle.expression_parser.proofs.Steps.{symbol_is}

-- how loosely a operator binds that follows an expression: 0 a dot, then as its operator, 7 what is no operator
abbrev pub binds_symbol : Symbol → ℕ
binds_symbol symbols.Dot = 0
binds_symbol symbols.Times = 2
binds_symbol symbols.Divide = 2
binds_symbol symbols.Plus = 3
binds_symbol symbols.Minus = 3
binds_symbol symbols.Equal = 4
binds_symbol symbols.NotEqual = 4
binds_symbol symbols.Less = 4
binds_symbol symbols.Greater = 4
binds_symbol symbols.LessEqual = 4
binds_symbol symbols.GreaterEqual = 4
binds_symbol symbols.Match = 4
binds_symbol symbols.NotMatch = 4
binds_symbol symbols.And = 5
binds_symbol symbols.Or = 6
binds_symbol _ = 7

abbrev pub binds : Lexeme → ℕ
binds (Lexeme.symbol k) = binds_symbol k
binds (Lexeme.name text) = 7
binds (Lexeme.number n) = 7
binds (Lexeme.address a) = 7
binds (Lexeme.prefix bits) = 7
binds Lexeme.quote = 7

-- what follows binds more loosely than so
abbrev pub Stops : ℕ → List Lexeme → Type 0
Stops most [] = Unit {0}
Stops most (w ∷ ws) = most < binds w

pub stops_less : (a b : ℕ) (ws : List Lexeme) → a ≤ b → Stops b ws → Stops a ws
stops_less a b [] h s = tt
stops_less a b (w ∷ ws) h s = omega arith

-- a symbol is not there
pub no_symbol : (k n : Symbol) (ws : List Lexeme) → (n ≡ k → ⊥) → symbol k (Lexeme.symbol n ∷ ws) ≡ None
no_symbol k n ws other = go (is_symbol k (Lexeme.symbol n)) refl
  where
    go : (b : Bool) → is_symbol k (Lexeme.symbol n) ≡ b → symbol k (Lexeme.symbol n ∷ ws) ≡ None
    go true s = absurd (other (let f : Lexeme.symbol n ≡ Lexeme.symbol k = symbol_is k (Lexeme.symbol n) s in cc))
    go false s = rw s refl

pub dot_stops : (ws : List Lexeme) → Stops 0 ws → symbol symbols.Dot ws ≡ None
dot_stops [] s = refl
dot_stops (Lexeme.symbol k ∷ ws) s = no_symbol symbols.Dot k ws (λ e. let f : binds_symbol k ≡ 0 = ap binds_symbol e in omega arith)
dot_stops (Lexeme.name text ∷ ws) s = refl
dot_stops (Lexeme.number n ∷ ws) s = refl
dot_stops (Lexeme.address a ∷ ws) s = refl
dot_stops (Lexeme.prefix bits ∷ ws) s = refl
dot_stops (Lexeme.quote ∷ ws) s = refl

pub or_stops : (ws : List Lexeme) → Stops 6 ws → symbol symbols.Or ws ≡ None
or_stops [] s = refl
or_stops (Lexeme.symbol k ∷ ws) s = no_symbol symbols.Or k ws (λ e. let f : binds_symbol k ≡ 6 = ap binds_symbol e in omega arith)
or_stops (Lexeme.name text ∷ ws) s = refl
or_stops (Lexeme.number n ∷ ws) s = refl
or_stops (Lexeme.address a ∷ ws) s = refl
or_stops (Lexeme.prefix bits ∷ ws) s = refl
or_stops (Lexeme.quote ∷ ws) s = refl

-- an operator's operator binds as the operator does
pub binds_op_symbol : (op : Op) → binds_symbol (op_symbol op) ≡ rank_of op
binds_op_symbol o.Add = refl
binds_op_symbol o.Sub = refl
binds_op_symbol o.Mul = refl
binds_op_symbol o.Div = refl
binds_op_symbol o.Equal = refl
binds_op_symbol o.NotEqual = refl
binds_op_symbol o.Less = refl
binds_op_symbol o.Greater = refl
binds_op_symbol o.LessEqual = refl
binds_op_symbol o.GreaterEqual = refl
binds_op_symbol o.Match = refl
binds_op_symbol o.NotMatch = refl
binds_op_symbol o.And = refl
binds_op_symbol o.Or = refl

-- no operator of a level follows
pub op_stops : (level : Level) (ws : List Lexeme) → Stops (top level) ws → an_operator level ws ≡ None
op_stops level [] s = refl
op_stops level (Lexeme.symbol k ∷ ws) s = go (op_of level k) refl
  where
    go : (r : Option Op) → op_of level k ≡ r → an_operator level (Lexeme.symbol k ∷ ws) ≡ None
    go None e = rw e refl
    go (Some op) e =
        let a = op_found level k op e in
        let b : binds_symbol k ≡ rank_of op = ap binds_symbol a.spelled ∙ binds_op_symbol op in
        let d : rank_of op ≡ top level = a.binds in
        absurd (omega (arith, b, d))
op_stops level (Lexeme.name text ∷ ws) s = refl
op_stops level (Lexeme.number n ∷ ws) s = refl
op_stops level (Lexeme.address a ∷ ws) s = refl
op_stops level (Lexeme.prefix bits ∷ ws) s = refl
op_stops level (Lexeme.quote ∷ ws) s = refl
