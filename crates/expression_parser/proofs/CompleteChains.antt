-- A chain of operators is read as it is spelled, where what follows ends it.
use Rattle.std.proofs.Common.{◌≡◌, ◌≢◌, sym, ap, subst, ℕ, ◌≤◌, ◌<◌, List, ◌∷◌, ◌++◌, length, Option, Some, inl, inr, append_assoc}
use Rattle.std.proofs.Common.{length-append, arith}
use Rattle.filter_tokens.specs.Lexemes.{Lexeme}
use Rattle.expression_parser.specs.declared.expr_level.Level.{Level}
use Rattle.expression_parser.specs.declared.expr_level.Level.TheVariants as l
use Rattle.filter_syntax.specs.declared.tree.op.Op.{Op}
use Rattle.expression_parser.specs.Readers.{Reader}
use Rattle.expression_parser.specs.Reading.{an_operator, joins, chain_from, product_with, sum_with}
use Rattle.prefix_patterns.specs.Reading.{◌>>=◌}
use Rattle.filter_syntax.specs.Syntax.{ExprView, Fits, rank, rank_of, op_symbol, spelling}
use Rattle.expression_parser.proofs.Operators.{FitsLeft, left_cases, op_read, side, top}
use Rattle.expression_parser.proofs.Chains.{chain_on, chain_ends}
use Rattle.expression_parser.proofs.Stops.{Stops, binds_op_symbol, op_stops, stops_less}
use Rattle.expression_parser.proofs.Turns.{Goes, starts}
use Rattle.expression_parser.proofs.CompleteOperands.{IsComplete}

-- a first operand, and a chain after it
abbrev pub starts_chain : Reader ExprView → Level → Reader ExprView
starts_chain next level ws = next ws >>= λ first. chain_from next level first.0 first.1

-- an operand that is no chain of this level
chain_base : (depth : ℕ) (level : Level) (next : Reader ExprView) → IsComplete depth (side level) next → (t : ExprView) (rest : List Lexeme) →
    Fits t depth →
    rank t ≤ side level → Stops (side level) rest → Goes (joins next level) t rest (starts_chain next level (spelling t ++ rest))
chain_base depth level next s t rest f low stops =
    let P : Option (ExprView × List Lexeme) → Type 0 = λ r. Goes (joins next level) t rest
    (r >>= λ first. chain_from next level first.0 first.1) in
    subst P (sym (s.complete t rest f low stops)) (starts (joins next level) t rest)

atom_side : (level : Level) (a : ℕ) → a ≤ 1 → a ≤ side level
atom_side l.Product a h = omega arith
atom_side l.Sum a h = omega arith
atom_side l.Comparison a h = omega arith
atom_side l.And a h = omega arith
atom_side l.Or a h = omega arith

member_side : (level : Level) → FitsLeft level 4 → 4 ≤ side level
member_side l.Product h = absurd (omega arith)
member_side l.Sum h = absurd (omega arith)
member_side l.Comparison h = absurd (omega arith)
member_side l.And h = omega arith
member_side l.Or h = omega arith

pub side_top : (level : Level) → side level < top level
side_top l.Product = omega arith
side_top l.Sum = omega arith
side_top l.Comparison = omega arith
side_top l.And = omega arith
side_top l.Or = omega arith

-- an operator of the level ends an operand of it
op_symbol_stops : (level : Level) (op : Op) (ws : List Lexeme) → rank_of op ≡ top level → Stops (side level) (Lexeme.symbol (op_symbol op) ∷ ws)
op_symbol_stops level op ws e = omega (arith, binds_op_symbol op, side_top level)

-- where the loop over a level's operators is when it has made a chain
chain_reach : (depth : ℕ) (level : Level) (next : Reader ExprView) → level ≢ l.Comparison → IsComplete depth (side level) next →
    (t : ExprView) (rest : List Lexeme) →
    Fits t depth → FitsLeft level (rank t) → Stops (side level) rest →
    Goes (joins next level) t rest (starts_chain next level (spelling t ++ rest))
chain_reach depth level next other s (ExprView.binary op a b) rest f left stops = elim (left_cases level (rank_of op) other left) [
  | inr h ↦ chain_base depth level next s (ExprView.binary op a b) rest f h stops
  | inl e ↦
      let r = op_read level op e in
      let ws : List Lexeme = spelling b ++ rest in
      let g = chain_reach depth level next other s a (Lexeme.symbol (op_symbol op) ∷ ws) f.1 (r.left (rank a) (rank b) f.0)
      (op_symbol_stops level op ws e) in
      let first : an_operator level (Lexeme.symbol (op_symbol op) ∷ ws) ≡ Some (op, ws) = ap (λ r. r >>= λ op. Some (op, ws)) r.reads in
      let shorter : length rest < length (Lexeme.symbol (op_symbol op) ∷ ws) = omega (arith, length-append (spelling b) rest) in
      let P : List Lexeme → Type 0 = λ ws. Goes (joins next level) (ExprView.binary op a b) rest (starts_chain next level ws) in
      subst P (sym (append_assoc (spelling a) (Lexeme.symbol (op_symbol op) ∷ spelling b) rest))
      (chain_on next level first (s.complete b rest f.2 (r.right (rank a) (rank b) f.0) stops) shorter g)
]
chain_reach depth level next other s (ExprView.member op a xs) rest f left stops =
    chain_base depth level next s (ExprView.member op a xs) rest f (member_side level left) stops
chain_reach depth level next other s (ExprView.number n) rest f left stops =
    chain_base depth level next s (ExprView.number n) rest f (atom_side level 0 (omega arith)) stops
chain_reach depth level next other s (ExprView.address a) rest f left stops =
    chain_base depth level next s (ExprView.address a) rest f (atom_side level 0 (omega arith)) stops
chain_reach depth level next other s (ExprView.prefix p) rest f left stops =
    chain_base depth level next s (ExprView.prefix p) rest f (atom_side level 0 (omega arith)) stops
chain_reach depth level next other s (ExprView.truth b) rest f left stops = chain_base depth level next s (ExprView.truth b) rest f
    (atom_side level 0 (omega arith)) stops
chain_reach depth level next other s (ExprView.name text) rest f left stops =
    chain_base depth level next s (ExprView.name text) rest f (atom_side level 0 (omega arith)) stops
chain_reach depth level next other s (ExprView.attribute a) rest f left stops =
    chain_base depth level next s (ExprView.attribute a) rest f (atom_side level 0 (omega arith)) stops
chain_reach depth level next other s (ExprView.defined a) rest f left stops =
    chain_base depth level next s (ExprView.defined a) rest f (atom_side level 0 (omega arith)) stops
chain_reach depth level next other s (ExprView.group inner) rest f left stops =
    chain_base depth level next s (ExprView.group inner) rest f (atom_side level 0 (omega arith)) stops
chain_reach depth level next other s (ExprView.negation inner) rest f left stops =
    chain_base depth level next s (ExprView.negation inner) rest f (atom_side level 1 (omega arith)) stops
chain_reach depth level next other s (ExprView.suffixed inner x) rest f left stops =
    chain_base depth level next s (ExprView.suffixed inner x) rest f (atom_side level 0 (omega arith)) stops

pub chain_complete : (depth : ℕ) (level : Level) (next : Reader ExprView) → level ≢ l.Comparison → IsComplete depth (side level) next →
    (t : ExprView) (rest : List Lexeme) →
    Fits t depth → FitsLeft level (rank t) → Stops (top level) rest → starts_chain next level (spelling t ++ rest) ≡ Some (t, rest)
chain_complete depth level next other s t rest f left stops =
    chain_ends next level (op_stops level rest stops)
    (chain_reach depth level next other s t rest f left (stops_less (side level) (top level) rest (omega (arith, side_top level)) stops))

product_complete : (depth : ℕ) (unary : Reader ExprView) → IsComplete depth 1 unary → IsComplete depth 2 (product_with unary)
product_complete depth unary s = record {
  complete = λ t rest f low stops. chain_complete depth l.Product unary
      (λ e. absurd (cc)) s t rest f low stops;
}

pub sum_complete : (depth : ℕ) (unary : Reader ExprView) → IsComplete depth 1 unary → IsComplete depth 3 (sum_with unary)
sum_complete depth unary s = record {
  complete = λ t rest f low stops.
      chain_complete depth l.Sum (product_with unary) (λ e. absurd (cc)) (product_complete depth unary s) t rest f low stops;
}
