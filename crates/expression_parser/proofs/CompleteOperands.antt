-- An operand is read as it is spelled, where what follows ends it.
use Rattle.std.proofs.Common.{◌≡◌, refl, sym, ap, subst, ◌∙◌, ℕ, zero, suc, ◌≤◌, List, [], ◌∷◌, ◌++◌, true, false, Option, Some, None}
use Rattle.std.proofs.Common.{append_assoc, arith}
use Rattle.filter_tokens.specs.Lexemes.{Lexeme}
use Rattle.filter_tokens.specs.declared.symbol.Symbol.TheVariants as symbols
use Rattle.filter_syntax.specs.declared.tree.expr.Attribute.TheVariants as attributes
use Rattle.filter_syntax.specs.declared.tree.op.Op.{Op}
use Rattle.filter_syntax.specs.declared.tree.op.Op.TheVariants as o
use Rattle.expression_parser.specs.Readers.{Reader, with_some, symbol}
use Rattle.expression_parser.specs.Reading.{suffixes, suffixes_from, group_end, group_with, postfix_with, not_with, unary_with}
use Rattle.prefix_patterns.specs.Reading.{◌>>=◌}
use Rattle.filter_syntax.specs.Syntax.{ExprView, Fits, rank, rank_of, spelling, spelling_suffix}
use Rattle.expression_parser.proofs.CompleteWords.{suffix_back}
use Rattle.expression_parser.proofs.Chains.{suffix_on, suffix_ends}
use Rattle.expression_parser.proofs.Stops.{Stops, dot_stops, stops_less}
use Rattle.expression_parser.proofs.Turns.{Goes, starts}

-- a reading function reads each tree that binds at most so loosely, where something looser follows it
pub record IsComplete (depth most : ℕ) (next : Reader ExprView) : Type 0 where
  pub complete : (t : ExprView) (rest : List Lexeme) → Fits t depth → rank t ≤ most → Stops most rest →
      next (spelling t ++ rest) ≡ Some (t, rest)

-- each operator binds more loosely than an operand
rank_pos : (op : Op) → 2 ≤ rank_of op
rank_pos o.Add = omega arith
rank_pos o.Sub = omega arith
rank_pos o.Mul = omega arith
rank_pos o.Div = omega arith
rank_pos o.Equal = omega arith
rank_pos o.NotEqual = omega arith
rank_pos o.Less = omega arith
rank_pos o.Greater = omega arith
rank_pos o.LessEqual = omega arith
rank_pos o.GreaterEqual = omega arith
rank_pos o.Match = omega arith
rank_pos o.NotMatch = omega arith
rank_pos o.And = omega arith
rank_pos o.Or = omega arith

op_most : (op : Op) → rank_of op ≤ 6
op_most o.Add = omega arith
op_most o.Sub = omega arith
op_most o.Mul = omega arith
op_most o.Div = omega arith
op_most o.Equal = omega arith
op_most o.NotEqual = omega arith
op_most o.Less = omega arith
op_most o.Greater = omega arith
op_most o.LessEqual = omega arith
op_most o.GreaterEqual = omega arith
op_most o.Match = omega arith
op_most o.NotMatch = omega arith
op_most o.And = omega arith
op_most o.Or = omega arith

pub rank_most : (t : ExprView) → rank t ≤ 6
rank_most (ExprView.binary op a b) = op_most op
rank_most (ExprView.number n) = omega arith
rank_most (ExprView.address a) = omega arith
rank_most (ExprView.prefix p) = omega arith
rank_most (ExprView.truth b) = omega arith
rank_most (ExprView.name text) = omega arith
rank_most (ExprView.attribute a) = omega arith
rank_most (ExprView.defined a) = omega arith
rank_most (ExprView.group inner) = omega arith
rank_most (ExprView.negation inner) = omega arith
rank_most (ExprView.member op a xs) = omega arith
rank_most (ExprView.suffixed inner x) = omega arith

-- an expression in parentheses is read after its `(`
pub record GroupBack (depth : ℕ) (expr : Reader ExprView) : Type 0 where
  pub back : (inner : ExprView) (rest : List Lexeme) → Fits (ExprView.group inner) depth →
      group_with expr ((spelling inner ++ (Lexeme.symbol symbols.RightParen ∷ [])) ++ rest) ≡ Some (ExprView.group inner, rest)

pub no_group : (expr : Reader ExprView) → GroupBack zero expr
no_group expr = record { back = λ inner rest f. absurd f }

pub group_back : (depth : ℕ) (expr : Reader ExprView) → IsComplete depth 6 expr → GroupBack (suc depth) expr
group_back depth expr s = record {
  back = λ inner rest f.
      ap (group_with expr) (append_assoc (spelling inner) (Lexeme.symbol symbols.RightParen ∷ []) rest)
      ∙ ap (λ r. r >>= λ x. group_end x.0 x.1) (s.complete inner (Lexeme.symbol symbols.RightParen ∷ rest) f (rank_most inner) (omega arith));
}

-- an operand so far, from which the loop over suffixes goes on
postfix_reach : (depth : ℕ) (expr : Reader ExprView) → GroupBack depth expr → (t : ExprView) (rest : List Lexeme) → Fits t depth → rank t ≤ 0 →
    Goes suffixes t rest (postfix_with expr (spelling t ++ rest))
postfix_reach depth expr s (ExprView.number n) rest f low = starts suffixes (ExprView.number n) rest
postfix_reach depth expr s (ExprView.address a) rest f low = starts suffixes (ExprView.address a) rest
postfix_reach depth expr s (ExprView.prefix p) rest f low = starts suffixes (ExprView.prefix p) rest
postfix_reach depth expr s (ExprView.truth true) rest f low = starts suffixes (ExprView.truth true) rest
postfix_reach depth expr s (ExprView.truth false) rest f low = starts suffixes (ExprView.truth false) rest
postfix_reach depth expr s (ExprView.name text) rest f low = starts suffixes (ExprView.name text) rest
postfix_reach depth expr s (ExprView.attribute attributes.Net) rest f low = starts suffixes (ExprView.attribute attributes.Net) rest
postfix_reach depth expr s (ExprView.attribute attributes.RipMetric) rest f low = starts suffixes (ExprView.attribute attributes.RipMetric) rest
postfix_reach depth expr s (ExprView.defined attributes.Net) rest f low = starts suffixes (ExprView.defined attributes.Net) rest
postfix_reach depth expr s (ExprView.defined attributes.RipMetric) rest f low = starts suffixes (ExprView.defined attributes.RipMetric) rest
postfix_reach depth expr s (ExprView.group inner) rest f low =
    let P : Option (ExprView × List Lexeme) → Type 0 = λ r. Goes suffixes (ExprView.group inner) rest (r >>= λ x. suffixes_from x.0 x.1) in
    subst P (sym (s.back inner rest f)) (starts suffixes (ExprView.group inner) rest)
postfix_reach depth expr s (ExprView.negation inner) rest f low = absurd (omega arith)
postfix_reach depth expr s (ExprView.binary op a b) rest f low = absurd (omega (arith, rank_pos op))
postfix_reach depth expr s (ExprView.member op a xs) rest f low = absurd (omega arith)
postfix_reach depth expr s (ExprView.suffixed inner x) rest f low =
    let b = suffix_back x rest f.2 in
    let P : List Lexeme → Type 0 = λ ws. Goes suffixes (ExprView.suffixed inner x) rest (postfix_with expr ws) in
    subst P (sym (append_assoc (spelling inner) (spelling_suffix x) rest))
    (suffix_on b.dot b.reads b.shorter (postfix_reach depth expr s inner (spelling_suffix x ++ rest) f.1 f.0))

postfix_complete : (depth : ℕ) (expr : Reader ExprView) → GroupBack depth expr → IsComplete depth 0 (postfix_with expr)
postfix_complete depth expr s = record {
  complete = λ t rest f low stops. suffix_ends (dot_stops rest stops)
      (postfix_reach depth expr s t rest f low);
}

-- such an operand begins with no `!`
no_not_symbol : (depth : ℕ) (t : ExprView) (rest : List Lexeme) → Fits t depth → rank t ≤ 0 → symbol symbols.Not (spelling t ++ rest) ≡ None
no_not_symbol depth (ExprView.number n) rest f low = refl
no_not_symbol depth (ExprView.address a) rest f low = refl
no_not_symbol depth (ExprView.prefix p) rest f low = refl
no_not_symbol depth (ExprView.truth true) rest f low = refl
no_not_symbol depth (ExprView.truth false) rest f low = refl
no_not_symbol depth (ExprView.name text) rest f low = refl
no_not_symbol depth (ExprView.attribute attributes.Net) rest f low = refl
no_not_symbol depth (ExprView.attribute attributes.RipMetric) rest f low = refl
no_not_symbol depth (ExprView.defined a) rest f low = refl
no_not_symbol depth (ExprView.group inner) rest f low = refl
no_not_symbol depth (ExprView.negation inner) rest f low = absurd (omega arith)
no_not_symbol depth (ExprView.binary op a b) rest f low = absurd (omega (arith, rank_pos op))
no_not_symbol depth (ExprView.member op a xs) rest f low = absurd (omega arith)
no_not_symbol depth (ExprView.suffixed inner x) rest f low =
    ap (symbol symbols.Not) (append_assoc (spelling inner) (spelling_suffix x) rest)
    ∙ no_not_symbol depth inner (spelling_suffix x ++ rest) f.1 f.0

-- an operand is read after its `!`
pub record NotBack (depth : ℕ) (unary : Reader ExprView) : Type 0 where
  pub back : (inner : ExprView) (rest : List Lexeme) → Fits (ExprView.negation inner) depth → Stops 1 rest →
      not_with unary (spelling inner ++ rest) ≡ Some (ExprView.negation inner, rest)

pub no_not : (unary : Reader ExprView) → NotBack zero unary
no_not unary = record { back = λ inner rest f stops. absurd f.1 }

pub not_back : (depth : ℕ) (unary : Reader ExprView) → IsComplete depth 1 unary → NotBack (suc depth) unary
not_back depth unary s = record {
  back = λ inner rest f stops.
      ap (λ r. r >>= λ x. Some (ExprView.negation x.0, x.1)) (s.complete inner rest f.1 f.0 stops);
}

unary_plain : (depth : ℕ) (expr unary : Reader ExprView) → GroupBack depth expr → (t : ExprView) (rest : List Lexeme) → Fits t depth → rank t ≤ 0 →
    Stops 1 rest →
    unary_with expr unary (spelling t ++ rest) ≡ Some (t, rest)
unary_plain depth expr unary g t rest f low stops =
    ap (λ r. with_some r (postfix_with expr (spelling t ++ rest)) (not_with unary)) (no_not_symbol depth t rest f low)
    ∙ (postfix_complete depth expr g).complete t rest f low (stops_less 0 1 rest (omega arith) stops)

pub unary_complete_at : (depth : ℕ) (expr unary : Reader ExprView) → GroupBack depth expr → NotBack depth unary → (t : ExprView) (rest : List Lexeme) →
    Fits t depth → rank t ≤ 1 → Stops 1 rest → unary_with expr unary (spelling t ++ rest) ≡ Some (t, rest)
unary_complete_at depth expr unary g n (ExprView.negation inner) rest f low stops = n.back inner rest f stops
unary_complete_at depth expr unary g n (ExprView.binary op a b) rest f low stops = absurd (omega (arith, rank_pos op))
unary_complete_at depth expr unary g n (ExprView.member op a xs) rest f low stops = absurd (omega arith)
unary_complete_at depth expr unary g n (ExprView.number k) rest f low stops = unary_plain depth expr unary g (ExprView.number k) rest f (omega arith) stops
unary_complete_at depth expr unary g n (ExprView.address a) rest f low stops =
    unary_plain depth expr unary g (ExprView.address a) rest f (omega arith) stops
unary_complete_at depth expr unary g n (ExprView.prefix p) rest f low stops = unary_plain depth expr unary g (ExprView.prefix p) rest f (omega arith) stops
unary_complete_at depth expr unary g n (ExprView.truth b) rest f low stops = unary_plain depth expr unary g (ExprView.truth b) rest f (omega arith) stops
unary_complete_at depth expr unary g n (ExprView.name text) rest f low stops =
    unary_plain depth expr unary g (ExprView.name text) rest f (omega arith) stops
unary_complete_at depth expr unary g n (ExprView.attribute a) rest f low stops =
    unary_plain depth expr unary g (ExprView.attribute a) rest f (omega arith) stops
unary_complete_at depth expr unary g n (ExprView.defined a) rest f low stops =
    unary_plain depth expr unary g (ExprView.defined a) rest f (omega arith) stops
unary_complete_at depth expr unary g n (ExprView.group inner) rest f low stops =
    unary_plain depth expr unary g (ExprView.group inner) rest f (omega arith) stops
unary_complete_at depth expr unary g n (ExprView.suffixed inner x) rest f low stops =
    unary_plain depth expr unary g (ExprView.suffixed inner x) rest f (omega arith) stops
