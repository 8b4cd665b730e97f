-- An expression is read as it is spelled, where what follows ends it.
use Rattle.std.proofs.Common.{◌≡◌, ◌≢◌, refl, sym, ap, subst, ◌∙◌, ℕ, zero, suc, ◌≤◌, ◌<◌, List, ◌∷◌, ◌++◌, Option, Some, None, inl, inr}
use Rattle.std.proofs.Common.{append_assoc, arith}
use Rattle.std.proofs.Math.Nat.{eq-or-lt_of_le}
use Rattle.filter_tokens.specs.Lexemes.{Lexeme}
use Rattle.filter_tokens.specs.declared.symbol.Symbol.TheVariants as symbols
use Rattle.expression_parser.specs.declared.expr_level.Level.{Level}
use Rattle.expression_parser.specs.declared.expr_level.Level.TheVariants as l
use Rattle.filter_syntax.specs.declared.tree.op.Op.{Op}
use Rattle.filter_syntax.specs.declared.tree.op.Op.TheVariants as o
use Rattle.expression_parser.specs.Readers.{Reader, refused, with_some, symbol}
use Rattle.expression_parser.specs.Reading.{an_operator, chain_from, comparison_with, level_by, level_of, unmixed, expr_with}
use Rattle.expression_parser.specs.Reading.{unary_at, expr_at}
use Rattle.prefix_patterns.specs.Reading.{◌>>=◌}
use Rattle.filter_syntax.specs.Syntax.{ExprView, Fits, rank, rank_of, op_symbol, spelling}
use Rattle.expression_parser.proofs.Operators.{FitsLeft, left_cases, op_read, side, top}
use Rattle.expression_parser.proofs.Stops.{Stops, binds_op_symbol, op_stops, or_stops, stops_less}
use Rattle.expression_parser.proofs.CompleteComparisons.{comparison_at, comparison_complete}
use Rattle.expression_parser.proofs.CompleteOperands.{IsComplete, group_back, unary_complete_at, no_group, no_not, not_back}
use Rattle.expression_parser.proofs.CompleteChains.{chain_complete, side_top, starts_chain}

-- a chain of `&&` or `||`
abbrev is_join : Level → Type 0
is_join l.Product = ⊥
is_join l.Sum = ⊥
is_join l.Comparison = ⊥
is_join l.And = Unit {0}
is_join l.Or = Unit {0}

-- after the first operand of such a chain comes one of its operators
record First (unary : Reader ExprView) (level : Level) (ws : List Lexeme) : Type 0 where
  first : ExprView
  op : Op
  more : List Lexeme
  binds : rank_of op ≡ top level
  reads : comparison_with unary ws ≡ Some (first, Lexeme.symbol (op_symbol op) ∷ more)

join_side : (level : Level) → is_join level → (side level ≡ 4) × (level ≢ l.Comparison)
join_side l.Product j = absurd j
join_side l.Sum j = absurd j
join_side l.Comparison j = absurd j
join_side l.And j = (refl, λ e. absurd (cc))
join_side l.Or j = (refl, λ e. absurd (cc))

first_binary : (depth : ℕ) (unary : Reader ExprView) → IsComplete depth 1 unary → (level : Level) → is_join level →
    (op : Op) (a b : ExprView) (rest : List Lexeme) →
    Fits (ExprView.binary op a b) depth → rank_of op ≡ top level →
    ((rest : List Lexeme) → rank a ≡ top level → First unary level (spelling a ++ rest)) →
    First unary level (spelling (ExprView.binary op a b) ++ rest)
first_binary depth unary s level j op a b rest f e again =
    let r = op_read level op e in
    let ws : List Lexeme = spelling b ++ rest in
    let P : List Lexeme → Type 0 = First unary level in
    let same = append_assoc (spelling a) (Lexeme.symbol (op_symbol op) ∷ spelling b) rest in
    let h = join_side level j in
    let four : Stops 4 (Lexeme.symbol (op_symbol op) ∷ ws) = omega (arith, binds_op_symbol op, side_top level, h.0) in
    elim (left_cases level (rank a) h.1 (r.left (rank a) (rank b) f.0)) [
      | inl t ↦ subst P (sym same) (again (Lexeme.symbol (op_symbol op) ∷ ws) t)
      | inr k ↦ subst P (sym same) (record {
        first = a;
        op = op;
        more = ws;
        binds = e;
        reads = comparison_at depth unary s a (Lexeme.symbol (op_symbol op) ∷ ws) f.1 (omega (arith, h.0)) four;
      })
    ]

not_join : (level : Level) (a : ℕ) → is_join level → a ≤ 4 → a ≡ top level → ⊥
not_join l.Product a j h e = j
not_join l.Sum a j h e = j
not_join l.Comparison a j h e = j
not_join l.And a j h e = omega arith
not_join l.Or a j h e = omega arith

first_is : (depth : ℕ) (unary : Reader ExprView) → IsComplete depth 1 unary → (level : Level) → is_join level → (t : ExprView) (rest : List Lexeme) →
    Fits t depth →
    rank t ≡ top level → First unary level (spelling t ++ rest)
first_is depth unary s level j (ExprView.binary op a b) rest f e =
    first_binary depth unary s level j op a b rest f e (λ rest. first_is depth unary s level j a rest f.1)
first_is depth unary s level j (ExprView.member k a xs) rest f e = absurd (not_join level 4 j (omega arith) e)
first_is depth unary s level j (ExprView.number n) rest f e = absurd (not_join level 0 j (omega arith) e)
first_is depth unary s level j (ExprView.address a) rest f e = absurd (not_join level 0 j (omega arith) e)
first_is depth unary s level j (ExprView.prefix p) rest f e = absurd (not_join level 0 j (omega arith) e)
first_is depth unary s level j (ExprView.truth b) rest f e = absurd (not_join level 0 j (omega arith) e)
first_is depth unary s level j (ExprView.name text) rest f e = absurd (not_join level 0 j (omega arith) e)
first_is depth unary s level j (ExprView.attribute a) rest f e = absurd (not_join level 0 j (omega arith) e)
first_is depth unary s level j (ExprView.defined a) rest f e = absurd (not_join level 0 j (omega arith) e)
first_is depth unary s level j (ExprView.group inner) rest f e = absurd (not_join level 0 j (omega arith) e)
first_is depth unary s level j (ExprView.negation inner) rest f e = absurd (not_join level 1 j (omega arith) e)
first_is depth unary s level j (ExprView.suffixed inner x) rest f e = absurd (not_join level 0 j (omega arith) e)

level_and : (op : Op) (ws : List Lexeme) → rank_of op ≡ 5 → level_of (Lexeme.symbol (op_symbol op) ∷ ws) ≡ l.And
level_and o.And ws e = refl
level_and _ ws e = absurd (omega arith)

level_or : (op : Op) (ws : List Lexeme) → rank_of op ≡ 6 → level_of (Lexeme.symbol (op_symbol op) ∷ ws) ≡ l.Or
level_or o.Or ws e = refl
level_or _ ws e = absurd (omega arith)

level_is : (level : Level) (op : Op) (ws : List Lexeme) → is_join level → rank_of op ≡ top level →
    level_of (Lexeme.symbol (op_symbol op) ∷ ws) ≡ level
level_is l.Product op ws j e = absurd j
level_is l.Sum op ws j e = absurd j
level_is l.Comparison op ws j e = absurd j
level_is l.And op ws j e = level_and op ws e
level_is l.Or op ws j e = level_or op ws e

unmixed_back : (t : ExprView) (rest : List Lexeme) → Stops 6 rest → unmixed t rest ≡ Some (t, rest)
unmixed_back t rest stops =
    ap (λ r. with_some r (with_some (an_operator l.Or rest) (Some (t, rest)) (λ _. None)) (λ _. None))
    (op_stops l.And rest (stops_less 5 6 rest (omega arith) stops))
    ∙ ap (λ r. with_some r (Some (t, rest)) (λ _. None)) (op_stops l.Or rest stops)

-- what follows the first operand of an expression
abbrev after_first : Reader ExprView → ExprView × List Lexeme → Option (ExprView × List Lexeme)
after_first unary first = chain_from (comparison_with unary) (level_of first.1) first.0 first.1 >>= λ x. unmixed x.0 x.1

-- an expression whose first operand and level are known
expr_from : (unary : Reader ExprView) (level : Level) (ws : List Lexeme) (first : ExprView × List Lexeme) (t : ExprView) (rest : List Lexeme) →
    comparison_with unary ws ≡ Some first → level_of first.1 ≡ level → starts_chain (comparison_with unary) level ws ≡ Some (t, rest) →
    Stops 6 rest →
    expr_with unary ws ≡ Some (t, rest)
expr_from unary level ws first t rest e f g stops =
    let a : chain_from (comparison_with unary) level first.0 first.1 ≡ Some (t, rest) =
    sym (ap (λ r. r >>= λ first. chain_from (comparison_with unary) level first.0 first.1) e) ∙ g in
    ap (λ r. r >>= after_first unary) e
    ∙ (ap (λ k. chain_from (comparison_with unary) k first.0 first.1 >>= λ x. unmixed x.0 x.1) f
    ∙ (ap (λ r. r >>= λ x. unmixed x.0 x.1) a ∙ unmixed_back t rest stops))

expr_join : (depth : ℕ) (unary : Reader ExprView) → IsComplete depth 1 unary → (level : Level) → is_join level → FitsLeft level (top level) →
    top level ≤ 6 →
    (t : ExprView) (rest : List Lexeme) → Fits t depth → rank t ≡ top level → Stops 6 rest → expr_with unary (spelling t ++ rest) ≡ Some (t, rest)
expr_join depth unary s level j left most t rest f e stops =
    let a = first_is depth unary s level j t rest f e in
    let h = join_side level j in
    let next : IsComplete depth (side level) (comparison_with unary) =
    let P : ℕ → Type 0 = λ n. IsComplete depth n (comparison_with unary) in subst P (sym h.0) (comparison_complete depth unary s) in
    let P : ℕ → Type 0 = FitsLeft level in
    expr_from unary level (spelling t ++ rest) (a.first, Lexeme.symbol (op_symbol a.op) ∷ a.more) t rest a.reads
    (level_is level a.op a.more j a.binds)
    (chain_complete depth level (comparison_with unary) h.1 next t rest f (subst P (sym e) left)
    (stops_less (top level) 6 rest most stops)) stops

-- an expression that is no chain of `&&` or `||`
expr_plain : (depth : ℕ) (unary : Reader ExprView) → IsComplete depth 1 unary → (t : ExprView) (rest : List Lexeme) → Fits t depth → rank t ≤ 4 →
    Stops 6 rest →
    expr_with unary (spelling t ++ rest) ≡ Some (t, rest)
expr_plain depth unary s t rest f low stops =
    let next = comparison_complete depth unary s in
    let five = stops_less 5 6 rest (omega arith) stops in
    expr_from unary l.And (spelling t ++ rest) (t, rest) t rest (next.complete t rest f low (stops_less 4 6 rest (omega arith) stops))
    (level_none rest (or_stops rest stops))
    (chain_complete depth l.And (comparison_with unary) (λ e. absurd (cc)) next t rest f (omega arith) five) stops
  where
    level_none : (rest : List Lexeme) → symbol symbols.Or rest ≡ None → level_of rest ≡ l.And
    level_none rest e = ap level_by e

pub expr_with_complete : (depth : ℕ) (unary : Reader ExprView) → IsComplete depth 1 unary → IsComplete depth 6 (expr_with unary)
expr_with_complete depth unary s = record {
  complete = λ t rest f low stops. elim (eq-or-lt_of_le low) [
    | inl e ↦ expr_join depth unary s l.Or tt (omega arith, λ e. absurd (omega arith)) (omega arith) t rest f e stops
    | inr h ↦ elim (eq-or-lt_of_le (below 5 (rank t) h)) [
      | inl e ↦ expr_join depth unary s l.And tt (omega arith) (omega arith) t rest f e stops
      | inr k ↦ expr_plain depth unary s t rest f (omega arith) stops
    ]
  ];
}
  where
    below : (n k : ℕ) → k < suc n → k ≤ n
    below n k h = omega arith

pub unary_complete : (depth : ℕ) → IsComplete depth 1 (unary_at depth)
unfolding unary_at
unary_complete zero = record { complete = unary_complete_at zero refused refused (no_group refused) (no_not refused) }
unary_complete (suc depth) =
    let s = unary_complete depth in
    record {
      complete = unary_complete_at (suc depth) (expr_with (unary_at depth)) (unary_at depth)
          (group_back depth (expr_with (unary_at depth)) (expr_with_complete depth (unary_at depth) s)) (not_back depth (unary_at depth) s);
    }

-- an expression that fits is read as it is spelled, where no operator or dot follows
pub expr_complete : (depth : ℕ) → IsComplete depth 6 (expr_at depth)
expr_complete depth = expr_with_complete depth (unary_at depth) (unary_complete depth)
