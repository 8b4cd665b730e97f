-- A comparison is read as it is spelled, where what follows ends it.
use Rattle.std.proofs.Common.{◌≡◌, refl, ap, ◌∙◌, ℕ, ◌≤◌, List, [], ◌∷◌, ◌++◌, true, false, Option, Some, None, inl, inr, append_assoc}
use Rattle.std.proofs.Common.{arith}
use Rattle.std.proofs.Math.Nat.{eq-or-lt_of_le}
use Rattle.filter_tokens.specs.Lexemes.{Lexeme}
use Rattle.filter_tokens.specs.declared.symbol.Symbol.TheVariants as symbols
use Rattle.expression_parser.specs.declared.expr_level.Level.TheVariants as l
use Rattle.filter_syntax.specs.declared.tree.expr.Attribute.TheVariants as attributes
use Rattle.filter_syntax.specs.declared.tree.op.Membership.{Membership}
use Rattle.filter_syntax.specs.declared.tree.op.Membership.TheVariants as membership
use Rattle.filter_syntax.specs.declared.tree.op.Op.{Op}
use Rattle.filter_syntax.specs.declared.tree.op.Op.TheVariants as o
use Rattle.expression_parser.specs.Readers.{given, Reader, with_some, symbol}
use Rattle.expression_parser.specs.Reading.{an_operator, set_of, sum_with, membership_of, set_opening, member_of, right_operand_with}
use Rattle.expression_parser.specs.Reading.{comparison_with}
use Rattle.prefix_patterns.specs.Reading.{◌>>=◌}
use Rattle.filter_syntax.specs.Syntax.{SetView, ExprView, Fits, FitsSet, membership_symbol, rank}
use Rattle.filter_syntax.specs.Syntax.{rank_of, op_symbol, spelling, spelling_set_pattern}
use Rattle.filter_syntax.specs.Syntax.{spelling_ranges, spelling_set_patterns, spelling_set, spelling_suffix}
use Rattle.expression_parser.proofs.CompleteWords.{range_set_back, set_back}
use Rattle.expression_parser.proofs.Operators.{op_read}
use Rattle.expression_parser.proofs.Stops.{Stops, binds_op_symbol, op_stops, stops_less}
use Rattle.expression_parser.proofs.CompleteOperands.{IsComplete}
use Rattle.expression_parser.proofs.CompleteChains.{sum_complete}

-- an operand begins with no `[`
no_bracket : (t : ExprView) (rest : List Lexeme) → symbol symbols.LeftBracket (spelling t ++ rest) ≡ None
no_bracket (ExprView.number n) rest = refl
no_bracket (ExprView.address a) rest = refl
no_bracket (ExprView.prefix p) rest = refl
no_bracket (ExprView.truth true) rest = refl
no_bracket (ExprView.truth false) rest = refl
no_bracket (ExprView.name text) rest = refl
no_bracket (ExprView.attribute attributes.Net) rest = refl
no_bracket (ExprView.attribute attributes.RipMetric) rest = refl
no_bracket (ExprView.defined a) rest = refl
no_bracket (ExprView.group inner) rest = refl
no_bracket (ExprView.negation inner) rest = refl
no_bracket (ExprView.binary op a b) rest =
    ap (symbol symbols.LeftBracket) (append_assoc (spelling a) (Lexeme.symbol (op_symbol op) ∷ spelling b) rest)
    ∙ no_bracket a (Lexeme.symbol (op_symbol op) ∷ (spelling b ++ rest))
no_bracket (ExprView.member op a xs) rest =
    ap (symbol symbols.LeftBracket) (append_assoc (spelling a) (Lexeme.symbol (membership_symbol op) ∷ spelling_set xs) rest)
    ∙ no_bracket a (Lexeme.symbol (membership_symbol op) ∷ (spelling_set xs ++ rest))
no_bracket (ExprView.suffixed inner x) rest =
    ap (symbol symbols.LeftBracket) (append_assoc (spelling inner) (spelling_suffix x) rest) ∙ no_bracket inner (spelling_suffix x ++ rest)

abbrev after_bracket : Membership → List Lexeme → Option (Membership × List Lexeme)
after_bracket k rest = Some (k, rest)

bracket_none : (op : Op) (t : ExprView) (rest : List Lexeme) → set_opening op (spelling t ++ rest) ≡ None
bracket_none op t rest = go (membership_of op)
  where
    go : (r : Option Membership) → (given r (spelling t ++ rest) >>= λ k. symbol symbols.LeftBracket k.1 >>= after_bracket k.0) ≡ None
    go None = refl
    go (Some k) = ap (λ r. r >>= after_bracket k) (no_bracket t rest)

-- the right operand of a comparison
right_back : (depth : ℕ) (sum : Reader ExprView) → IsComplete depth 3 sum → (op : Op) (a b : ExprView) (rest : List Lexeme) → Fits b depth →
    rank b ≤ 3 →
    Stops 3 rest → right_operand_with sum a op (spelling b ++ rest) ≡ Some (ExprView.binary op a b, rest)
right_back depth sum s op a b rest f low stops =
    ap (λ r. with_some r (sum (spelling b ++ rest) >>= λ right. Some (ExprView.binary op a right.0, right.1)) (λ k. member_of a k.0 k.1))
    (bracket_none op b rest)
    ∙ ap (λ r. r >>= λ right. Some (ExprView.binary op a right.0, right.1)) (s.complete b rest f low stops)

-- the set of a comparison
set_found : (xs : SetView) (rest : List Lexeme) → FitsSet xs →
    (ws : List Lexeme) × (spelling_set xs ++ rest ≡ Lexeme.symbol symbols.LeftBracket ∷ ws) × (set_of ws ≡ Some (xs, rest))
set_found (SetView.of_patterns []) rest f = absurd f
set_found (SetView.of_ranges []) rest f = absurd f
set_found (SetView.of_ranges (x ∷ more)) rest f =
    ((spelling_ranges (x ∷ more) ++ Lexeme.symbol symbols.RightBracket ∷ []) ++ rest, refl, range_set_back x more rest f.0 f.1)
set_found (SetView.of_patterns (x ∷ more)) rest f = ((spelling_set_pattern x ++ spelling_set_patterns more) ++ rest, refl, set_back x more rest f.0 f.1)

op_of_member : Membership → Op
op_of_member membership.In = o.Match
op_of_member membership.NotIn = o.NotMatch

member_first : (k : Membership) (ws : List Lexeme) →
    an_operator l.Comparison (Lexeme.symbol (membership_symbol k) ∷ ws) ≡ Some (op_of_member k, ws)
unfolding op_of_member
member_first membership.In ws = refl
member_first membership.NotIn ws = refl

member_bracket : (k : Membership) (ws : List Lexeme) → set_opening (op_of_member k) (Lexeme.symbol symbols.LeftBracket ∷ ws) ≡ Some (k, ws)
unfolding op_of_member
member_bracket membership.In ws = refl
member_bracket membership.NotIn ws = refl

member_back : (sum : Reader ExprView) (k : Membership) (a : ExprView) (xs : SetView) (rest : List Lexeme) → FitsSet xs →
    right_operand_with sum a (op_of_member k) (spelling_set xs ++ rest) ≡ Some (ExprView.member k a xs, rest)
member_back sum k a xs rest f =
    let s = set_found xs rest f in
    ap (right_operand_with sum a (op_of_member k)) s.1
    ∙ (ap (λ r. with_some r (sum (Lexeme.symbol symbols.LeftBracket ∷ s.0) >>= λ right. Some (ExprView.binary (op_of_member k) a right.0, right.1))
    (λ k. member_of a k.0 k.1))
    (member_bracket k s.0)
    ∙ ap (λ r. r >>= λ xs. Some (ExprView.member k a xs.0, xs.1)) s.2)

-- a comparison so far: the sum at its left, and what follows it
abbrev after_sum : Reader ExprView → ExprView × List Lexeme → Option (ExprView × List Lexeme)
after_sum unary left = with_some (an_operator l.Comparison left.1) (Some left) (λ op. right_operand_with (sum_with unary) left.0 op.0 op.1)

comparison_plain : (depth : ℕ) (unary : Reader ExprView) → IsComplete depth 1 unary → (t : ExprView) (rest : List Lexeme) → Fits t depth →
    rank t ≤ 3 → Stops 4 rest →
    comparison_with unary (spelling t ++ rest) ≡ Some (t, rest)
comparison_plain depth unary s t rest f low stops =
    ap (λ r. r >>= after_sum unary) ((sum_complete depth unary s).complete t rest f low (stops_less 3 4 rest (omega arith) stops))
    ∙ ap (λ r. with_some r (Some (t, rest)) (λ op. right_operand_with (sum_with unary) t op.0 op.1)) (op_stops l.Comparison rest stops)

comparison_binary : (depth : ℕ) (unary : Reader ExprView) → IsComplete depth 1 unary → (op : Op) (a b : ExprView) (rest : List Lexeme) →
    Fits (ExprView.binary op a b) depth →
    rank_of op ≡ 4 → Stops 4 rest → comparison_with unary (spelling (ExprView.binary op a b) ++ rest) ≡ Some (ExprView.binary op a b, rest)
comparison_binary depth unary s op a b rest f e stops =
    let r = op_read l.Comparison op e in
    let ws : List Lexeme = spelling b ++ rest in
    let sum = sum_complete depth unary s in
    let h : Stops 3 (Lexeme.symbol (op_symbol op) ∷ ws) = omega (arith, binds_op_symbol op) in
    let first : an_operator l.Comparison (Lexeme.symbol (op_symbol op) ∷ ws) ≡ Some (op, ws) = ap (λ r. r >>= λ op. Some (op, ws)) r.reads in
    ap (comparison_with unary) (append_assoc (spelling a) (Lexeme.symbol (op_symbol op) ∷ spelling b) rest)
    ∙ (ap (λ r. r >>= after_sum unary) (sum.complete a (Lexeme.symbol (op_symbol op) ∷ ws) f.1 (r.left (rank a) (rank b) f.0) h)
    ∙ (ap (λ r. with_some r (Some (a, Lexeme.symbol (op_symbol op) ∷ ws)) (λ op. right_operand_with (sum_with unary) a op.0 op.1)) first
    ∙ right_back depth (sum_with unary) sum op a b rest f.2 (r.right (rank a) (rank b) f.0) (stops_less 3 4 rest (omega arith) stops)))

comparison_member : (depth : ℕ) (unary : Reader ExprView) → IsComplete depth 1 unary →
    (k : Membership) (a : ExprView) (xs : SetView) (rest : List Lexeme) →
    Fits (ExprView.member k a xs) depth → comparison_with unary (spelling (ExprView.member k a xs) ++ rest) ≡ Some (ExprView.member k a xs, rest)
comparison_member depth unary s k a xs rest f =
    let ws : List Lexeme = spelling_set xs ++ rest in
    ap (comparison_with unary) (append_assoc (spelling a) (Lexeme.symbol (membership_symbol k) ∷ spelling_set xs) rest)
    ∙ (ap (λ r. r >>= after_sum unary) ((sum_complete depth unary s).complete a (Lexeme.symbol (membership_symbol k) ∷ ws) f.1 f.0
    (member_stops k ws))
    ∙ (ap (λ r. with_some r (Some (a, Lexeme.symbol (membership_symbol k) ∷ ws)) (λ op. right_operand_with (sum_with unary) a op.0 op.1))
    (member_first k ws)
    ∙ member_back (sum_with unary) k a xs rest f.2))
  where
    member_stops : (k : Membership) (ws : List Lexeme) → Stops 3 (Lexeme.symbol (membership_symbol k) ∷ ws)
    member_stops membership.In ws = omega arith
    member_stops membership.NotIn ws = omega arith

pub comparison_at : (depth : ℕ) (unary : Reader ExprView) → IsComplete depth 1 unary → (t : ExprView) (rest : List Lexeme) → Fits t depth →
    rank t ≤ 4 → Stops 4 rest →
    comparison_with unary (spelling t ++ rest) ≡ Some (t, rest)
comparison_at depth unary s (ExprView.binary op a b) rest f low stops = elim (eq-or-lt_of_le low) [
  | inl e ↦ comparison_binary depth unary s op a b rest f e stops
  | inr h ↦ comparison_plain depth unary s (ExprView.binary op a b) rest f (omega arith) stops
]
comparison_at depth unary s (ExprView.member k a xs) rest f low stops = comparison_member depth unary s k a xs rest f
comparison_at depth unary s (ExprView.number n) rest f low stops = comparison_plain depth unary s (ExprView.number n) rest f (omega arith) stops
comparison_at depth unary s (ExprView.address a) rest f low stops = comparison_plain depth unary s (ExprView.address a) rest f (omega arith) stops
comparison_at depth unary s (ExprView.prefix p) rest f low stops = comparison_plain depth unary s (ExprView.prefix p) rest f (omega arith) stops
comparison_at depth unary s (ExprView.truth b) rest f low stops = comparison_plain depth unary s (ExprView.truth b) rest f (omega arith) stops
comparison_at depth unary s (ExprView.name text) rest f low stops = comparison_plain depth unary s (ExprView.name text) rest f (omega arith) stops
comparison_at depth unary s (ExprView.attribute a) rest f low stops = comparison_plain depth unary s (ExprView.attribute a) rest f (omega arith) stops
comparison_at depth unary s (ExprView.defined a) rest f low stops = comparison_plain depth unary s (ExprView.defined a) rest f (omega arith) stops
comparison_at depth unary s (ExprView.group inner) rest f low stops = comparison_plain depth unary s (ExprView.group inner) rest f (omega arith) stops
comparison_at depth unary s (ExprView.negation inner) rest f low stops = comparison_plain depth unary s (ExprView.negation inner) rest f
    (omega arith) stops
comparison_at depth unary s (ExprView.suffixed inner x) rest f low stops = comparison_plain depth unary s (ExprView.suffixed inner x) rest f
    (omega arith) stops

pub comparison_complete : (depth : ℕ) (unary : Reader ExprView) → IsComplete depth 1 unary → IsComplete depth 4 (comparison_with unary)
comparison_complete depth unary s = record { complete = comparison_at depth unary s }
