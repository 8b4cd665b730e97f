-- What follows the first part of an operand, read level by level.
use Rattle.std.proofs.Common.{◌≡◌, ◌≢◌, refl, sym, ap, ◌∙◌, ℕ, zero, suc, ◌+◌, ◌-◌, ◌<◌, ◌≤◌, List, []}
use Rattle.std.proofs.Common.{◌∷◌, ◌++◌, map, append_assoc, Option, Some, None, inl, inr, arith}
use Rattle.std.proofs.Math.Nat.{eq-or-lt_of_le}
use Rattle.filter_tokens.specs.Lexemes.{Lexeme}
use Rattle.filter_tokens.specs.declared.symbol.Symbol.TheVariants as symbols
use Rattle.prefix_patterns.specs.Reading.{◌>>=◌}
use Rattle.expression_parser.specs.declared.expr_level.Level.{Level}
use Rattle.expression_parser.specs.declared.expr_level.Level.TheVariants as l
use Rattle.expression_parser.specs.Levels.{strength, level_at, least, most, IsBetween, operand_with, join_with}
use Rattle.expression_parser.specs.Levels.{compared_with, level_with, rest_down, rest_with}
use Rattle.expression_parser.specs.Readers.{Reader, symbol}
use Rattle.expression_parser.specs.Reading.{an_operator, chain_from, comparison_with, joins, level_by, level_of, product_with}
use Rattle.filter_syntax.specs.Placed.{Kept, expr_kept, expr_kept_step, joined, kept_more, operand_kept}
use Rattle.filter_syntax.specs.Syntax.{ExprView, view, view_expr_step}
use Rattle.filter_syntax.specs.declared.tree.expr.Expr.{Expr}
use Rattle.filter_syntax.specs.declared.tree.expr.Expr.TheFolds.{fold-roll-Expr}
use Rattle.filter_syntax.specs.declared.tree.expr.Expr.TheOpen.{Expr-F}
use Rattle.filter_syntax.specs.declared.tree.expr.Expr.TheVariants as e
use Rattle.filter_syntax.specs.declared.tree.op.Op.{Op}
use Rattle.std.specs.Prelude.{Box}
use Rattle.std.specs.declared.alloc.Global.{Global}
use Rattle.expression_parser.proofs.Chains.{chain_ends}
use Rattle.expression_parser.proofs.Placing.{right_kept, rights_kept}
use Rattle.expression_parser.proofs.Turns.{starts}

-- ---- the steps of an operand, after its first part

then_done : {A B : Type 0} (r : Option (A × B)) → r ≡ (r >>= λ x. Some (x.0, x.1))
then_done None = refl
then_done (Some x) = refl

then_one : {A B C : Type 0} (r : Option C) (f : C → Option (A × B)) → (r >>= f) ≡ (r >>= λ x. f x >>= λ y. Some (y.0, y.1))
then_one None f = refl
then_one (Some x) f = then_done (f x)

then_two : {A B : Type 0} (r : Option (A × B)) (f g : A × B → Option (A × B)) →
    ((r >>= f) >>= g) ≡ (r >>= λ x. f x >>= λ y. g y >>= λ z. Some (z.0, z.1))
then_two None f g = refl
then_two (Some x) f g = then_one (f x) g

then_three : {A B : Type 0} (r : Option (A × B)) (f g h : A × B → Option (A × B)) →
    (((r >>= f) >>= g) >>= h) ≡ (r >>= λ x. f x >>= λ y. g y >>= λ z. h z >>= λ v. Some (v.0, v.1))
then_three None f g h = refl
then_three (Some x) f g h = then_two (f x) g h

-- an operand, by its first part and what follows that
pub operand_read : (unary : Reader ExprView) (outer : Option Level) (ws : List Lexeme) (first : ExprView × List Lexeme) → unary ws ≡ Some first
    → operand_with unary outer ws ≡ rest_with unary outer None first.0 first.1
operand_read unary None ws first e = rw e (then_three (chain_from unary l.Product first.0 first.1)
    (λ x. chain_from (product_with unary) l.Sum x.0 x.1) (λ x. compared_with unary x.0 x.1) (λ x. join_with unary x.0 x.1))
operand_read unary (Some l.Or) ws first e = rw e (then_two (chain_from unary l.Product first.0 first.1)
    (λ x. chain_from (product_with unary) l.Sum x.0 x.1) (λ x. compared_with unary x.0 x.1))
operand_read unary (Some l.And) ws first e = rw e (then_two (chain_from unary l.Product first.0 first.1)
    (λ x. chain_from (product_with unary) l.Sum x.0 x.1) (λ x. compared_with unary x.0 x.1))
operand_read unary (Some l.Comparison) ws first e = rw e (then_one (chain_from unary l.Product first.0 first.1)
    (λ x. chain_from (product_with unary) l.Sum x.0 x.1))
operand_read unary (Some l.Sum) ws first e = rw e (then_done (chain_from unary l.Product first.0 first.1))
operand_read unary (Some l.Product) ws first e = e

-- an operand without its first part
pub operand_none : (unary : Reader ExprView) (outer : Option Level) (ws : List Lexeme) → unary ws ≡ None → operand_with unary outer ws ≡ None
operand_none unary None ws e = rw e refl
operand_none unary (Some l.Or) ws e = rw e refl
operand_none unary (Some l.And) ws e = rw e refl
operand_none unary (Some l.Comparison) ws e = rw e refl
operand_none unary (Some l.Sum) ws e = rw e refl
operand_none unary (Some l.Product) ws e = e

-- ---- levels

strength_at : (n : ℕ) → 0 < n → n ≤ 4 → strength (level_at n) ≡ n
strength_at zero h k = absurd (omega arith)
strength_at (suc zero) h k = refl
strength_at (suc (suc zero)) h k = refl
strength_at (suc (suc (suc zero))) h k = refl
strength_at (suc (suc (suc (suc zero)))) h k = refl
strength_at (suc (suc (suc (suc (suc n))))) h k = absurd (omega arith)

pub strength_most : (level : Level) → strength level ≤ 4
strength_most l.Or = omega arith
strength_most l.And = omega arith
strength_most l.Comparison = omega arith
strength_most l.Sum = omega arith
strength_most l.Product = omega arith

-- operators of a lesser strength can follow those of a level
pub most_after : (level : Level) → most (Some level) + 1 ≡ strength level
most_after l.Or = refl
most_after l.And = refl
most_after l.Comparison = refl
most_after l.Sum = refl
most_after l.Product = refl

most_within : (inner : Option Level) → most inner ≤ 4
most_within None = omega arith
most_within (Some level) = omega (arith, most_after level, strength_most level)

-- either chain of `&&` or `||` binds equally
pub join_strength : (ws : List Lexeme) → strength (level_of ws) ≡ 1
join_strength ws = go (symbol symbols.Or ws)
  where
    go : (r : Option (List Lexeme)) → strength (level_by r) ≡ 1
    go None = refl
    go (Some rest) = refl

level_same : (unary : Reader ExprView) (level : Level) → level_with unary (level_at (strength level)) ≡ level_with unary level
level_same unary l.Or = refl
level_same unary l.And = refl
level_same unary l.Comparison = refl
level_same unary l.Sum = refl
level_same unary l.Product = refl

-- ---- where no operator of a level comes first, the first operand of its operators stands alone

abbrev IsAbsent : List Lexeme → Level → Type 0
IsAbsent ws level = an_operator level ws ≡ None

chain_none : (next : Reader ExprView) (level : Level) (x : ExprView) (ws : List Lexeme) → IsAbsent ws level → chain_from next level x ws ≡ Some (x, ws)
chain_none next level x ws none = chain_ends next level none (starts (joins next level) x ws)

join_none : (unary : Reader ExprView) (x : ExprView) (ws : List Lexeme) → ((other : Level) → strength other ≡ 1 → IsAbsent ws other)
    → join_with unary x ws ≡ Some (x, ws)
join_none unary x ws h = rw (
  chain_none (comparison_with unary) (level_of ws) x ws (h (level_of ws) (join_strength ws)),
  h l.And refl,
  h l.Or refl,
) refl

level_none : (unary : Reader ExprView) (level : Level) (x : ExprView) (ws : List Lexeme)
    → ((other : Level) → strength other ≡ strength level → IsAbsent ws other) → level_with unary level x ws ≡ Some (x, ws)
level_none unary l.Or x ws h = join_none unary x ws h
level_none unary l.And x ws h = join_none unary x ws h
level_none unary l.Comparison x ws h = rw (h l.Comparison refl) refl
level_none unary l.Sum x ws h = chain_none (product_with unary) l.Sum x ws (h l.Sum refl)
level_none unary l.Product x ws h = chain_none unary l.Product x ws (h l.Product refl)

down_none : (unary : Reader ExprView) (b n : ℕ) (x : ExprView) (ws : List Lexeme) → b + n ≤ 4
    → ((level : Level) → b < strength level → strength level ≤ b + n → IsAbsent ws level) → rest_down unary b n x ws ≡ Some (x, ws)
down_none unary b zero x ws k h = refl
down_none unary b (suc n) x ws k h =
    let at : strength (level_at (b + suc n)) ≡ b + suc n = strength_at (b + suc n) (omega arith) (omega arith) in
    let here : level_with unary (level_at (b + suc n)) x ws ≡ Some (x, ws) =
    level_none unary (level_at (b + suc n)) x ws (λ other e. h other (omega arith) (omega arith)) in
    rw here (down_none unary b n x ws (omega arith) (λ level g m. h level g (omega arith)))

-- no operator follows that is between two levels
pub rest_ends : (unary : Reader ExprView) (outer inner : Option Level) (x : ExprView) (ws : List Lexeme)
    → ((level : Level) → IsBetween outer inner level → an_operator level ws ≡ None) → rest_with unary outer inner x ws ≡ Some (x, ws)
rest_ends unary outer inner x ws h = go (most inner - least outer) refl
  where
    go : (n : ℕ) → n ≡ most inner - least outer → rest_down unary (least outer) n x ws ≡ Some (x, ws)
    go zero e = refl
    go (suc n) e =
        let limit : most inner ≤ 4 = most_within inner in
        down_none unary (least outer) (suc n) x ws (omega arith) (λ level g m. h level (g, omega arith))

down_from : (unary : Reader ExprView) (b n m : ℕ) (level : Level) (x : ExprView) (ws : List Lexeme) → b + n ≤ 4 → b < strength level
    → strength level ≤ b + n → b + suc m ≡ strength level → ((other : Level) → other ≢ level → IsAbsent ws other)
    → rest_down unary b n x ws ≡ (level_with unary level x ws >>= λ y. rest_down unary b m y.0 y.1)
down_from unary b zero m level x ws k above below e h = absurd (omega arith)
down_from unary b (suc n) m level x ws k above below e h = elim (eq-or-lt_of_le below) [
  | inl same ↦
      let less : m ≡ n = omega arith in
      let here : level_at (b + suc n) ≡ level_at (strength level) = ap level_at (sym same) in
      rw (here, level_same unary level, less) refl
  | inr lower ↦
      let at : strength (level_at (b + suc n)) ≡ b + suc n = strength_at (b + suc n) (omega arith) (omega arith) in
      let here : level_with unary (level_at (b + suc n)) x ws ≡ Some (x, ws) =
      level_none unary (level_at (b + suc n)) x ws (λ other s. h other (λ same. absurd (omega (arith, ap strength same)))) in
      rw here (down_from unary b n m level x ws (omega arith) above (omega arith) e h)
]

-- an operator follows that is between two levels
rest_goes : (unary : Reader ExprView) (outer inner : Option Level) (level : Level) (x : ExprView) (ws : List Lexeme)
    → IsBetween outer inner level → ((other : Level) → other ≢ level → an_operator other ws ≡ None)
    → rest_with unary outer inner x ws ≡ (level_with unary level x ws >>= λ y. rest_with unary outer (Some level) y.0 y.1)
rest_goes unary outer inner level x ws between h =
    let limit : most inner ≤ 4 = most_within inner in
    let after : most (Some level) + 1 ≡ strength level = most_after level in
    let above : least outer < strength level = between.0 in
    let below : strength level ≤ most inner = between.1 in
    down_from unary (least outer) (most inner - least outer) (most (Some level) - least outer) level x ws (omega arith) above (omega arith) (omega arith) h

pub rest_on : (unary : Reader ExprView) (outer inner : Option Level) (level : Level) (x : ExprView) (ws : List Lexeme) (y : ExprView × List Lexeme)
    → IsBetween outer inner level → ((other : Level) → other ≢ level → an_operator other ws ≡ None) → level_with unary level x ws ≡ Some y
    → rest_with unary outer inner x ws ≡ rest_with unary outer (Some level) y.0 y.1
rest_on unary outer inner level x ws y between h e = rw e at (rest_goes unary outer inner level x ws between h)

pub rest_stops : (unary : Reader ExprView) (outer inner : Option Level) (level : Level) (x : ExprView) (ws : List Lexeme)
    → IsBetween outer inner level → ((other : Level) → other ≢ level → an_operator other ws ≡ None) → level_with unary level x ws ≡ None
    → rest_with unary outer inner x ws ≡ None
rest_stops unary outer inner level x ws between h e = rw e at (rest_goes unary outer inner level x ws between h)

-- ---- an expression of one operator

pub view_binary : (parts : Box (Expr × ℕ × Op × Expr) Global) →
    view (e.Binary parts) ≡ ExprView.binary parts.value.2 (view parts.value.0) (view parts.value.3)
view_binary parts = ap view (sym (e.rolls-Binary parts)) ∙ fold-roll-Expr ExprView view_expr_step (Expr-F.Binary parts)

pub kept_binary : (parts : Box (Expr × ℕ × Op × Expr) Global) →
    expr_kept (e.Binary parts) ≡ expr_kept parts.value.0 ++ Some parts.value.1 ∷ expr_kept parts.value.3
kept_binary parts = ap expr_kept (sym (e.rolls-Binary parts)) ∙ fold-roll-Expr Kept expr_kept_step (Expr-F.Binary parts)

-- a chain keeps what its first operator and the two operands of that keep, and what the other operators keep after them
pub more_kept : (first : Expr) (parts : Expr × ℕ × Op × Expr) (more all : List (ℕ × Op × Expr)) → first ≡ parts.0
    → all ≡ ((parts.1, parts.2, parts.3) ∷ []) ++ more
    → expr_kept first ++ joined (map operand_kept (kept_more all))
    ≡ (expr_kept parts.0 ++ Some parts.1 ∷ expr_kept parts.3) ++ joined (map right_kept more)
more_kept first parts more all e whole =
    let last : Kept = joined (map right_kept more) in
    ap (λ (k : Kept). expr_kept first ++ k) (rights_kept all ∙ ap (λ (xs : List (ℕ × Op × Expr)). joined (map right_kept xs)) whole)
    ∙ ap (λ (x : Expr). expr_kept x ++ ((Some parts.1 ∷ expr_kept parts.3) ++ last)) e
    ∙ sym (append_assoc (expr_kept parts.0) (Some parts.1 ∷ expr_kept parts.3) last)
