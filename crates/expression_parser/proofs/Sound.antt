-- What is read of an expression is spelled so, and fits.
use Rattle.std.proofs.Common.{◌≡◌, ◌≢◌, refl, sym, ap, subst, ◌∙◌, ℕ, zero, suc, ◌≤◌, List, [], ◌∷◌, ◌++◌, length, Option, Some, None}
use Rattle.std.proofs.Common.{inl, inr, append_assoc, arith}
use Rattle.filter_tokens.specs.Lexemes.{Lexeme}
use Rattle.filter_tokens.specs.declared.symbol.Symbol.{Symbol}
use Rattle.filter_tokens.specs.declared.symbol.Symbol.TheVariants as symbols
use Rattle.expression_parser.specs.declared.expr_level.Level.{Level}
use Rattle.expression_parser.specs.declared.expr_level.Level.TheVariants as l
use Rattle.filter_syntax.specs.declared.tree.op.Membership.{Membership}
use Rattle.filter_syntax.specs.declared.tree.op.Op.{Op}
use Rattle.filter_syntax.specs.declared.tree.op.Op.TheVariants as o
use Rattle.expression_parser.specs.Readers.{Reader, turns, refused, symbol}
use Rattle.expression_parser.specs.Reading.{op_of, an_operator, joins, chain_from, suffix_of, suffixes, set_of, group_with}
use Rattle.expression_parser.specs.Reading.{primary_with, postfix_with, not_with, unary_with, product_with, sum_with, membership_of, set_opening}
use Rattle.expression_parser.specs.Reading.{member_of, right_operand_with, comparison_with, level_by, level_of, unmixed, expr_with, unary_at}
use Rattle.expression_parser.specs.Reading.{expr_at}
use Rattle.filter_syntax.specs.Syntax.{ExprView, Fits, membership_symbol, rank, rank_of, op_symbol, spelling, spelling_set, spelling_suffix}
use Rattle.expression_parser.proofs.Operators.{FitsLeft, IsOp, op_found, side, top}
use Rattle.expression_parser.proofs.SoundSets.{atom_sound, set_sound}
use Rattle.expression_parser.proofs.SoundWords.{suffix_sound}
use Rattle.expression_parser.proofs.Steps.{bind_given, bind_some, symbol_found, some_is, with_some_cases}

-- what was read: it is spelled so, fits where this many more levels may nest, and binds at most so loosely
pub record Found (depth most : ℕ) (ws : List Lexeme) (x : ExprView × List Lexeme) : Type 0 where
  pub spelled : ws ≡ spelling x.0 ++ x.1
  pub fits : Fits x.0 depth
  pub low : rank x.0 ≤ most

-- a reading function finds only such trees
pub record IsSound (depth most : ℕ) (next : Reader ExprView) : Type 0 where
  pub sound : (ws : List Lexeme) (x : ExprView × List Lexeme) → next ws ≡ Some x → Found depth most ws x

-- the symbol of an operator that was found
pub an_operator_found : (level : Level) (ws : List Lexeme) (x : Op × List Lexeme) → an_operator level ws ≡ Some x →
    (ws ≡ Lexeme.symbol (op_symbol x.0) ∷ x.1) × IsOp level (op_symbol x.0) x.0
an_operator_found level [] x e = absurd (cc)
an_operator_found level (Lexeme.symbol k ∷ ws) x e =
    let (op, e1, e2) = bind_some (op_of level k) _ x e in
    let a = op_found level k op e1 in
    let P : (Op × List Lexeme) → Type 0 = λ y. (Lexeme.symbol k ∷ ws ≡ Lexeme.symbol (op_symbol y.0) ∷ y.1) × IsOp level (op_symbol y.0) y.0 in
    let Q : Symbol → Type 0 = λ n. IsOp level n op in
    subst P (some_is e2) (ap (λ n. Lexeme.symbol n ∷ ws) a.spelled, subst Q a.spelled a)
an_operator_found level (_ ∷ ws) x e = absurd (cc)

-- a chain so far, with what is left after it
record Chain (depth : ℕ) (level : Level) (all : List Lexeme) (x : ExprView × List Lexeme) : Type 0 where
  spelled : all ≡ spelling x.0 ++ x.1
  fits : Fits x.0 depth
  left : FitsLeft level (rank x.0)
  low : rank x.0 ≤ top level

chain_found : (level : Level) (a : ℕ) → a ≤ side level → (FitsLeft level a) × (a ≤ top level)
chain_found l.Product a h = (omega arith, omega arith)
chain_found l.Sum a h = (omega arith, omega arith)
chain_found l.Comparison a h = (omega arith, omega arith)
chain_found l.And a h = (omega arith, omega arith)
chain_found l.Or a h = ((omega arith, λ e. absurd (omega arith)), omega arith)

-- the operator that was read is at the left of the next
left_again : (level : Level) (op : Op) → level ≢ l.Comparison → rank_of op ≡ top level →
    (FitsLeft level (rank_of op)) × (rank_of op ≤ top level)
left_again l.Product op n e = (omega arith, omega arith)
left_again l.Sum op n e = (omega arith, omega arith)
left_again l.Comparison op n e = absurd (n refl)
left_again l.And op n e = (omega arith, omega arith)
left_again l.Or op n e = ((omega arith, λ f. absurd (omega arith)), omega arith)

chain_sound : (depth : ℕ) (level : Level) (next : Reader ExprView) → level ≢ l.Comparison → IsSound depth (side level) next →
    (n : ℕ) (all : List Lexeme)
    (x y : ExprView × List Lexeme) → Chain depth level all x → turns (joins next level) n x.0 x.1 ≡ Some y → Chain depth level all y
chain_sound depth level next other s zero all x y r e = let P : (ExprView × List Lexeme) → Type 0 = Chain depth level all in subst P (some_is e) r
chain_sound depth level next other s (suc n) all x y r e =
    let P : (ExprView × List Lexeme) → Type 0 = Chain depth level all in
    let (t, e1, e2) = bind_some (joins next level x.0 x.1) _ y e in
    elim (with_some_cases t _ _ y e2) [
      | inl p ↦ subst P (some_is p.1) r
      | inr p ↦ elim (with_some_cases (an_operator level x.1) _ _ t e1) [
        | inl q ↦ absurd (cc (p.1, q.1))
        | inr q ↦
            let (right, e3, e4) = bind_some (next q.0.1) _ t q.2 in
            let a = an_operator_found level x.1 q.0 q.1 in
            let b = s.sound q.0.1 right e3 in
            let again = left_again level q.0.0 other a.1.binds in
            let z : ExprView × List Lexeme = (ExprView.binary q.0.0 x.0 right.0, right.1) in
            let same : z ≡ p.0 = some_is (some_is e4 ∙ p.1) in
            let R : Chain depth level all z = record {
              spelled = r.spelled ∙ (ap (λ v. spelling x.0 ++ v) (a.0 ∙ ap (λ v. Lexeme.symbol (op_symbol q.0.0) ∷ v) b.spelled)
                  ∙ sym (append_assoc (spelling x.0) (Lexeme.symbol (op_symbol q.0.0) ∷ spelling right.0) right.1));
              fits = (a.1.sides (rank x.0) (rank right.0) r.left b.low, r.fits, b.fits);
              left = again.0;
              low = again.1;
            } in
            chain_sound depth level next other s n all p.0 y (subst P same R) p.2
      ]
    ]

-- a first operand, and a chain after it
level_sound : (depth : ℕ) (level : Level) (next : Reader ExprView) → level ≢ l.Comparison → IsSound depth (side level) next → (ws : List Lexeme)
    (first x : ExprView × List Lexeme) → Found depth (side level) ws first → chain_from next level first.0 first.1 ≡ Some x →
    Found depth (top level) ws x
level_sound depth level next other s ws first x f e =
    let a = chain_found level (rank first.0) f.low in
    let r = chain_sound depth level next other s (length first.1) ws first x
    (record { spelled = f.spelled; fits = f.fits; left = a.0; low = a.1 }) e in
    record { spelled = r.spelled; fits = r.fits; low = r.low }

product_sound : (depth : ℕ) (unary : Reader ExprView) → IsSound depth 1 unary → IsSound depth 2 (product_with unary)
product_sound depth unary s = record {
  sound = λ ws x e.
      let (first, e1, e2) = bind_some (unary ws) _ x e in
      level_sound depth l.Product unary (λ e. absurd (cc)) s ws first x (s.sound ws first e1) e2;
}

sum_sound : (depth : ℕ) (unary : Reader ExprView) → IsSound depth 1 unary → IsSound depth 3 (sum_with unary)
sum_sound depth unary s =
    let p = product_sound depth unary s in
    record {
      sound = λ ws x e.
          let (first, e1, e2) = bind_some (product_with unary ws) _ x e in
          level_sound depth l.Sum (product_with unary) (λ e. absurd (cc)) p ws first x (p.sound ws first e1) e2;
    }

membership_found : (op : Op) (k : Membership) → membership_of op ≡ Some k → op_symbol op ≡ membership_symbol k
membership_found o.Match k e = let P : Membership → Type 0 = λ k. symbols.Match ≡ membership_symbol k in subst P (some_is e) refl
membership_found o.NotMatch k e = let P : Membership → Type 0 = λ k. symbols.NotMatch ≡ membership_symbol k in subst P (some_is e) refl
membership_found _ k e = absurd (cc)

bracket_found : (op : Op) (ws : List Lexeme) (x : Membership × List Lexeme) → set_opening op ws ≡ Some x →
    (op_symbol op ≡ membership_symbol x.0) × (ws ≡ Lexeme.symbol symbols.LeftBracket ∷ x.1)
bracket_found op ws x e =
    let (k, e1, e2) = bind_given (membership_of op) ws _ x e in
    let (rest, e3, e4) = bind_some (symbol symbols.LeftBracket ws) _ x e2 in
    let P : (Membership × List Lexeme) → Type 0 = λ x. (op_symbol op ≡ membership_symbol x.0) × (ws ≡ Lexeme.symbol symbols.LeftBracket ∷ x.1) in
    subst P (some_is e4) (membership_found op k e1, symbol_found symbols.LeftBracket ws rest e3)

-- an operand and a set
member_sound : (depth : ℕ) (all : List Lexeme) (left : ExprView) (k : Membership) (ws : List Lexeme) (x : ExprView × List Lexeme) →
    all ≡ spelling left ++ (Lexeme.symbol (membership_symbol k) ∷ Lexeme.symbol symbols.LeftBracket ∷ ws) → Fits left depth → rank left ≤ 3 →
    member_of left k ws ≡ Some x → Found depth 4 all x
member_sound depth all left k ws x a f low e =
    let (xs, e1, e2) = bind_some (set_of ws) _ x e in
    let s = set_sound ws xs e1 in
    let P : (ExprView × List Lexeme) → Type 0 = Found depth 4 all in
    subst P (some_is e2) (record {
      spelled = a ∙ (ap (λ v. spelling left ++ (Lexeme.symbol (membership_symbol k) ∷ v)) s.spelled
          ∙ sym (append_assoc (spelling left) (Lexeme.symbol (membership_symbol k) ∷ spelling_set xs.0) xs.1));
      fits = (low, f, s.fits);
      low = omega arith;
    })

-- what follows a comparison operator
right_sound : (depth : ℕ) (sum : Reader ExprView) → IsSound depth 3 sum → (all : List Lexeme) (left : ExprView) (op : Op) (ws : List Lexeme)
    (x : ExprView × List Lexeme) → all ≡ spelling left ++ (Lexeme.symbol (op_symbol op) ∷ ws) → Fits left depth → rank left ≤ 3 →
    IsOp l.Comparison (op_symbol op) op → right_operand_with sum left op ws ≡ Some x → Found depth 4 all x
right_sound depth sum s all left op ws x a f low is e = elim (with_some_cases (set_opening op ws) _ _ x e) [
  | inr p ↦
      let b = bracket_found op ws p.0 p.1 in
      member_sound depth all left p.0.0 p.0.1 x
      (a ∙ (ap (λ v. spelling left ++ (Lexeme.symbol (op_symbol op) ∷ v)) b.1
      ∙ ap (λ v. spelling left ++ (Lexeme.symbol v ∷ Lexeme.symbol symbols.LeftBracket ∷ p.0.1)) b.0))
      f low p.2
  | inl p ↦
      let (right, e1, e2) = bind_some (sum ws) _ x p.1 in
      let b = s.sound ws right e1 in
      let P : (ExprView × List Lexeme) → Type 0 = Found depth 4 all in
      let most : rank_of op ≤ 4 = omega (arith, is.binds) in
      subst P (some_is e2) (record {
        spelled = a ∙ (ap (λ v. spelling left ++ (Lexeme.symbol (op_symbol op) ∷ v)) b.spelled
            ∙ sym (append_assoc (spelling left) (Lexeme.symbol (op_symbol op) ∷ spelling right.0) right.1));
        fits = (is.sides (rank left) (rank right.0) low b.low, f, b.fits);
        low = most;
      })
]

comparison_sound : (depth : ℕ) (unary : Reader ExprView) → IsSound depth 1 unary → IsSound depth 4 (comparison_with unary)
comparison_sound depth unary s =
    let p = sum_sound depth unary s in
    record {
      sound = λ ws x e.
          let (left, e1, e2) = bind_some (sum_with unary ws) _ x e in
          let f = p.sound ws left e1 in
          let P : (ExprView × List Lexeme) → Type 0 = Found depth 4 ws in
          elim (with_some_cases (an_operator l.Comparison left.1) _ _ x e2) [
            | inl q ↦ subst P (some_is q.1) (record { spelled = f.spelled; fits = f.fits; low = omega (arith, f.low) })
            | inr q ↦
                let a = an_operator_found l.Comparison left.1 q.0 q.1 in
                right_sound depth (sum_with unary) p ws left.0 q.0.0 q.0.1 x (f.spelled
                ∙ ap (λ v. spelling left.0 ++ v) a.0) f.fits f.low a.1 q.2
          ];
    }

join_sound : (depth : ℕ) (unary : Reader ExprView) → IsSound depth 1 unary → (r : Option (List Lexeme)) (ws : List Lexeme)
    (first x : ExprView × List Lexeme) →
    Found depth 4 ws first → chain_from (comparison_with unary) (level_by r) first.0 first.1 ≡ Some x → Found depth 6 ws x
join_sound depth unary s None ws first x f e =
    let g = level_sound depth l.And (comparison_with unary) (λ e. absurd (cc)) (comparison_sound depth unary s) ws first x f e in
    record { spelled = g.spelled; fits = g.fits; low = omega (arith, g.low) }
join_sound depth unary s (Some rest) ws first x f e =
    level_sound depth l.Or (comparison_with unary) (λ e. absurd (cc)) (comparison_sound depth unary s) ws first x f e

unmixed_found : (x y : ExprView × List Lexeme) → unmixed x.0 x.1 ≡ Some y → x ≡ y
unmixed_found x y e = elim (with_some_cases (an_operator l.And x.1) _ _ y e) [
  | inr p ↦ absurd (cc (p.2))
  | inl p ↦ elim (with_some_cases (an_operator l.Or x.1) _ _ y p.1) [ inr q ↦ absurd (cc (q.2)) | inl q ↦ some_is q.1 ]
]

pub expr_with_sound : (depth : ℕ) (unary : Reader ExprView) → IsSound depth 1 unary → IsSound depth 6 (expr_with unary)
expr_with_sound depth unary s = record {
  sound = λ ws x e.
      let (first, e1, e2) = bind_some (comparison_with unary ws) _ x e in
      let (whole, e3, e4) = bind_some (chain_from (comparison_with unary) (level_of first.1) first.0 first.1) _ x e2 in
      let P : (ExprView × List Lexeme) → Type 0 = Found depth 6 ws in
      subst P (unmixed_found whole x e4)
      (join_sound depth unary s (symbol symbols.Or first.1) ws first whole ((comparison_sound depth unary s).sound ws first e1) e3);
}

-- an operand so far, and its suffixes after it
suffixes_sound : (depth : ℕ) (n : ℕ) (all : List Lexeme) (x y : ExprView × List Lexeme) → Found depth 0 all x →
    turns suffixes n x.0 x.1 ≡ Some y →
    Found depth 0 all y
suffixes_sound depth zero all x y r e = let P : (ExprView × List Lexeme) → Type 0 = Found depth 0 all in subst P (some_is e) r
suffixes_sound depth (suc n) all x y r e =
    let P : (ExprView × List Lexeme) → Type 0 = Found depth 0 all in
    let (t, e1, e2) = bind_some (suffixes x.0 x.1) _ y e in
    elim (with_some_cases t _ _ y e2) [
      | inl p ↦ subst P (some_is p.1) r
      | inr p ↦ elim (with_some_cases (symbol symbols.Dot x.1) _ _ t e1) [
        | inl q ↦ absurd (cc (p.1, q.1))
        | inr q ↦
            let (found, e3, e4) = bind_some (suffix_of q.0) _ t q.2 in
            let b = suffix_sound q.0 found e3 in
            let z : ExprView × List Lexeme = (ExprView.suffixed x.0 found.0, found.1) in
            let same : z ≡ p.0 = some_is (some_is e4 ∙ p.1) in
            let R : Found depth 0 all z = record {
              spelled = r.spelled ∙ (ap (λ v. spelling x.0 ++ v) (symbol_found symbols.Dot x.1 q.0 q.1 ∙ b.spelled)
                  ∙ sym (append_assoc (spelling x.0) (spelling_suffix found.0) found.1));
              fits = (r.low, r.fits, b.fits);
              low = omega arith;
            } in
            suffixes_sound depth n all p.0 y (subst P same R) p.2
      ]
    ]

-- an expression in parentheses
record IsGroup (depth : ℕ) (expr : Reader ExprView) : Type 0 where
  groups : (ws : List Lexeme) (x : ExprView × List Lexeme) → group_with expr ws ≡ Some x → Found depth 0 (Lexeme.symbol symbols.LeftParen ∷ ws) x

no_group : (depth : ℕ) → IsGroup depth refused
no_group depth = record { groups = λ ws x e. absurd (cc) }

group_sound : (depth : ℕ) (expr : Reader ExprView) → IsSound depth 6 expr → IsGroup (suc depth) expr
group_sound depth expr s = record {
  groups = λ ws x e.
      let (inner, e1, e2) = bind_some (expr ws) _ x e in
      let (rest, e3, e4) = bind_some (symbol symbols.RightParen inner.1) _ x e2 in
      let f = s.sound ws inner e1 in
      let P : (ExprView × List Lexeme) → Type 0 = Found (suc depth) 0 (Lexeme.symbol symbols.LeftParen ∷ ws) in
      subst P (some_is e4) (record {
        spelled = ap (λ v. Lexeme.symbol symbols.LeftParen ∷ v) (f.spelled ∙ (ap (λ v. spelling inner.0 ++ v)
            (symbol_found symbols.RightParen inner.1 rest e3)
            ∙ sym (append_assoc (spelling inner.0) (Lexeme.symbol symbols.RightParen ∷ []) rest)));
        fits = f.fits;
        low = omega arith;
      });
}

postfix_sound : (depth : ℕ) (expr : Reader ExprView) → IsGroup depth expr → IsSound depth 0 (postfix_with expr)
postfix_sound depth expr s = record {
  sound = λ ws x e.
      let (first, e1, e2) = bind_some (primary_with expr ws) _ x e in
      let f : Found depth 0 ws first = elim (with_some_cases (symbol symbols.LeftParen ws) _ _ first e1) [
        | inl p ↦ let a = atom_sound ws first p.1 in record { spelled = a.spelled; fits = a.fits depth; low = a.low }
        | inr p ↦
            let Q : List Lexeme → Type 0 = λ v. Found depth 0 v first in
            subst Q (sym (symbol_found symbols.LeftParen ws p.0 p.1)) (s.groups p.0 first p.2)
      ] in
      suffixes_sound depth (length first.1) ws first x f e2;
}

-- an operand after `!`
record IsNot (depth : ℕ) (unary : Reader ExprView) : Type 0 where
  negates : (ws : List Lexeme) (x : ExprView × List Lexeme) → not_with unary ws ≡ Some x → Found depth 1 (Lexeme.symbol symbols.Not ∷ ws) x

no_not : (depth : ℕ) → IsNot depth refused
no_not depth = record { negates = λ ws x e. absurd (cc) }

not_sound : (depth : ℕ) (unary : Reader ExprView) → IsSound depth 1 unary → IsNot (suc depth) unary
not_sound depth unary s = record {
  negates = λ ws x e.
      let (inner, e1, e2) = bind_some (unary ws) _ x e in
      let f = s.sound ws inner e1 in
      let P : (ExprView × List Lexeme) → Type 0 = Found (suc depth) 1 (Lexeme.symbol symbols.Not ∷ ws) in
      subst P (some_is e2) (record { spelled = ap (λ v. Lexeme.symbol symbols.Not ∷ v) f.spelled; fits = (f.low, f.fits); low = omega arith });
}

unary_with_sound : (depth : ℕ) (expr unary : Reader ExprView) → IsGroup depth expr → IsNot depth unary → IsSound depth 1 (unary_with expr unary)
unary_with_sound depth expr unary g n = record {
  sound = λ ws x e.
      elim (with_some_cases (symbol symbols.Not ws) _ _ x e) [
        | inl p ↦ let a = (postfix_sound depth expr g).sound ws x p.1 in record {
          spelled = a.spelled;
          fits = a.fits;
          low = omega (arith, a.low);
        }
        | inr p ↦
            let Q : List Lexeme → Type 0 = λ v. Found depth 1 v x in
            subst Q (sym (symbol_found symbols.Not ws p.0 p.1)) (n.negates p.0 x p.2)
      ];
}

pub unary_sound : (depth : ℕ) → IsSound depth 1 (unary_at depth)
unfolding unary_at
unary_sound zero = unary_with_sound zero refused refused (no_group zero) (no_not zero)
unary_sound (suc depth) =
    let s = unary_sound depth in
    unary_with_sound (suc depth) (expr_with (unary_at depth)) (unary_at depth)
    (group_sound depth (expr_with (unary_at depth)) (expr_with_sound depth (unary_at depth) s))
    (not_sound depth (unary_at depth) s)

-- what is read as an expression is spelled so, and fits
pub expr_sound : (depth : ℕ) → IsSound depth 6 (expr_at depth)
expr_sound depth = expr_with_sound depth (unary_at depth) (unary_sound depth)
