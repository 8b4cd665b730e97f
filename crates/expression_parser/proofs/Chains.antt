-- The loops of the parser, turn by turn.
use Rattle.std.proofs.Common.{◌≡◌, ℕ, suc, Result, refl, sym, ap, subst, ◌∙◌, ◌<◌, ◌≤◌, List, [], ◌∷◌, ◌++◌, length, map, Option, Some, None}
use Rattle.filter_tokens.specs.Lexemes.{Lexeme}
use Rattle.filter_tokens.specs.declared.symbol.Symbol.TheVariants as symbols
use Rattle.expression_parser.specs.declared.expr_level.Level.{Level}
use Rattle.filter_syntax.specs.declared.tree.expr.Expr.{Expr}
use Rattle.filter_syntax.specs.declared.tree.op.Op.{Op}
use Rattle.filter_syntax.specs.declared.tree.op.Suffix.{Suffix}
use Rattle.expression_parser.specs.Reading.{set_opening, member_of, right_operand_with, group_with, primary_with, inner_at, expr_at, read_of}
use Rattle.expression_parser.specs.Reading.{chain_from, chain_with, comparison_with, join_from, level_by, level_of, unmixed}
use Rattle.expression_parser.specs.declared.fault.ParseFault.{ParseFault}
use Rattle.expression_parser.specs.declared.input.Input.{Input}
use Rattle.expression_parser.specs.Levels.{join_with}
use Rattle.expression_parser.specs.Readers.{Reader, Turn, turns, with_some, symbol}
use Rattle.expression_parser.specs.Reading.{a_set_pattern, adds_set_pattern, set_after_first, set_patterns_from}
use Rattle.expression_parser.specs.Reading.{joins, an_operator, suffix_of, suffixes}
use Rattle.prefix_patterns.specs.Reading.{◌>>=◌}
use Rattle.expression_parser.specs.Steps.{ReadsAs}
use Rattle.filter_syntax.specs.Syntax.{SetPatternView, ExprView, view, view_more}
use Rattle.expression_parser.proofs.Turns.{Goes, goes_on, ends, refuses}

pub map_one : {A B : Type 0} (f : A → B) (xs : List A) (x : A) → map f (xs ++ (x ∷ [])) ≡ map f xs ++ (f x ∷ [])
map_one f [] x = refl
map_one f (y ∷ xs) x = ap (λ v. f y ∷ v) (map_one f xs x)

pub more_one : (xs : List (ℕ × Op × Expr)) (at : ℕ) (op : Op) (right : Expr) →
    view_more (xs ++ ((at, op, right) ∷ [])) ≡ view_more xs ++ ((at, op, view right) ∷ [])
more_one [] at op right = refl
more_one (y ∷ xs) at op right = ap (λ v. (y.0, y.1, view y.2) ∷ v) (more_one xs at op right)

-- one more suffix was read
pub suffix_on : {x : ExprView} {s : Suffix} {ws rest after : List Lexeme} {answer : Option (ExprView × List Lexeme)} →
    symbol symbols.Dot ws ≡ Some rest → suffix_of rest ≡ Some (s, after) → length after < length ws →
    Goes suffixes x ws answer → Goes suffixes (ExprView.suffixed x s) after answer
suffix_on {x = x} {s = s} {ws = ws} {after = after} {answer = answer} dot found shorter g =
    goes_on suffixes x (ExprView.suffixed x s) ws after answer (rw dot (rw found refl)) shorter g

-- no dot follows
pub suffix_ends : {x : ExprView} {ws : List Lexeme} {answer : Option (ExprView × List Lexeme)} →
    symbol symbols.Dot ws ≡ None → Goes suffixes x ws answer → answer ≡ Some (x, ws)
suffix_ends {x = x} {ws = ws} {answer = answer} dot g = ends suffixes x ws answer (rw dot refl) g

-- what follows the dot is no suffix
pub suffix_stops : {x : ExprView} {ws rest : List Lexeme} {answer : Option (ExprView × List Lexeme)} →
    symbol symbols.Dot ws ≡ Some rest → suffix_of rest ≡ None → Goes suffixes x ws answer → answer ≡ None
suffix_stops {x = x} {ws = ws} {answer = answer} dot none g = refuses suffixes x ws answer refl (rw dot (rw none refl)) g

-- one more pattern was read
pub set_pattern_on : {xs : List SetPatternView} {x : SetPatternView} {ws rest after : List Lexeme} {answer : Option (List SetPatternView × List Lexeme)} →
    symbol symbols.Comma ws ≡ Some rest → a_set_pattern rest ≡ Some (x, after) → length after < length ws →
    Goes adds_set_pattern xs ws answer → Goes adds_set_pattern (xs ++ (x ∷ [])) after answer
set_pattern_on {xs = xs} {x = x} {ws = ws} {after = after} {answer = answer} comma found shorter g =
    goes_on adds_set_pattern xs (xs ++ (x ∷ [])) ws after answer (rw comma (rw found refl)) shorter g

-- no comma follows
pub set_pattern_ends : {xs : List SetPatternView} {ws : List Lexeme} {answer : Option (List SetPatternView × List Lexeme)} →
    symbol symbols.Comma ws ≡ None → Goes adds_set_pattern xs ws answer → answer ≡ Some (xs, ws)
set_pattern_ends {xs = xs} {ws = ws} {answer = answer} comma g = ends adds_set_pattern xs ws answer (rw comma refl) g

-- what follows the comma is no pattern
pub set_pattern_stops : {xs : List SetPatternView} {ws rest : List Lexeme} {answer : Option (List SetPatternView × List Lexeme)} →
    symbol symbols.Comma ws ≡ Some rest → a_set_pattern rest ≡ None → Goes adds_set_pattern xs ws answer → answer ≡ None
set_pattern_stops {xs = xs} {ws = ws} {answer = answer} comma none g = refuses adds_set_pattern xs ws answer refl (rw comma (rw none refl)) g

-- no bracket follows the patterns of a set
pub set_after_none : (first : SetPatternView) (xs : List SetPatternView) {ys : List SetPatternView} (ws : List Lexeme) {rest : List Lexeme} → xs ≡ first ∷ [] →
    set_patterns_from xs ws ≡ Some (ys, rest) → symbol symbols.RightBracket rest ≡ None → set_after_first first ws ≡ None
set_after_none first xs {ys} ws {rest} same read none =
    let of_one : set_patterns_from (first ∷ []) ws ≡ Some (ys, rest) = rw same at read in
    rw (of_one, none) refl

-- one more operator and operand were read
pub chain_on : (next : Reader ExprView) (level : Level) {x y : ExprView} {op : Op} {ws rest after : List Lexeme}
    {answer : Option (ExprView × List Lexeme)} →
    an_operator level ws ≡ Some (op, rest) → next rest ≡ Some (y, after) → length after < length ws →
    Goes (joins next level) x ws answer → Goes (joins next level) (ExprView.binary op x y) after answer
chain_on next level {x = x} {y = y} {op = op} {ws = ws} {after = after} {answer = answer} op_symbol found shorter g =
    goes_on (joins next level) x (ExprView.binary op x y) ws after answer (rw op_symbol (rw found refl)) shorter g

-- no operator of the level follows
pub chain_ends : (next : Reader ExprView) (level : Level) {x : ExprView} {ws : List Lexeme} {answer : Option (ExprView × List Lexeme)} →
    an_operator level ws ≡ None → Goes (joins next level) x ws answer → answer ≡ Some (x, ws)
chain_ends next level {x = x} {ws = ws} {answer = answer} op_symbol g = ends (joins next level) x ws answer (rw op_symbol refl) g

-- no operand follows the operator
pub chain_stops : (next : Reader ExprView) (level : Level) {x : ExprView} {op : Op} {ws rest : List Lexeme} {answer : Option (ExprView × List Lexeme)} →
    an_operator level ws ≡ Some (op, rest) → next rest ≡ None → Goes (joins next level) x ws answer → answer ≡ None
chain_stops next level {x = x} {ws = ws} {answer = answer} op_symbol none g =
    refuses (joins next level) x ws answer refl (rw op_symbol (rw none refl)) g

-- neither a set nor a sum follows a comparison operator
pub right_none : (sum : Reader ExprView) (left : ExprView) (op : Op) (ws : List Lexeme) → set_opening op ws ≡ None → sum ws ≡ None →
    right_operand_with sum left op ws ≡ None
right_none sum left op ws b s =
    ap (λ r. with_some r (sum ws >>= λ right. Some (ExprView.binary op left right.0, right.1)) (λ k. member_of left k.0 k.1)) b
    ∙ ap (λ r. r >>= λ right. Some (ExprView.binary op left right.0, right.1)) s

-- an expression in parentheses
pub group_read : (r : Result (Expr × Input) ParseFault) (depth n : ℕ) (ws after : List Lexeme) → depth ≡ suc n
    → symbol symbols.LeftParen ws ≡ Some after → ReadsAs read_of r (group_with (expr_at n) after) → ReadsAs read_of r (primary_with (inner_at depth) ws)
group_read r depth n ws after e found h = rw (e, found) h

-- a chain of `&&` or of `||` has comparisons as its operands
join_is : (unary : Reader ExprView) (first : ExprView) (ws : List Lexeme)
    → join_from (comparison_with unary) first ws ≡ chain_with unary (level_of ws) first ws
join_is unary first ws = go (symbol symbols.Or ws)
  where
    go : (r : Option (List Lexeme)) → chain_from (comparison_with unary) (level_by r) first ws ≡ chain_with unary (level_by r) first ws
    go None = refl
    go (Some rest) = refl

-- a chain of `&&` or of `||`, by the kind that its first operator tells
pub join_read : (unary : Reader ExprView) (level : Level) (first : ExprView) (ws : List Lexeme) → level ≡ level_of ws
    → join_with unary first ws ≡ (chain_with unary level first ws >>= λ x. unmixed x.0 x.1)
join_read unary level first ws e = rw (e, sym (join_is unary first ws)) refl

-- the operators of a level after the first one, in any number of turns that is enough
pub more_read : (r : Result (Expr × Input) ParseFault) (turn : Turn ExprView) (x : ExprView) (ws : List Lexeme) (answer : Option (ExprView × List Lexeme))
    → Goes turn x ws answer → ((count : ℕ) → length ws ≤ count → ReadsAs read_of r (turns turn count x ws)) → ReadsAs read_of r answer
more_read r turn x ws answer g h = subst (λ (a : Option (ExprView × List Lexeme)). ReadsAs read_of r a) g.same (h g.count g.enough)
