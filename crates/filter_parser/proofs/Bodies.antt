-- The loop over commands, beside the function that reads them.
use Rattle.std.proofs.Common.{◌≡◌, ℕ, zero, suc, ◌-◌, ◌<◌, List, [], ◌∷◌, ◌++◌, length, map, Option, Some, None, true, false, refl}
use Rattle.std.proofs.Common.{sym, ap, ◌∙◌, arith}
use Rattle.filter_tokens.specs.Lexemes.{Lexeme}
use Rattle.filter_parser.specs.ReadingCommands.{commands_from, commands_with, command_begins, command_with}
use Rattle.filter_parser.specs.ReadingCommands.{command_at, block_at, case_at, case_with, if_at, if_with}
use Rattle.expression_parser.specs.Readers.{Reader}
use Rattle.expression_parser.specs.Reading.{expr_at}
use Rattle.prefix_patterns.specs.Reading.{◌>>=◌}
use Rattle.filter_syntax.specs.SyntaxCommands.{CommandView, CommandsView, commands_of}

-- a command where this many more levels may nest, by its first lexeme
pub command_is : (depth : ℕ) (ws : List Lexeme) → command_at depth ws ≡ command_with (expr_at depth) (block_at depth) (if_at depth) (case_at depth) ws
unfolding command_at
command_is zero ws = refl
command_is (suc depth) ws = refl

-- an `if` where a level is left
pub if_is : (depth : ℕ) (ws : List Lexeme) → 0 < depth → if_at depth ws ≡ if_with (expr_at (depth - 1)) (command_at (depth - 1)) ws
if_is zero ws some = absurd (omega arith)
if_is (suc depth) ws some =
    let same : depth ≡ suc depth - 1 = omega arith in
    ap (λ (n : ℕ). if_with (expr_at n) (command_at n) ws) same

-- a `case` where a level is left
pub case_is : (depth : ℕ) (ws : List Lexeme) → 0 < depth → case_at depth ws ≡ case_with (expr_at (depth - 1)) (command_at (depth - 1)) ws
case_is zero ws some = absurd (omega arith)
case_is (suc depth) ws some =
    let same : depth ≡ suc depth - 1 = omega arith in
    ap (λ (n : ℕ). case_with (expr_at n) (command_at n) ws) same

-- commands before others
abbrev pub before : List CommandView → CommandsView → CommandsView
before [] more = more
before (x ∷ xs) more = CommandsView.command_then x (before xs more)

abbrev pub with_front : List CommandView → Option (CommandsView × List Lexeme) → Option (CommandsView × List Lexeme)
with_front xs r = r >>= λ more. Some (before xs more.0, more.1)

-- the loop has made these commands, and the rest is read in turns enough
pub record Goes (command : Reader CommandView) (xs : List CommandView) (ws : List Lexeme) (total : Option (CommandsView × List Lexeme)) : Type 0 where
  pub turns : ℕ
  pub enough : length ws < turns
  pub same : with_front xs (commands_from command turns ws) ≡ total

nothing_before : (r : Option (CommandsView × List Lexeme)) → with_front [] r ≡ r
nothing_before None = refl
nothing_before (Some x) = refl

one_more : (xs : List CommandView) (x : CommandView) (more : CommandsView) → before (xs ++ x ∷ []) more ≡ before xs (CommandsView.command_then x more)
one_more [] x more = refl
one_more (y ∷ xs) x more = ap (CommandsView.command_then y) (one_more xs x more)

all_of : (xs : List CommandView) → before xs CommandsView.no_commands ≡ commands_of xs
all_of [] = refl
all_of (x ∷ xs) = ap (CommandsView.command_then x) (all_of xs)

regroup : (xs : List CommandView) (x : CommandView) (r : Option (CommandsView × List Lexeme))
    → with_front xs (r >>= λ more. Some (CommandsView.command_then x more.0, more.1)) ≡ with_front (xs ++ x ∷ []) r
regroup xs x None = refl
regroup xs x (Some more) = ap (λ (all : CommandsView). Some (all, more.1)) (sym (one_more xs x more.0))

first_is : (command : Reader CommandView) (n : ℕ) (ws rest : List Lexeme) (x : CommandView) → command_begins ws ≡ true → command ws ≡ Some (x, rest)
    → commands_from command (suc n) ws ≡ (commands_from command n rest >>= λ more. Some (CommandsView.command_then x more.0, more.1))
first_is command n ws rest x none found = rw (none, found) refl

none_is : (command : Reader CommandView) (n : ℕ) (ws : List Lexeme) → command_begins ws ≡ true → command ws ≡ None → commands_from command (suc n) ws ≡ None
none_is command n ws none found = rw (none, found) refl

end_is : (command : Reader CommandView) (n : ℕ) (ws : List Lexeme) → command_begins ws ≡ false
    → commands_from command (suc n) ws ≡ Some (CommandsView.no_commands, ws)
end_is command n ws found = rw found refl

pub begins : (command : Reader CommandView) (ws : List Lexeme) → Goes command [] ws (commands_with command ws)
unfolding commands_with
begins command ws = record { turns = suc (length ws); enough = omega arith; same = nothing_before (commands_from command (suc (length ws)) ws) }

pub map_one : {A B : Type 0} (f : A → B) (xs : List A) (x : A) → map f (xs ++ x ∷ []) ≡ map f xs ++ f x ∷ []
map_one f [] x = refl
map_one {B = B} f (y ∷ xs) x = ap (λ (ys : List B). f y ∷ ys) (map_one f xs x)

pub goes_on : {command : Reader CommandView} {xs : List CommandView} {ws rest : List Lexeme} {total : Option (CommandsView × List Lexeme)} {x : CommandView}
    → Goes command xs ws total → command_begins ws ≡ true → command ws ≡ Some (x, rest) → length rest < length ws
    → Goes command (xs ++ x ∷ []) rest total
goes_on {command} {xs} {ws} {rest} {total} {x} g none found lt =
    let enough : length ws < g.turns = g.enough in
    let n : ℕ = g.turns - 1 in
    let is_suc : suc n ≡ g.turns = omega arith in
    record {
      turns = n;
      enough = omega arith;
      same = sym (regroup xs x (commands_from command n rest)) ∙ ap (with_front xs) (sym (first_is command n ws rest x none found))
          ∙ ap (λ (k : ℕ). with_front xs (commands_from command k ws)) is_suc ∙ g.same;
    }

pub stops : {command : Reader CommandView} {xs : List CommandView} {ws : List Lexeme} {total : Option (CommandsView × List Lexeme)}
    → Goes command xs ws total → command_begins ws ≡ true → command ws ≡ None → total ≡ None
stops {command} {xs} {ws} {total} g none found =
    let enough : length ws < g.turns = g.enough in
    let n : ℕ = g.turns - 1 in
    let is_suc : suc n ≡ g.turns = omega arith in
    sym g.same ∙ ap (λ (k : ℕ). with_front xs (commands_from command k ws)) (sym is_suc) ∙ ap (with_front xs) (none_is command n ws none found)

pub ends : {command : Reader CommandView} {xs : List CommandView} {ws : List Lexeme} {total : Option (CommandsView × List Lexeme)}
    → Goes command xs ws total → command_begins ws ≡ false → total ≡ Some (commands_of xs, ws)
ends {command} {xs} {ws} {total} g found =
    let enough : length ws < g.turns = g.enough in
    let n : ℕ = g.turns - 1 in
    let is_suc : suc n ≡ g.turns = omega arith in
    sym g.same ∙ ap (λ (k : ℕ). with_front xs (commands_from command k ws)) (sym is_suc) ∙ ap (with_front xs) (end_is command n ws found)
    ∙ ap (λ (all : CommandsView). Some (all, ws)) (all_of xs)
