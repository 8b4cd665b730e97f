-- How much there is in commands, for the proof that they are gone through to the end.
use Rattle.std.proofs.Common.{◌≡◌, ℕ, zero, suc, ◌+◌, ◌<◌, ◌≤◌, Box, Vec, Global, List, [], ◌∷◌, length}
use Rattle.std.proofs.Common.{map, get_or, Option, Some, None, refl, sym, ap, ◌∙◌, arith}
use Rattle.std.specs.Prelude.{sum}
use Rattle.std.proofs.lemmas.List.Sums.{sum_by-cons}
use Rattle.filter_syntax.specs.declared.tree.command.Command.{Command}
use Rattle.filter_syntax.specs.declared.tree.command.Command.TheFolds.{fold-Command, fold-roll-Command}
use Rattle.filter_syntax.specs.declared.tree.command.Command.TheOpen.{Command-F}
use Rattle.filter_syntax.specs.declared.tree.command.Command.TheVariants as command
use Rattle.filter_syntax.specs.declared.tree.command.Label.{Label}
use Rattle.filter_syntax.specs.declared.tree.expr.Expr.{Expr}

abbrev part_step : Label × Vec ℕ Global → ℕ
part_step part = 3 + sum part.1.items

abbrev weight_step : Command-F ℕ → ℕ
weight_step (Command-F.Block at body) = 2 + sum body.items
weight_step (Command-F.If at test chosen None) = 1 + chosen.value
weight_step (Command-F.If at test chosen (Some other)) = 1 + (chosen.value + other.value)
weight_step (Command-F.Case at argument parts) = 6 + sum (map part_step parts.items)
weight_step _ = 1

abbrev pub weight : Command → ℕ
weight = fold-Command ℕ weight_step

abbrev pub commands_weight : List Command → ℕ
commands_weight commands = sum (map weight commands)

abbrev pub part_weight : Label × Vec Command Global → ℕ
part_weight part = 3 + commands_weight part.1.items

abbrev pub parts_weight : List (Label × Vec Command Global) → ℕ
parts_weight parts = sum (map part_weight parts)

pub block_weight : (x : Command) (at : ℕ) (body : Vec Command Global) → x ≡ command.Block at body → weight x ≡ 2 + commands_weight body.items
block_weight x at body is =
    ap weight (is ∙ sym (command.rolls-Block at body)) ∙ fold-roll-Command ℕ weight_step (Command-F.Block at body)

pub if_weight : (x : Command) (at : ℕ) (test : Expr) (chosen : Box Command Global) → x ≡ command.If at test chosen None
    → weight x ≡ 1 + weight chosen.value
if_weight x at test chosen is =
    ap weight (is ∙ sym (command.rolls-If at test chosen None)) ∙ fold-roll-Command ℕ weight_step (Command-F.If at test chosen None)

pub if_else_weight : (x : Command) (at : ℕ) (test : Expr) (chosen other : Box Command Global) → x ≡ command.If at test chosen (Some other)
    → weight x ≡ 1 + (weight chosen.value + weight other.value)
if_else_weight x at test chosen other is =
    ap weight (is ∙ sym (command.rolls-If at test chosen (Some other)))
    ∙ fold-roll-Command ℕ weight_step (Command-F.If at test chosen (Some other))

folded : (f : Label × Vec Command Global → Label × Vec ℕ Global) → ((p : Label × Vec Command Global) → part_step (f p) ≡ part_weight p)
    → (parts : List (Label × Vec Command Global)) → map part_step (map f parts) ≡ map part_weight parts
folded f same [] = refl
folded f same (p ∷ parts) =
    ap (λ x. x ∷ map part_step (map f parts)) (same p) ∙ ap (λ (xs : List ℕ). part_weight p ∷ xs) (folded f same parts)

pub case_weight : (x : Command) (at : ℕ) (argument : Expr) (parts : Vec (Label × Vec Command Global) Global)
    → x ≡ command.Case at argument parts → weight x ≡ 6 + parts_weight parts.items
case_weight x at argument parts is =
    ap weight (is ∙ sym (command.rolls-Case at argument parts))
    ∙ (fold-roll-Command ℕ weight_step (Command-F.Case at argument parts)
    ∙ ap (λ (xs : List ℕ). 6 + sum xs) (folded _ (λ p. refl) parts.items))

-- the first of a list weighs what the others do not
pub commands_cons : (x : Command) (xs : List Command) → commands_weight (x ∷ xs) ≡ weight x + commands_weight xs
commands_cons x xs = sum_by-cons (λ (n : ℕ). n) (weight x) (map weight xs)

pub parts_cons : (p : Label × Vec Command Global) (ps : List (Label × Vec Command Global))
    → parts_weight (p ∷ ps) ≡ part_weight p + parts_weight ps
parts_cons p ps = sum_by-cons (λ (n : ℕ). n) (part_weight p) (map part_weight ps)

-- an element weighs no more than its list
pub one_weight : (xs : List Command) (i : ℕ) (x : Command) → i < length xs → x ≡ get_or xs i x → weight x ≤ commands_weight xs
one_weight [] i x low is = absurd (omega arith)
one_weight (y ∷ xs) zero x low is = let e : weight x ≡ weight y = ap weight is in omega (arith, commands_cons y xs)
one_weight (y ∷ xs) (suc i) x low is =
    let rest : weight x ≤ commands_weight xs = one_weight xs i x (omega arith) is in omega (arith, commands_cons y xs)

-- what an `if` chooses from weighs less than the `if`
pub chosen_lighter : (x : Command) (at : ℕ) (test : Expr) (chosen : Box Command Global) (other : Option (Box Command Global))
    → x ≡ command.If at test chosen other → weight chosen.value < weight x
chosen_lighter x at test chosen None is = let e = if_weight x at test chosen is in omega (arith, e)
chosen_lighter x at test chosen (Some other) is = let e = if_else_weight x at test chosen other is in omega (arith, e)

pub other_lighter : (x : Command) (at : ℕ) (test : Expr) (chosen other : Box Command Global)
    → x ≡ command.If at test chosen (Some other) → weight other.value < weight x
other_lighter x at test chosen other is = let e = if_else_weight x at test chosen other is in omega (arith, e)
