-- Variables that are read before they are assigned: what is seen of a tree, and lists of commands one by one.
use Rattle.std.proofs.Common.{◌≡◌, ℕ, zero, suc, ◌+◌, ◌<◌, ◌≤◌, ◌||◌, ◌&&◌, not, Bool, true, false, Box, Global, List, [], ◌∷◌, Vec}
use Rattle.std.proofs.Common.{length, drop, get_or, map, refl, ap, sym, ◌∙◌, arith, add-one}
use Rattle.filter_syntax.specs.Syntax.{ExprView, chain_of, suffixes_of, view, view_expr_step, view_more}
use Rattle.filter_syntax.specs.declared.tree.expr.Expr.{Expr}
use Rattle.filter_syntax.specs.declared.tree.expr.Expr.TheFolds.{fold-roll-Expr}
use Rattle.filter_syntax.specs.declared.tree.expr.Expr.TheOpen.{Expr-F}
use Rattle.filter_syntax.specs.declared.tree.expr.Expr.TheVariants as e
use Rattle.filter_syntax.specs.declared.tree.op.Op.{Op}
use Rattle.filter_syntax.specs.declared.tree.op.Suffix.{Suffix}
use Rattle.filter_syntax.specs.SyntaxCommands.{CommandView, parts_of, view_command, view_part, view_part_step, view_step}
use Rattle.filter_syntax.specs.declared.tree.command.Command.{Command}
use Rattle.filter_syntax.specs.declared.tree.command.Command.TheFolds.{fold-roll-Command}
use Rattle.filter_syntax.specs.declared.tree.command.Command.TheOpen.{Command-F}
use Rattle.filter_syntax.specs.declared.tree.command.Command.TheVariants as command
use Rattle.filter_syntax.specs.declared.tree.command.Label.{Label}
use Rattle.bird_import.specs.Unassigned.{reads, reads_among}

-- ---- what is seen of a tree

pub view_binary : (x : Expr) (parts : Box (Expr × ℕ × Op × Expr) Global) (y : Expr × ℕ × Op × Expr) → x ≡ e.Binary parts → y ≡ parts.value
    → view x ≡ ExprView.binary y.2 (view y.0) (view y.3)
view_binary x parts y is are =
    ap view (is ∙ sym (e.rolls-Binary parts))
    ∙ fold-roll-Expr ExprView view_expr_step (Expr-F.Binary parts)
    ∙ ap (λ (z : Expr × ℕ × Op × Expr). ExprView.binary z.2 (view z.0) (view z.3)) (sym are)

pub view_grouped : (x : Expr) (at : ℕ) (parts : Box (Expr × ℕ × Op × Expr) Global) (y : Expr × ℕ × Op × Expr) → x ≡ e.GroupedBinary at parts
    → y ≡ parts.value → view x ≡ ExprView.group (ExprView.binary y.2 (view y.0) (view y.3))
view_grouped x at parts y is are =
    ap view (is ∙ sym (e.rolls-GroupedBinary at parts))
    ∙ fold-roll-Expr ExprView view_expr_step (Expr-F.GroupedBinary at parts)
    ∙ ap (λ (z : Expr × ℕ × Op × Expr). ExprView.group (ExprView.binary z.2 (view z.0) (view z.3))) (sym are)

pub view_chain : (x : Expr) (first : Box Expr Global) (more : Vec (ℕ × Op × Expr) Global) (y : Expr) (ys : List (ℕ × Op × Expr))
    → x ≡ e.Chain first more → y ≡ first.value → ys ≡ more.items
    → view x ≡ chain_of (view y) (view_more ys)
view_chain x first more y ys is is_first is_more =
    ap view (is ∙ sym (e.rolls-Chain first more))
    ∙ fold-roll-Expr ExprView view_expr_step (Expr-F.Chain first more)
    ∙ ap (λ z. chain_of (view z) (view_more more.items)) (sym is_first)
    ∙ ap (λ zs. chain_of (view y) (view_more zs)) (sym is_more)

pub view_suffixed : (x : Expr) (inner : Box Expr Global) (suffixes : Vec Suffix Global) (y : Expr)
    → x ≡ e.Suffixed inner suffixes → y ≡ inner.value → view x ≡ suffixes_of (view y) suffixes.items
view_suffixed x inner suffixes y is is_inner =
    ap view (is ∙ sym (e.rolls-Suffixed inner suffixes))
    ∙ fold-roll-Expr ExprView view_expr_step (Expr-F.Suffixed inner suffixes)
    ∙ ap (λ z. suffixes_of (view z) suffixes.items) (sym is_inner)

parts_folded : (f : Label × Vec Command Global → Label × Vec CommandView Global)
    → ((p : Label × Vec Command Global) → view_part_step (f p) ≡ view_part p) → (parts : List (Label × Vec Command Global))
    → map view_part_step (map f parts) ≡ map view_part parts
parts_folded f same [] = refl
parts_folded f same (p ∷ parts) = ap (λ x. x ∷ map view_part_step (map f parts)) (same p) ∙ ap (λ xs. view_part p ∷ xs) (parts_folded f same parts)

pub view_case : (x : Command) (at : ℕ) (argument : Expr) (parts : Vec (Label × Vec Command Global) Global) (ys : List (Label × Vec Command Global))
    → x ≡ command.Case at argument parts → ys ≡ parts.items
    → view_command x ≡ CommandView.case (view argument) (parts_of (map view_part ys))
view_case x at argument parts ys is is_parts =
    ap view_command (is ∙ sym (command.rolls-Case at argument parts))
    ∙ fold-roll-Command CommandView view_step (Command-F.Case at argument parts)
    ∙ ap (λ xs. CommandView.case (view argument) (parts_of xs)) (parts_folded _ (λ p. refl) parts.items)
    ∙ ap (λ zs. CommandView.case (view argument) (parts_of (map view_part zs))) (sym is_parts)

-- ---- tests, one after another

or_none : (a : Bool) → a ≡ (a || false)
or_none true = refl
or_none false = refl

or_regrouped : (a b c : Bool) → ((a || b) || c) ≡ (a || (b || c))
or_regrouped true b c = refl
or_regrouped false b c = refl

pub or_here : (a b all : Bool) → all ≡ (a || b) → true ≡ a → true ≡ all
or_here true b all is here = sym is
or_here false b all is here = absurd (cc)

pub or_next : (a b all : Bool) → all ≡ (a || b) → false ≡ a → all ≡ b
or_next false b all is here = is
or_next true b all is here = absurd (cc)

pub and_here : (a b all : Bool) → all ≡ (a && b) → false ≡ a → false ≡ all
and_here false b all is here = sym is
and_here true b all is here = absurd (cc)

pub and_next : (a b all : Bool) → all ≡ (a && b) → true ≡ a → all ≡ b
and_next true b all is here = is
and_next false b all is here = absurd (cc)

pub stops_here : (a b c all : Bool) → all ≡ (a || (not b && c)) → false ≡ a → true ≡ b → false ≡ all
stops_here false true c all is here stops = sym is
stops_here true b c all is here stops = absurd (cc)
stops_here false false c all is here stops = absurd (cc)

pub goes_on : (a b c all : Bool) → all ≡ (a || (not b && c)) → false ≡ a → false ≡ b → all ≡ c
goes_on false false c all is here stops = is
goes_on true b c all is here stops = absurd (cc)
goes_on false true c all is here stops = absurd (cc)

-- ---- expressions

pub reads_chain : (v : List ℕ) (left : ExprView) (more : List (ℕ × Op × ExprView)) → reads v (chain_of left more) ≡ (reads v left || reads_among v more)
reads_chain v left [] = or_none (reads v left)
reads_chain v left (x ∷ more) =
    reads_chain v (ExprView.binary x.1 left x.2) more ∙ or_regrouped (reads v left) (reads v x.2) (reads_among v more)

pub reads_suffixed : (v : List ℕ) (inner : ExprView) (suffixes : List Suffix) → reads v (suffixes_of inner suffixes) ≡ reads v inner
reads_suffixed v inner [] = refl
reads_suffixed v inner (s ∷ suffixes) = reads_suffixed v (ExprView.suffixed inner s) suffixes

-- ---- what is left of a list

drop_one : {A B : Type 0} (f : A → B) (xs : List A) (i : ℕ) (x : A) → i < length xs → x ≡ get_or xs i x
    → map f (drop i xs) ≡ f x ∷ map f (drop (suc i) xs)
drop_one f [] i x low is = absurd (omega arith)
drop_one f (y ∷ xs) zero x low is = ap (λ z. f z ∷ map f xs) (sym is)
drop_one f (y ∷ xs) (suc i) x low is = drop_one f xs i x (omega arith) is

pub drop_next : {A B : Type 0} (f : A → B) (xs : List A) (i : ℕ) (x : A) → i < length xs → x ≡ get_or xs i x
    → map f (drop i xs) ≡ f x ∷ map f (drop (i + 1) xs)
drop_next f xs i x low is = rw add-one (drop_one f xs i x low is)

pub drop_none : {A B : Type 0} (f : A → B) (xs : List A) (i : ℕ) → length xs ≤ i → map f (drop i xs) ≡ []
drop_none f [] zero low = refl
drop_none f [] (suc i) low = refl
drop_none f (x ∷ xs) zero low = absurd (omega arith)
drop_none f (x ∷ xs) (suc i) low = drop_none f xs i (omega arith)

-- what is known of all by those that are left, where one is, and where none is
pub one_left : {A B : Type 0} (f : A → B) (test : List B → Bool) (xs : List A) (i : ℕ) (x : A) (all : Bool) → i < length xs → x ≡ get_or xs i x
    → all ≡ test (map f (drop i xs)) → all ≡ test (f x ∷ map f (drop (i + 1) xs))
one_left f test xs i x all low is so_far = so_far ∙ ap test (drop_next f xs i x low is)

pub none_left : {A B : Type 0} (f : A → B) (test : List B → Bool) (xs : List A) (i : ℕ) (all : Bool) → length xs ≤ i
    → all ≡ test (map f (drop i xs)) → all ≡ test []
none_left f test xs i all low so_far = so_far ∙ ap test (drop_none f xs i low)
