-- The places of the instructions of commands, part by part.
use Rattle.std.proofs.Common.{◌≡◌, ℕ, Box, Global, List, Vec, ◌∷◌, ◌++◌, Option, Some, None, map, [], refl, sym, ap, ◌∙◌}
use Rattle.std.proofs.Common.{append_assoc}
use Rattle.std.specs.Prelude.{flat_map}
use Rattle.std.proofs.lemmas.List.Folds.{flat_map-map}
use Rattle.filter_syntax.specs.declared.tree.command.Command.{Command}
use Rattle.filter_syntax.specs.declared.tree.command.Command.TheFolds.{fold-roll-Command}
use Rattle.filter_syntax.specs.declared.tree.command.Command.TheOpen.{Command-F}
use Rattle.filter_syntax.specs.declared.tree.command.Command.TheVariants as command
use Rattle.filter_syntax.specs.declared.tree.command.Label.{Label}
use Rattle.filter_syntax.specs.declared.tree.command.Label.TheVariants as label
use Rattle.filter_syntax.specs.declared.tree.set.SetRange.{SetRange}
use Rattle.filter_syntax.specs.SyntaxCommands.{parts_of, view_part}
use Rattle.filter_syntax.specs.declared.tree.command.Target.{Target}
use Rattle.filter_syntax.specs.declared.tree.expr.Expr.{Expr}
use Rattle.filter_compiler.specs.InstructionPlaces.{case_places, command_places, command_places_step, expression_places}
use Rattle.filter_compiler.specs.InstructionPlaces.{label_place, part_of, part_places}
use Rattle.filter_compiler.specs.InstructionPlaces.{part_step, parts_places, some_labelled, target_places}
use Rattle.filter_compiler.specs.Translation.{has_labelled}

pub block_at : (x : Command) (at : ℕ) (body : Vec Command Global) (ys : List Command) → x ≡ command.Block at body → ys ≡ body.items
    → command_places x ≡ flat_map command_places ys
block_at x at body ys is is_body =
    ap command_places (is ∙ sym (command.rolls-Block at body))
    ∙ (fold-roll-Command (List ℕ) command_places_step (Command-F.Block at body)
    ∙ (flat_map-map (λ (places : List ℕ). places) command_places body.items ∙ ap (flat_map command_places) (sym is_body)))

pub if_at : (x : Command) (at : ℕ) (test : Expr) (chosen : Box Command Global) (other : Option (Box Command Global)) (y : Command)
    → x ≡ command.If at test chosen other → other ≡ None → y ≡ chosen.value
    → command_places x ≡ expression_places test ++ at ∷ command_places y
if_at x at test chosen other y is none is_chosen =
    ap command_places (is ∙ (ap (command.If at test chosen) none ∙ sym (command.rolls-If at test chosen None)))
    ∙ (fold-roll-Command (List ℕ) command_places_step (Command-F.If at test chosen None)
    ∙ ap (λ z. expression_places test ++ at ∷ command_places z) (sym is_chosen))

pub if_else_at : (x : Command) (at : ℕ) (test : Expr) (chosen : Box Command Global) (other : Option (Box Command Global))
    (second : Box Command Global) (y z : Command) → x ≡ command.If at test chosen other → other ≡ Some second → y ≡ chosen.value
    → z ≡ second.value
    → command_places x ≡ (expression_places test ++ at ∷ command_places y) ++ at ∷ command_places z
if_else_at x at test chosen other second y z is some is_chosen is_other =
    ap command_places (is ∙ (ap (command.If at test chosen) some ∙ sym (command.rolls-If at test chosen (Some second))))
    ∙ (fold-roll-Command (List ℕ) command_places_step (Command-F.If at test chosen (Some second))
    ∙ (ap (λ w. expression_places test ++ at ∷ (command_places w ++ at ∷ command_places second.value)) (sym is_chosen)
    ∙ (ap (λ w. expression_places test ++ at ∷ (command_places y ++ at ∷ command_places w)) (sym is_other)
    ∙ sym (append_assoc (expression_places test) (at ∷ command_places y) (at ∷ command_places z)))))

pub assign_at : (x : Command) (at : ℕ) (target : Target) (value : Expr) → x ≡ command.Assign at target value
    → command_places x ≡ expression_places value ++ target_places at target
assign_at x at target value is =
    ap command_places (is ∙ sym (command.rolls-Assign at target value))
    ∙ fold-roll-Command (List ℕ) command_places_step (Command-F.Assign at target value)

-- the parts of a `case`
parts_mapped : (f : Label × Vec Command Global → Label × Vec (List ℕ) Global)
    → ((p : Label × Vec Command Global) → part_step (f p) ≡ part_of p) → (parts : List (Label × Vec Command Global))
    → map part_step (map f parts) ≡ map part_of parts
parts_mapped f same [] = refl
parts_mapped f same (p ∷ parts) =
    ap (λ x. x ∷ map part_step (map f parts)) (same p) ∙ ap (λ (xs : List (Label × List ℕ)). part_of p ∷ xs) (parts_mapped f same parts)

pub case_at : (x : Command) (at : ℕ) (argument : Expr) (parts : Vec (Label × Vec Command Global) Global)
    (ys : List (Label × Vec Command Global)) → x ≡ command.Case at argument parts → ys ≡ parts.items
    → command_places x ≡ case_places at (expression_places argument) (map part_of ys)
case_at x at argument parts ys is are =
    ap command_places (is ∙ sym (command.rolls-Case at argument parts))
    ∙ (fold-roll-Command (List ℕ) command_places_step (Command-F.Case at argument parts)
    ∙ (ap (λ (xs : List (Label × List ℕ)). case_places at (expression_places argument) xs)
    (parts_mapped _ (λ p. ap (λ (l : List ℕ). (p.0, l)) (flat_map-map (λ (places : List ℕ). places) command_places p.1.items)) parts.items)
    ∙ ap (λ zs. case_places at (expression_places argument) (map part_of zs)) (sym are)))

pub else_places : (at : ℕ) (argument other : List ℕ) (x : Label × Vec Command Global) (place : ℕ) (more : List (Label × List ℕ))
    → x.0 ≡ label.Else place
    → parts_places at argument other (part_of x ∷ more) ≡ parts_places at argument (flat_map command_places x.1.items) more
else_places at argument other x place more is =
    ap (λ l. parts_places at argument other ((l, flat_map command_places x.1.items) ∷ more)) is

pub ranges_places : (at : ℕ) (argument other : List ℕ) (x : Label × Vec Command Global) (ranges : Vec SetRange Global)
    (more : List (Label × List ℕ)) → x.0 ≡ label.Ranges ranges
    → parts_places at argument other (part_of x ∷ more)
    ≡ part_places argument (label_place at ranges.items) (flat_map command_places x.1.items) (parts_places at argument other more)
ranges_places at argument other x ranges more is =
    ap (λ l. parts_places at argument other ((l, flat_map command_places x.1.items) ∷ more)) is

pub same_labelled : (parts : List (Label × Vec Command Global)) → some_labelled (map part_of parts) ≡ has_labelled (parts_of (map view_part parts))
same_labelled [] = refl
same_labelled ((label.Ranges ranges, commands) ∷ more) = refl
same_labelled ((label.Else place, commands) ∷ more) = same_labelled more
