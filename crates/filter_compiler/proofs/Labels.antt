-- The parts of a `case` that have a label of ranges.
use Rattle.std.proofs.Common.{◌≡◌, ℕ, zero, suc, ◌+◌, ◌<◌, ◌≤◌, Bool, true, false, Vec, Global}
use Rattle.std.proofs.Common.{List, [], ◌∷◌, length, map, get_or, refl, sym, ap, ◌∙◌}
use Rattle.std.proofs.Common.{add-one, arith}
use Rattle.std.proofs.Math.ListN.{drop}
use Rattle.std.proofs.Math.Seq.{drop-cons}
use Rattle.filter_syntax.specs.SyntaxCommands.{commands_of, parts_of, part_then, view_command, view_label, view_part}
use Rattle.filter_syntax.specs.declared.tree.command.Command.{Command}
use Rattle.filter_syntax.specs.declared.tree.command.Label.{Label}
use Rattle.filter_syntax.specs.declared.tree.command.Label.TheVariants as label
use Rattle.filter_syntax.specs.declared.tree.set.SetRange.{SetRange}
use Rattle.filter_compiler.specs.Translation.{has_labelled}

abbrev CasePart : Type 0
CasePart = Label × Vec Command Global

abbrev pub some_label : List CasePart → Bool
some_label parts = has_labelled (parts_of (map view_part parts))

-- what is left of a list before one of its elements
pub rest_is : {X : Type 0} (xs : List X) (i : ℕ) (x : X) → i < length xs → x ≡ get_or xs i x → drop i xs ≡ x ∷ drop (i + 1) xs
rest_is xs i x low is =
    drop-cons xs i x low ∙ (ap (λ y. y ∷ drop (suc i) xs) (sym is) ∙ ap (λ n. x ∷ drop n xs) (sym (add-one i)))

pub labelled_here : (xs : List CasePart) (i : ℕ) (x : CasePart) (ranges : Vec SetRange Global) → i < length xs → x ≡ get_or xs i x
    → x.0 ≡ label.Ranges ranges → some_label (drop i xs) ≡ true
labelled_here xs i x ranges low is ranged =
    ap some_label (rest_is xs i x low is)
    ∙ ap (λ l. has_labelled (part_then (view_label l) (commands_of (map view_command x.1.items)) (parts_of (map view_part (drop (i + 1) xs))))) ranged

pub labelled_later : (xs : List CasePart) (i : ℕ) (x : CasePart) (at : ℕ) → i < length xs → x ≡ get_or xs i x
    → x.0 ≡ label.Else at → some_label (drop i xs) ≡ some_label (drop (i + 1) xs)
labelled_later xs i x at low is other =
    ap some_label (rest_is xs i x low is)
    ∙ ap (λ l. has_labelled (part_then (view_label l) (commands_of (map view_command x.1.items)) (parts_of (map view_part (drop (i + 1) xs))))) other

pub labelled_end : (xs : List CasePart) (i : ℕ) → length xs ≤ i → some_label (drop i xs) ≡ false
labelled_end [] i past = nothing_left i
  where
    nothing_left : (i : ℕ) → some_label (drop i []) ≡ false
    nothing_left zero = refl
    nothing_left (suc i) = refl
labelled_end (x ∷ xs) zero past = absurd (omega arith)
labelled_end (x ∷ xs) (suc i) past = labelled_end xs i (omega arith)
