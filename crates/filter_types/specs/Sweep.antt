-- Labels that are judged by a sweep over their ranges, which are in the order of their first numbers. (This project's own choice.)
use Rattle.std.specs.Prelude.{◌≢◌, ℕ, ◌+◌, ◌<◌, ◌≤◌, ◌==◌, ◌&&◌, nat_lt, if◌then◌else◌, Bool, true, false, not}
use Rattle.std.specs.Prelude.{List, [], ◌∷◌, ◌++◌, map, All}
use Rattle.int_sets.specs.Holding.{NumberRange, Holds}
use Rattle.std.specs.Prelude.{Vec}
use Rattle.std.specs.declared.alloc.Global.{Global}
use Rattle.filter_syntax.specs.Syntax.{range_of, view_range}
use Rattle.filter_syntax.specs.SyntaxCommands.{view_label}
use Rattle.filter_syntax.specs.declared.tree.command.Command.{Command}
use Rattle.filter_syntax.specs.declared.tree.command.Label.{Label}
use Rattle.filter_syntax.specs.declared.tree.set.SetRange.{SetRange}
use Rattle.filter_types.specs.Labels.{label_ranges}
use Rattle.filter_types.specs.declared.labels.Labelled.{Labelled}

-- the range that is meant, of one with its place
abbrev pub written_range : SetRange → NumberRange
written_range range = range_of (view_range range)

-- the ranges of the label of a part
abbrev pub part_ranges : Label × Vec Command Global → List NumberRange
part_ranges part = label_ranges (view_label part.0)

-- a range with the number of its label
abbrev pub labelled_range : ℕ → NumberRange → Labelled
labelled_range label range = record { label = label; range = range }

-- the ranges of labels, each with the number of its label
abbrev pub labelled : ℕ → List (List NumberRange) → List Labelled
labelled number [] = []
labelled number (label ∷ labels) = map (labelled_range number) label ++ labelled (number + 1) labels

-- a range does not end before it begins
abbrev pub IsOrdered : Labelled → Type 0
IsOrdered x = x.range.low ≤ x.range.high

-- no number is in both of two ranges
abbrev pub AreDisjoint : NumberRange → NumberRange → Type 0
AreDisjoint range other = (number : ℕ) → Holds number range → Holds number other → ⊥

-- two ranges share no number if they are of different labels, both before this one
abbrev pub AreApartBefore : ℕ → Labelled → Labelled → Type 0
AreApartBefore count x y = x.label < count → y.label < count → x.label ≢ y.label → AreDisjoint x.range y.range

-- labels before this one share no number
abbrev pub AreAllApartBefore : ℕ → List Labelled → Type 0
AreAllApartBefore count ranges = All (λ x. All (AreApartBefore count x) ranges) ranges

-- the range begins before this number, and is not of this label
abbrev pub meets : Labelled → ℕ → ℕ → Bool
meets x end label = nat_lt x.range.low end && not (x.label == label)

-- Of the ranges of labels before this one, none begins in that of another label before it. They follow on ranges of which the one that
-- ends last is of this label and ends before this number.
abbrev pub are_apart : ℕ → ℕ → ℕ → List Labelled → Bool
are_apart count end label [] = true
are_apart count end label (x ∷ xs) =
    if nat_lt x.label count then (
    if meets x end label then false
    else (if nat_lt end (x.range.high + 1) then are_apart count (x.range.high + 1) x.label xs else are_apart count end label xs)
    )
    else are_apart count end label xs
