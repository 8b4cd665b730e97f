-- The labels of a `case`: when two of them share a number. That none may share one with an earlier label is this project's own choice.
use Rattle.std.specs.Prelude.{ℕ, List, [], ◌∷◌, map, AllPairs}
use Rattle.int_sets.specs.Holding.{NumberRange, HoldsAny}
use Rattle.filter_syntax.specs.Syntax.{range_of}
use Rattle.filter_syntax.specs.SyntaxCommands.{LabelView, PartsView, ranges_label, else_label, no_parts, part_then}

-- the ranges of a label; `else` has none
abbrev pub label_ranges : LabelView → List NumberRange
label_ranges (ranges_label ranges) = map range_of ranges
label_ranges else_label = []

-- the ranges of each label, in the order of the parts
abbrev pub labels_of : PartsView → List (List NumberRange)
labels_of no_parts = []
labels_of (part_then label body more) = label_ranges label ∷ labels_of more

-- no number is in both of two labels
abbrev pub AreApart : List NumberRange → List NumberRange → Type 0
AreApart label other = (number : ℕ) → HoldsAny number label → HoldsAny number other → ⊥

-- no label shares a number with an earlier one
abbrev pub AreAllApart : List (List NumberRange) → Type 0
AreAllApart labels = AllPairs AreApart labels
