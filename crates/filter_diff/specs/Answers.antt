-- What parts of the routes come to.
use Rattle.std.specs.Prelude.{Bool, List, [], ◌∷◌, if◌then◌else◌}
use Rattle.std.specs.List.{list_any}
use Rattle.filter_diff.specs.Parts.{is_difference, is_undecided}
use Rattle.filter_diff.specs.declared.answer.Comparison.{Comparison}
use Rattle.filter_diff.specs.declared.answer.Comparison.TheVariants as answer
use Rattle.filter_diff.specs.declared.route_part.RoutePart.{RoutePart}

-- a part that differs, and one that is undecided
abbrev pub differs : RoutePart → Bool
differs part = is_difference part.finding

abbrev pub undecided : RoutePart → Bool
undecided part = is_undecided part.finding

-- the same where there are no parts, and otherwise a difference if one of them differs
abbrev pub answer_of : List RoutePart → Comparison
answer_of [] = answer.Same
answer_of (part ∷ parts) = if list_any differs (part ∷ parts) then answer.Differ else answer.Undecided
