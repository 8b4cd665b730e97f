-- The places of the instructions of a text's translation: of each, the place of the part that it translates. (This project's own
-- choice.)
use Rattle.std.specs.Prelude.{◌≡◌, ℕ, List}
use Rattle.filter_compiler.specs.InstructionPlaces.{places_of}
use Rattle.filter_syntax.specs.Placed.{IsPlaced}
use Rattle.filter_syntax.specs.SyntaxText.{IsText, view_filter}
use Rattle.filter_syntax.specs.declared.tree.filter.Filter.{Filter}

abbrev pub ArePlacesOf : List ℕ → List ℕ → Type 0
ArePlacesOf text places = (tree : Filter) × IsText text (view_filter tree) × IsPlaced text tree × (places ≡ places_of tree)
