-- The parts of the routes on which two filters differ. (This project's own choice.)
use Rattle.std.specs.Prelude.{◌≡◌, ℕ, List, [], All}
use Rattle.filter_code.specs.CodeView.{CodeView}
use Rattle.filter_diff.specs.Parts.{Cover, IsDecided, IsEnough, IsReal, IsTrueOf}
use Rattle.filter_diff.specs.declared.route_part.RoutePart.{RoutePart}
use Rattle.filter_differences.specs.PartLines.{parts_text}

-- These are parts of the routes outside of which the two codes have the same outcome; each has a route, and on each of its routes holds
-- what is found of it. None is undecided where the limit leaves out no class of routes. Equal codes have no parts, whatever the limit is.
pub record AreParts (old new : CodeView) (size limit : ℕ) (parts : List RoutePart) : Type 0 where
  pub complete : Cover old new size parts
  pub sound : All (IsTrueOf old new size) parts
  pub real : All (IsReal size) parts
  pub decided : IsEnough size limit → All IsDecided parts
  pub none : old ≡ new → parts ≡ []

-- such parts are told in lines
abbrev pub TellsParts : CodeView → CodeView → ℕ → ℕ → List ℕ → Type 0
TellsParts old new size limit text = (parts : List RoutePart) × AreParts old new size limit parts × (text ≡ parts_text size parts)
