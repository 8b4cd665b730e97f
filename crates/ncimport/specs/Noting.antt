-- What is said of a filter that is imported, beside that it is verified. (This project's own choice.)
use Rattle.std.specs.Prelude.{◌≡◌, ℕ, List, [], ◌∷◌, ◌++◌, Option, Some, None, codes, flat_map, unwrap_or}
use Rattle.bird_import.specs.Laying.{origin_of}
use Rattle.bird_import.specs.declared.text.Origin.{Origin}
use Rattle.filter_lint.specs.Sets.{overlapping_members}
use Rattle.filter_lint.specs.WarningLines.{code_of, words}
use Rattle.filter_lint.specs.declared.warning.Warning.{Warning}
use Rattle.refusal_words.specs.Explanations.{coded}
use Rattle.refusal_words.specs.Shown.{shown}
use Rattle.filter_reports.specs.VerifiedFilters.{IsVerifiedOf}
use Rattle.filter_source.specs.TextPlaces.{ArePlacesOf}
use Rattle.filter_verifier.specs.VerifiedView.{VerifiedView}
use Rattle.prefix_patterns.specs.Matching.{PrefixPattern}
use Rattle.ncimport.specs.Places.{ConfigView, place_of}

-- the place of a configuration from which a byte of a filter's text comes, and that of the filter where there is none
abbrev pub place_from : List Origin → ℕ → Option ℕ → ℕ
place_from origins at None = at
place_from origins at (Some byte) = unwrap_or (origin_of origins byte) at

-- the line of a warning of a filter of this name that begins at a place: where in the configuration the words come from that it is about, what is
-- said, and the code of the rule
abbrev pub note_line : ConfigView → List ℕ → ℕ → List Origin → List (List PrefixPattern) → Warning → List ℕ
note_line config name at origins sets warning = place_of config (place_from origins at (Some warning.byte)) ++ codes " filter " ++ shown name
    ++ codes ": " ++ coded (words sets warning.cause) (code_of warning.cause) ++ 10 ∷ []

-- those of all members of its sets that overlap
abbrev pub notes_text : ConfigView → List ℕ → ℕ → List ℕ → List Origin → VerifiedView → List ℕ → List ℕ
notes_text config name at text origins verified places = flat_map (note_line config name at origins verified.program.sets)
    (overlapping_members (record { text = text; program = verified.program; places = places; size = verified.size }))

-- These are the lines for a text that is verified for domains of a size.
pub record HasNotes (config : ConfigView) (name : List ℕ) (size at : ℕ) (text : List ℕ) (origins : List Origin) (notes : List ℕ) : Type 0 where
  pub verified : VerifiedView
  pub is : IsVerifiedOf size text verified
  pub places : List ℕ
  pub are_places : ArePlacesOf text places
  pub lines : notes ≡ notes_text config name at text origins verified places
