-- How the range of an int that is refused is told. (This project's own choice.)
use Rattle.std.specs.Prelude.{◌≡◌, ℕ, List, [], ◌++◌, Option, Some, None, codes, decimal}
use Rattle.filter_source.specs.Refusals.{refusal_code}
use Rattle.filter_source.specs.declared.diagnosis.Diagnosis.{Diagnosis}
use Rattle.filter_source.specs.declared.refusal.Refusal.{Refusal}
use Rattle.filter_verifier.specs.Ranges.{RangeView}
use Rattle.refusal_words.specs.Shown.{shown}

-- what is said of a range besides its bounds: that no condition narrows it, and where more is said
unfoldable pub whatever_before : List ℕ
whatever_before = codes " here, whatever the conditions before it"

unfoldable pub see_page : List ℕ
see_page = codes "; see `ncroute explain "

-- which page says more of a code
abbrev pub page_text : List ℕ → List ℕ
page_text code = see_page ++ code ++ codes "`"

-- the least and the greatest value, behind what is said of the refusal, and which page says more
abbrev pub range_text : Refusal → Option RangeView → List ℕ
range_text why None = []
range_text why (Some range) = codes ": it is " ++ decimal range.low ++ codes ".." ++ decimal range.high
    ++ whatever_before ++ page_text (refusal_code why)

-- some words as they are shown, and then the range that is told, if there is one
abbrev pub EndsInRange : Diagnosis → List ℕ → Type 0
EndsInRange diagnosis words = (plain : List ℕ) × (words ≡ shown plain ++ range_text diagnosis.refusal diagnosis.range)
