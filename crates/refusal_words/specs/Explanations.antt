-- A refusal for people: where it is, in words, and the line with a caret under the place. (This project's own choice.)
use Rattle.std.specs.Prelude.{◌≡◌, ℕ, ◌+◌, ◌-◌, Bool, nat_lt, min, unwrap_or, if◌then◌else◌, List, [], ◌∷◌, ◌++◌}
use Rattle.std.specs.Prelude.{Option, Some, None, codes, decimal, drop, encode_utf8_all, flat_map, length, take}
use Rattle.std.specs.Option.{option_map}
use Rattle.filter_source.specs.Refusals.{refusal_code}
use Rattle.filter_source.specs.declared.diagnosis.Diagnosis.{Diagnosis}
use Rattle.filter_source.specs.declared.refusal.Refusal.{Refusal}
use Rattle.refusal_words.specs.Places.{before_first_feed, behind_last_feed, column_at, line_at}
use Rattle.refusal_words.specs.Ranges.{EndsInRange}
use Rattle.refusal_words.specs.Shown.{columns, columns_of, indent_of, shown, shown_characters}

-- a line and a column, each behind a colon
abbrev pub position : ℕ → ℕ → List ℕ
position line column = 58 ∷ [] ++ decimal line ++ 58 ∷ [] ++ decimal column

-- words, and a code behind them
abbrev pub coded : List ℕ → List ℕ → List ℕ
coded words code = words ++ codes " (" ++ code ++ 41 ∷ []

-- the same behind a place, to the end of the line
abbrev pub message : List ℕ → List ℕ → List ℕ
message words code = codes ": " ++ coded words code ++ 10 ∷ []

-- of a long line at most so many columns are shown at each side of the place, three of which are then dots
abbrev pub side : ℕ
side = 100

-- whether the characters of one side are not all shown
abbrev pub is_long : List ℕ → Bool
is_long characters = nat_lt side (columns characters)

-- what stands in place of the characters of one side that are not shown, and what stands below
abbrev pub dots_for : List ℕ → List ℕ
dots_for characters = if is_long characters then codes "..." else []

abbrev pub blanks_for : List ℕ → List ℕ
blanks_for characters = if is_long characters then codes "   " else []

-- the longest end of some characters that takes at most so many columns, and the longest front that does
abbrev pub end_within : ℕ → List ℕ → List ℕ
end_within most [] = []
end_within most (c ∷ cs) = if nat_lt most (columns (c ∷ cs)) then end_within most cs else c ∷ cs

abbrev pub front_within : ℕ → List ℕ → List ℕ
front_within most [] = []
front_within most (c ∷ cs) = if nat_lt most (columns_of c) then [] else c ∷ front_within (most - columns_of c) cs

-- the last characters before the place, and the first ones from it on
abbrev pub last_of : List ℕ → List ℕ
last_of characters = if is_long characters then end_within 97 characters else characters

abbrev pub first_of : List ℕ → List ℕ
first_of characters = if is_long characters then front_within 97 characters else characters

-- a line of two parts, and a caret under the first character of the second
abbrev pub excerpt_of : List ℕ → List ℕ → List ℕ
excerpt_of before behind = dots_for before ++ encode_utf8_all (last_of before) ++ encode_utf8_all (first_of behind) ++ dots_for behind ++ 10 ∷ []
    ++ blanks_for before ++ flat_map indent_of (last_of before) ++ 94 ∷ (10 ∷ [])

abbrev pub excerpt : List ℕ → List ℕ → List ℕ
excerpt before behind = excerpt_of (shown_characters before) (shown_characters behind)

-- the number of a line of a script, which is known
abbrev pub number_text : Option ℕ → List ℕ
number_text None = []
number_text (Some number) = 58 ∷ decimal number

-- what is said in some words under a code, by the byte of the text at which it stands
abbrev pub explained_at : List ℕ → Option ℕ → List ℕ → List ℕ → List ℕ → Option ℕ → List ℕ
explained_at name number text words code None = shown name ++ number_text number ++ message words code
explained_at name number text words code (Some at) =
    shown name ++ position (unwrap_or number (line_at text at)) (column_at text at) ++ message words code
    ++ excerpt (behind_last_feed (take at text)) (before_first_feed (drop at text))

-- the same of a refusal
abbrev pub explanation : List ℕ → Option ℕ → List ℕ → List ℕ → Refusal → Option ℕ → List ℕ
explanation name number text words why byte = explained_at name number text words (refusal_code why) byte

-- what people are told of a refusal where no place is told: words that end with the range which is told, and its code
abbrev pub AreRefusalWords : Diagnosis → List ℕ → Type 0
AreRefusalWords diagnosis out = (words : List ℕ) × EndsInRange diagnosis words × (out ≡ coded words (refusal_code diagnosis.refusal))

-- what people are told of a refusal of a source: words that end with the range which is told, where the refusal is shown
abbrev pub IsExplanation : List ℕ → List ℕ → Diagnosis → List ℕ → Type 0
IsExplanation name text diagnosis out = (words : List ℕ) × EndsInRange diagnosis words × (out ≡ explanation name None text words diagnosis.refusal diagnosis.byte)

-- the byte of a line that is this byte of the source with which the line ends; a byte behind the end is taken for the end
abbrev pub byte_of_line : List ℕ → List ℕ → ℕ → ℕ
byte_of_line line source at = length line - length source + min at (length source)

-- what people are told of a refusal of the source with which the line of a number ends
abbrev pub IsLineExplanation : List ℕ → ℕ → List ℕ → List ℕ → Diagnosis → List ℕ → Type 0
IsLineExplanation name number line source diagnosis out = (words : List ℕ) × EndsInRange diagnosis words
    × (out ≡ explanation name (Some number) line words diagnosis.refusal (option_map (byte_of_line line source) diagnosis.byte))
