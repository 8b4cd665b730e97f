-- What people are told of a refused line of a script. (This project's own choice.)
use Rattle.std.specs.Prelude.{◌≡◌, ℕ, List, Option, Some, None}
use Rattle.std.specs.Option.{option_map}
use Rattle.filter_source.specs.declared.diagnosis.Diagnosis.{Diagnosis}
use Rattle.refusal_words.specs.Explanations.{IsLineExplanation, explained_at}
use Rattle.refusal_words.specs.Places.{before_first_feed}
use Rattle.refusal_words.specs.Shown.{shown}
use Rattle.line_protocol.specs.Words.{words}
use Rattle.operator_cmds.specs.Commands.{text_in}
use Rattle.operator_cmds.specs.WordLists.{three_of}
use Rattle.script_words.specs.Causes.{cause_code, cause_in}
use Rattle.script_words.specs.declared.cause.RefusalCause.{RefusalCause}

-- the code of an answer, which is the second of its three words
abbrev pub second : (List ℕ × List ℕ × List ℕ) → List ℕ
second (first, code, place) = code

abbrev pub code_in : List ℕ → Option (List ℕ)
code_in answer = option_map second (three_of (words (before_first_feed answer)))

-- why an answer refuses its line, where it names a cause
abbrev pub cause_by : Option (List ℕ) → Option RefusalCause
cause_by None = None
cause_by (Some code) = cause_in code

abbrev pub cause_of : List ℕ → Option RefusalCause
cause_of answer = cause_by (code_in answer)

-- A cause is told in some words and by its code, at a byte of the line or of the whole line. The words are shown as all else is, so none of
-- them can steer a terminal, and no line feed is within them (the law `shown_is_harmless`).
abbrev pub TellsCause : List ℕ → ℕ → List ℕ → RefusalCause → List ℕ → Type 0
TellsCause name number line cause out =
    (plain : List ℕ) × (byte : Option ℕ) × (out ≡ explained_at name (Some number) line (shown plain) (cause_code cause) byte)

-- the refusal of the filter with which the line ends is told, if it is known why it is refused
abbrev pub TellsFilter : Option Diagnosis → List ℕ → ℕ → List ℕ → Option (List ℕ) → Type 0
TellsFilter (Some diagnosis) name number line (Some out) = IsLineExplanation name number line (text_in line) diagnosis out
TellsFilter (Some diagnosis) name number line None = ⊥
TellsFilter None name number line out = out ≡ None

-- what people are told of a line by the cause that its answer names: of each cause; and where it names none, of the filter
abbrev pub TellsBy : Option RefusalCause → Option Diagnosis → List ℕ → ℕ → List ℕ → Option (List ℕ) → Type 0
TellsBy (Some cause) diagnosis name number line (Some out) = TellsCause name number line cause out
TellsBy (Some cause) diagnosis name number line None = ⊥
TellsBy None diagnosis name number line out = TellsFilter diagnosis name number line out

-- what people are told of a refused line with this number and this answer, in a script that they know by a name; `diagnosis` is what is
-- known of the filter that the line gives
abbrev pub Tells : List ℕ → ℕ → List ℕ → List ℕ → Option Diagnosis → Option (List ℕ) → Type 0
Tells name number line answer diagnosis out = TellsBy (cause_of answer) diagnosis name number line out
