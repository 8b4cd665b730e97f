-- What people are told where routes are taken through a filter. (This project's own choice.)
use Rattle.std.specs.Prelude.{◌≡◌, ◌⊎◌, ℕ, Bool, true, List, [], Option, Some, None, codes}
use Rattle.route_answers.specs.RouteLine.{line_code}
use Rattle.route_answers.specs.declared.line_fault.LineFault.{LineFault}
use Rattle.route_answers.specs.declared.watch.WhyRefused.{WhyRefused}
use Rattle.route_answers.specs.declared.watch.WhyRefused.TheVariants.{Route, Code, NoCode}
use Rattle.refusal_words.specs.Explanations.{IsLineExplanation, explained_at}
use Rattle.refusal_words.specs.Shown.{shown}

-- A line that gives no route is told in some words and by the code of its fault, at a byte of the line or of the whole line. The words are
-- shown as all else is, so none of them can steer a terminal (the law `shown_is_harmless`).
abbrev pub TellsRoute : List ℕ → ℕ → List ℕ → LineFault → List ℕ → Type 0
TellsRoute name number line found out =
    (plain : List ℕ) × (byte : Option ℕ) × (out ≡ explained_at name (Some number) line (shown plain) (line_code found) byte)

-- what is told where no line gives code
abbrev pub no_code_words : List ℕ
no_code_words = codes "there is no code: the first line is a code file in hexadecimal"

-- what is told of a line that is refused for a reason
abbrev pub TellsLine : List ℕ → ℕ → List ℕ → WhyRefused → List ℕ → Type 0
TellsLine name number line (Route found) out = TellsRoute name number line found out
TellsLine name number line (Code diagnosis) out = IsLineExplanation name number line line diagnosis out
TellsLine name number line NoCode out = out ≡ explained_at name None [] no_code_words (codes "O1") None

-- Standard error is told nothing, but where words about lines are wanted: what is told of these is left open.
abbrev pub IsQuiet : Bool → Option (List ℕ) → Option (List ℕ) → Type 0
IsQuiet tells_people stderr_before stderr_after = (tells_people ≡ true) ⊎ (stderr_after ≡ stderr_before)
