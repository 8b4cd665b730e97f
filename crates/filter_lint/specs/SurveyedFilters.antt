-- A filter's text, the code that it was compiled to, and what the verifier knows of the code. (This project's own choice.)
use Rattle.std.specs.Prelude.{◌≡◌, ◌<◌, ℕ, ◌==◌, nat_lt, Bool, not, if◌then◌else◌, List, length, take, Option, Some, None}
use Rattle.std.specs.List.{list_any}
use Rattle.filter_code.specs.CodeView.{CodeView}
use Rattle.filter_verifier.specs.FirstFault.{the_fault}
use Rattle.filter_verifier.specs.InStateView.{InStateView}
use Rattle.filter_verifier.specs.InStates.{in_state}
use Rattle.filter_verifier.specs.Sweep.{state_at}
use Rattle.filter_verifier.specs.Surveys.{surveyed}
use Rattle.filter_verifier.specs.declared.in_state.InState.{InState}

-- the text, the code, the byte of the text that each instruction comes from, and the size of the domains
pub record SurveyedFilterView : Type 0 where
  pub text : List ℕ
  pub program : CodeView
  pub places : List ℕ
  pub size : ℕ

-- the number of instructions before which the verifier knows something: all of verified code
abbrev pub known_of : CodeView → ℕ → ℕ
known_of program size = surveyed program size (the_fault program size)

-- this is what it knows before them
pub record AreKnown (program : CodeView) (size : ℕ) (states : List InState) : Type 0 where
  pub count : length states ≡ known_of program size
  pub each : (k : ℕ) → k < length states → state_at states k ≡ in_state program size k

-- and before the instruction of an index
abbrev pub known_at : SurveyedFilterView → ℕ → Option InStateView
known_at source at =
    if nat_lt at (known_of source.program source.size) then Some (in_state source.program source.size at) else None

-- no instruction before an index comes from this byte
abbrev pub is_first : List ℕ → ℕ → ℕ → Bool
is_first places at byte = not (list_any (λ place. place == byte) (take at places))
