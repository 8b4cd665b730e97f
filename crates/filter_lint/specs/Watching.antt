-- The assignments of the metric of which the search is asked whether they would lower it. (This project's own choice.)
use Rattle.std.specs.Prelude.{ℕ, zero, suc, Bool, true, false, not, List, [], ◌∷◌, ◌++◌, length, Option, Some, None, slice_get}
use Rattle.filter_code.specs.declared.instruction.Instr.{Instr}
use Rattle.filter_code.specs.declared.instruction.Instr.TheVariants as instr
use Rattle.filter_verifier.specs.InStateView.{InStateView, Unreached, UnlikeDepths, Known}
use Rattle.filter_verifier.specs.declared.fact.Fact.{Fact}
use Rattle.filter_verifier.specs.declared.fact.Fact.TheVariants as fact
use Rattle.filter_lint.specs.SurveyedFilters.{SurveyedFilterView, known_at}

-- an int that is known to be at least the metric received
abbrev pub is_least : Option Fact → Bool
is_least (Some (fact.Int range)) = range.at_least_received
is_least place = false

-- the same of what is below the top
abbrev pub is_least_below : List (Option Fact) → Bool
is_least_below [] = false
is_least_below (top ∷ []) = false
is_least_below (top ∷ (value ∷ rest)) = is_least value

abbrev pub is_known : InStateView → Bool
is_known Unreached = false
is_known UnlikeDepths = false
is_known (Known frame) = is_least_below frame.stack

abbrev pub is_open : Option InStateView → Bool
is_open None = true
is_open (Some known) = not (is_known known)

-- a MAX before which this is not known
abbrev pub is_asked : Option Instr → Option InStateView → Bool
is_asked (Some instr.Max) known = is_open known
is_asked i known = false

abbrev pub is_watched : SurveyedFilterView → ℕ → Bool
is_watched source at = is_asked (slice_get source.program.instrs at) (known_at source at)

-- whether each of the first n is one
unfoldable pub watched : (ℕ → Bool) → ℕ → List Bool
watched is zero = []
watched is (suc n) = watched is n ++ (is n ∷ [])

abbrev pub watched_places : SurveyedFilterView → List Bool
watched_places source = watched (is_watched source) (length source.program.instrs)
