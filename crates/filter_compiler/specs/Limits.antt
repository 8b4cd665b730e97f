-- The faults of a translation that goes past the limits of code. (This project's own choice.)
use Rattle.std.specs.Prelude.{ℕ, ◌<◌, ◌⊎◌, List, length}
use Rattle.std.specs.List.{Any}
use Rattle.int_sets.specs.Holding.{range_limit}
use Rattle.prefix_patterns.specs.Matching.{pattern_limit}
use Rattle.filter_code.specs.Limits.{instruction_limit, set_limit, int_set_limit}
use Rattle.filter_code.specs.CodeView as code

-- there are too many instructions
abbrev pub IsTooLong : code.CodeView → Type 0
IsTooLong program = instruction_limit < length program.instrs

-- there are more sets than the first limit, or there is more in one of them than the second
abbrev pub AreTooMany : {X : Type 0} → ℕ → ℕ → List (List X) → Type 0
AreTooMany many large sets = (many < length sets) ⊎ Any (λ set. large < length set) sets

-- there are too many sets of patterns, or too many patterns in one of them; or too many sets of ints, or too many ranges in one
abbrev pub HasTooMany : code.CodeView → Type 0
HasTooMany program =
    AreTooMany set_limit pattern_limit program.sets ⊎ AreTooMany int_set_limit range_limit program.int_sets
