-- Members of a set that overlap: patterns that another pattern of the set covers, and ranges of ints. (This project's own choice.)
use Rattle.std.specs.Prelude.{ℕ, nat_le, Bool, true, false, not, ◌&&◌, if◌then◌else◌, List, [], length, position, take, Option, Some, None, option_and_then, slice_get}
use Rattle.filter_code.specs.CodeView.{CodeView}
use Rattle.filter_code.specs.declared.instruction.Instr.{Instr}
use Rattle.filter_code.specs.declared.instruction.Instr.TheVariants as instr
use Rattle.prefix_patterns.specs.Matching.{PrefixPattern, lies_within}
use Rattle.filter_lint.specs.Finding.{all_of, below}
use Rattle.filter_lint.specs.Overlaps.{overlaps_of}
use Rattle.filter_lint.specs.SurveyedFilters.{SurveyedFilterView}
use Rattle.filter_lint.specs.declared.sets.Asked.{Asked}
use Rattle.filter_lint.specs.declared.warning.WarningCause.TheVariants as cause
use Rattle.filter_lint.specs.declared.warning.Warning.{Warning}

-- a pattern allows all lengths of another, and its prefix has no other bits
abbrev pub covers : PrefixPattern → PrefixPattern → Bool
covers outer inner = nat_le outer.low inner.low && (nat_le inner.high outer.high && lies_within inner.bits outer.bits)

-- and the other does not cover it
abbrev pub is_wider : PrefixPattern → PrefixPattern → Bool
is_wider outer inner = covers outer inner && not (covers inner outer)

-- the first one, or otherwise the second
abbrev pub or_else : Option ℕ → Option ℕ → Option ℕ
or_else (Some first) second = Some first
or_else None second = second

-- the index of a pattern of the set that covers the one of an index: of one before it, or of one that it does not cover
abbrev pub covering : List PrefixPattern → ℕ → PrefixPattern → Option ℕ
covering patterns at inner =
    or_else (position (λ outer. covers outer inner) (take at patterns)) (position (λ outer. is_wider outer inner) patterns)

-- what is said of the pattern of an index, in the set that an instruction asks for
abbrev pub covered_at : List PrefixPattern → Asked → ℕ → Option Warning
covered_at patterns asked at = option_and_then
    (λ inner. option_and_then
    (λ outer. Some (record { instruction = asked.instruction; byte = asked.byte; cause = cause.Covered asked.set at outer }))
    (covering patterns at inner))
    (slice_get patterns at)

-- what is said of all patterns of a set
abbrev pub covered_in : List PrefixPattern → Asked → List Warning
covered_in patterns asked = below (covered_at patterns asked) (length patterns)

-- the number of the set that an instruction asks for
abbrev pub asked_by : Instr → Option ℕ
asked_by (instr.Member number) = Some number
asked_by (instr.InSet number) = Some number
asked_by _ = None

-- that set is one of ints
abbrev pub asks_ints : Instr → Bool
asks_ints (instr.InSet number) = true
asks_ints _ = false

-- what the instruction of an index asks
abbrev pub asked_at : SurveyedFilterView → ℕ → Option Asked
asked_at source at = option_and_then
    (λ i. option_and_then
    (λ byte. option_and_then (λ set. Some (record { instruction = at; byte = byte; set = set; is_of_ints = asks_ints i })) (asked_by i))
    (slice_get source.places at))
    (slice_get source.program.instrs at)

-- what is said of the set that is asked for
abbrev pub covered_of : Option (List PrefixPattern) → Asked → List Warning
covered_of None asked = []
covered_of (Some patterns) asked = covered_in patterns asked

abbrev pub overlaps_where : CodeView → Option Asked → List Warning
overlaps_where program None = []
overlaps_where program (Some asked) =
    if asked.is_of_ints then overlaps_of (slice_get program.int_sets asked.set) asked else covered_of (slice_get program.sets asked.set) asked

abbrev pub overlaps_by : SurveyedFilterView → ℕ → List Warning
overlaps_by source at = overlaps_where source.program (asked_at source at)

-- what is said of all sets
abbrev pub overlapping_members : SurveyedFilterView → List Warning
overlapping_members source = all_of (overlaps_by source) (length source.program.instrs)
