-- The lines of warnings. (This project's own choice.)
use Rattle.std.specs.Prelude.{ℕ, ◌+◌, ◌==◌, Bool, true, false, ◌&&◌, if◌then◌else◌, List, [], ◌++◌, ◌∷◌, codes}
use Rattle.std.specs.Prelude.{decimal, flat_map, length, slice_get, unwrap_or, Option, Some, None}
use Rattle.prefix_patterns.specs.Bits.{address_length}
use Rattle.prefix_patterns.specs.Matching.{PrefixPattern}
use Rattle.prefix_patterns.specs.Spelling.{prefix_text}
use Rattle.filter_tokens.specs.Lexemes.{covered}
use Rattle.filter_code.specs.declared.outcome.Outcome.{Outcome}
use Rattle.filter_code.specs.declared.outcome.Outcome.TheVariants as outcome
use Rattle.filter_diff.specs.declared.ordering.Disorder.{Disorder}
use Rattle.refusal_words.specs.Explanations.{message, position}
use Rattle.refusal_words.specs.Places.{column_at, line_at}
use Rattle.refusal_words.specs.Shown.{shown}
use Rattle.report_formats.specs.Findings.{FindingView, finding_line}
use Rattle.report_formats.specs.declared.format.Format.{Format}
use Rattle.report_formats.specs.declared.format.Format.TheVariants as formats
use Rattle.report_formats.specs.declared.finding.Severity.TheVariants as severity
use Rattle.filter_lint.specs.declared.host_bits.HostBits.{HostBits}
use Rattle.filter_lint.specs.declared.site.Site.{Site}
use Rattle.filter_lint.specs.declared.site.Site.TheVariants as site
use Rattle.filter_lint.specs.declared.warning.WarningCause.{WarningCause}
use Rattle.filter_lint.specs.declared.warning.WarningCause.TheVariants as cause
use Rattle.filter_lint.specs.declared.warning.ValueBounds.{ValueBounds}
use Rattle.filter_lint.specs.declared.warning.Operation.{Operation}
use Rattle.filter_lint.specs.declared.warning.Operation.TheVariants as operation
use Rattle.filter_lint.specs.declared.warning.Warning.{Warning}

-- the code of a rule
abbrev pub code_of : WarningCause → List ℕ
code_of (cause.Constant place value) = codes "W1"
code_of cause.Unreached = codes "W2"
code_of (cause.Wraps what left right) = codes "W3"
code_of (cause.Covered number inner outer) = codes "W4"
code_of (cause.Overlapping range other) = codes "W4"
code_of cause.Unread = codes "W6"
code_of (cause.Unreachable bounds) = codes "W7"
code_of cause.NotLowered = codes "W8"
code_of (cause.Disordered shown) = codes "W9"

-- what is true, or false
abbrev pub subject_of : Site → List ℕ
subject_of site.And = codes "what is left of `&&` is "
subject_of site.Or = codes "what is left of `||` is "
subject_of place = codes "the condition is "

-- what is said of a label that every route has which comes to it, or none
abbrev pub label_words : Bool → List ℕ
label_words is_had = if is_had then codes "every route that comes here has this label" else codes "no route that comes here has this label"

-- how a condition comes out, and what is said behind that
abbrev pub truth_word : Bool → List ℕ
truth_word value = if value then codes "true" else codes "false"

unfoldable pub here_words : List ℕ
here_words = codes " on every route that comes here"

abbrev pub truth_words : Site → Bool → List ℕ
truth_words place value = subject_of place ++ truth_word value ++ here_words

-- what is said of a condition
abbrev pub is_label : Site → Bool
is_label site.Label = true
is_label place = false

abbrev pub constant_words : Site → Bool → List ℕ
constant_words place value = if is_label place then label_words value else truth_words place value

-- the bounds of an int: one number where they are the same
abbrev pub bounds_text : ValueBounds → List ℕ
bounds_text bounds = if bounds.low == bounds.high then decimal bounds.low else decimal bounds.low ++ codes ".." ++ decimal bounds.high

-- what stands between the operands of an operation, and what is said behind them
abbrev pub sign_of : Operation → List ℕ
sign_of operation.Sum = codes " + "
sign_of operation.Difference = codes " - "
sign_of operation.Product = codes " * "

abbrev pub wrap_words : Operation → List ℕ
wrap_words operation.Sum = codes " may wrap above 4294967295"
wrap_words operation.Difference = codes " may wrap below 0"
wrap_words operation.Product = codes " may wrap above 4294967295"

abbrev pub wraps_words : Operation → ValueBounds → ValueBounds → List ℕ
wraps_words what left right = bounds_text left ++ sign_of what ++ bounds_text right ++ wrap_words what

-- a pattern, as it is written in a set
abbrev pub lengths_text : ℕ → ℕ → ℕ → List ℕ
lengths_text len low high =
    if low == len && high == len then [] else if low == len && high == address_length then codes "+"
    else 123 ∷ [] ++ decimal low ++ 44 ∷ [] ++ decimal high ++ 125 ∷ []

abbrev pub pattern_text : PrefixPattern → List ℕ
pattern_text pattern = prefix_text pattern.bits ++ lengths_text (length pattern.bits) pattern.low pattern.high

-- the pattern of an index
abbrev pub pattern_found : Option PrefixPattern → List ℕ
pattern_found None = []
pattern_found (Some pattern) = pattern_text pattern

abbrev pub pattern_of : List PrefixPattern → ℕ → List ℕ
pattern_of patterns at = pattern_found (slice_get patterns at)

-- the patterns of the set of a number
abbrev pub patterns_of : List (List PrefixPattern) → ℕ → List PrefixPattern
patterns_of sets number = unwrap_or (slice_get sets number) []

-- what is said of two patterns of a set, of which the second covers the first
unfoldable pub covered_by : List ℕ
covered_by = codes " is covered by "

unfoldable pub of_same_set : List ℕ
of_same_set = codes " of the same set"

abbrev pub inner_words : List PrefixPattern → ℕ → List ℕ
inner_words patterns at = pattern_of patterns at ++ covered_by

abbrev pub outer_words : List PrefixPattern → ℕ → List ℕ
outer_words patterns at = pattern_of patterns at ++ of_same_set

abbrev pub pair_words : List PrefixPattern → ℕ → ℕ → List ℕ
pair_words patterns inner outer = inner_words patterns inner ++ outer_words patterns outer

abbrev pub covered_words : List (List PrefixPattern) → ℕ → ℕ → ℕ → List ℕ
covered_words sets number inner outer = pair_words (patterns_of sets number) inner outer

-- what is said of two ranges of a set of ints
abbrev pub overlapping_words : ValueBounds → ValueBounds → List ℕ
overlapping_words range other = bounds_text range ++ codes " overlaps " ++ bounds_text other ++ of_same_set

-- what is said of a metric that means unreachable
abbrev pub unreachable_words : ValueBounds → List ℕ
unreachable_words bounds = codes "the metric is set to " ++ bounds_text bounds ++ codes ", which means unreachable"

-- what is said of a metric that is not lowered
unfoldable pub not_lowered_words : List ℕ
not_lowered_words = codes "a filter cannot lower the metric: on some route that comes here the value is below the one received"

-- what becomes of a metric, and of two of a route, of which the lesser one comes to more
abbrev pub end_words : Outcome → List ℕ
end_words (outcome.Accept after) = codes " becomes " ++ decimal after
end_words outcome.Reject = codes " is rejected"
end_words (outcome.Fault kind at) = codes " ends with a fault"

abbrev pub outcome_words : ℕ → Outcome → List ℕ
outcome_words metric end = decimal metric ++ end_words end

abbrev pub outcomes_words : Disorder → List ℕ
outcomes_words shown = outcome_words shown.metric shown.lesser ++ codes ", and " ++ outcome_words (shown.metric + 1) shown.next

abbrev pub disordered_words : Disorder → List ℕ
disordered_words shown =
    codes "the order of metrics is not kept: of " ++ prefix_text shown.prefix ++ codes " metric " ++ outcomes_words shown

-- what is said of a cause, in code with these sets
abbrev pub words : List (List PrefixPattern) → WarningCause → List ℕ
words sets (cause.Constant place value) = constant_words place value
words sets cause.Unreached = codes "no route reaches this command"
words sets (cause.Wraps what left right) = wraps_words what left right
words sets (cause.Covered number inner outer) = covered_words sets number inner outer
words sets (cause.Overlapping range other) = overlapping_words range other
words sets cause.Unread = codes "this variable is never read"
words sets (cause.Unreachable bounds) = unreachable_words bounds
words sets cause.NotLowered = not_lowered_words
words sets (cause.Disordered shown) = disordered_words shown

-- the line of a warning: the name of the source as it is shown, the line and the column, what is said, and the code of the rule
abbrev pub warning_line : List ℕ → List ℕ → List (List PrefixPattern) → Warning → List ℕ
warning_line name text sets warning = shown name ++ position (line_at text warning.byte) (column_at text warning.byte)
    ++ message (words sets warning.cause) (code_of warning.cause)

-- the same of a prefix with host bits: as it is written, and what it is read as
abbrev pub host_bits_words : List ℕ → HostBits → List ℕ
host_bits_words text found = covered text found.token ++ codes " is read as " ++ prefix_text found.prefix

abbrev pub host_bits_line : List ℕ → List ℕ → HostBits → List ℕ
host_bits_line name text found = shown name ++ position (line_at text found.token.from) (column_at text found.token.from)
    ++ message (host_bits_words text found) (codes "W5")

-- the line that says that not all routes were tried
unfoldable pub undecided_words : List ℕ
undecided_words = codes ": undecided: not all routes were tried, so W1, W2 and W8 were not looked for" ++ 10 ∷ []

abbrev pub undecided_line : List ℕ → List ℕ
undecided_line name = shown name ++ undecided_words

abbrev pub undecided_text : List ℕ → Bool → List ℕ
undecided_text name is_complete = if is_complete then [] else undecided_line name

-- the line that says that not all metrics of all routes were tried
unfoldable pub unordered_words : List ℕ
unordered_words = codes ": undecided: not all metrics of all routes were tried, so W9 was not looked for" ++ 10 ∷ []

abbrev pub unordered_line : List ℕ → List ℕ
unordered_line name = shown name ++ unordered_words

abbrev pub unordered_text : List ℕ → Bool → List ℕ
unordered_text name is_ordered = if is_ordered then [] else unordered_line name

-- what a report says of what was found at a byte of a text, under a code
abbrev pub found_view : List ℕ → List ℕ → ℕ → List ℕ → List ℕ → FindingView
found_view name text byte code words = record {
  severity = severity.Warning;
  code = Some code;
  file = name;
  line = Some (line_at text byte);
  column = Some (column_at text byte);
  words = words;
}

-- of a warning
abbrev pub warning_view : List ℕ → List ℕ → List (List PrefixPattern) → Warning → FindingView
warning_view name text sets warning = found_view name text warning.byte (code_of warning.cause) (words sets warning.cause)

-- of a prefix with host bits
abbrev pub host_bits_view : List ℕ → List ℕ → HostBits → FindingView
host_bits_view name text found = found_view name text found.token.from (codes "W5") (host_bits_words text found)

-- and of a file of which not all routes were tried, or not all metrics
unfoldable pub not_tried_words : List ℕ
not_tried_words = codes "not all routes were tried, so W1, W2 and W8 were not looked for"

unfoldable pub not_ordered_words : List ℕ
not_ordered_words = codes "not all metrics of all routes were tried, so W9 was not looked for"

abbrev pub undecided_view : List ℕ → List ℕ → FindingView
undecided_view name words = record {
  severity = severity.Undecided;
  code = None;
  file = name;
  line = None;
  column = None;
  words = words;
}

abbrev pub undecided_report : List ℕ → Bool → List ℕ → List ℕ
undecided_report name is_complete words = if is_complete then [] else finding_line (undecided_view name words)

-- the line of each, as it is written
abbrev pub warning_in : Format → List ℕ → List ℕ → List (List PrefixPattern) → Warning → List ℕ
warning_in formats.Text name text sets warning = warning_line name text sets warning
warning_in formats.Json name text sets warning = finding_line (warning_view name text sets warning)

abbrev pub host_bits_in : Format → List ℕ → List ℕ → HostBits → List ℕ
host_bits_in formats.Text name text found = host_bits_line name text found
host_bits_in formats.Json name text found = finding_line (host_bits_view name text found)

abbrev pub undecided_in : Format → List ℕ → Bool → List ℕ
undecided_in formats.Text name is_complete = undecided_text name is_complete
undecided_in formats.Json name is_complete = undecided_report name is_complete not_tried_words

abbrev pub unordered_in : Format → List ℕ → Bool → List ℕ
unordered_in formats.Text name is_ordered = unordered_text name is_ordered
unordered_in formats.Json name is_ordered = undecided_report name is_ordered not_ordered_words

-- those of several prefixes with host bits, in order
abbrev pub host_bits_text : Format → List ℕ → List ℕ → List HostBits → List ℕ
host_bits_text format name text all = flat_map (host_bits_in format name text) all

-- the lines of the warnings of a text, of its prefixes with host bits, and last ones where not all routes were tried, or not all metrics
abbrev pub warnings_text : Format → List ℕ → List ℕ → List (List PrefixPattern) → List Warning → List HostBits → Bool → Bool → List ℕ
warnings_text format name text sets warnings host_bits is_complete is_ordered =
    flat_map (warning_in format name text sets) warnings ++ host_bits_text format name text host_bits ++ undecided_in format name is_complete
    ++ unordered_in format name is_ordered
