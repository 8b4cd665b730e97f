-- What the words of a test say: routes, and the verdict that is expected on them. (This project's own choice.)
use Rattle.std.specs.Prelude.{ℕ, ◌==◌, Bool, List, [], ◌∷◌, Option, Some, None, if◌then◌else◌, length, nat_le, ⊤}
use Rattle.std.specs.Str.{bytes_eq}
use Rattle.filter_code.specs.declared.outcome.Outcome.TheVariants as outcome
use Rattle.filter_diff.specs.declared.ending.RunEnding.{RunEnding}
use Rattle.filter_diff.specs.declared.ending.RunEnding.TheVariants as ending
use Rattle.filter_diff.specs.declared.expectation.Expectation.{Expectation}
use Rattle.prefix_patterns.specs.Bits.{address_length}
use Rattle.prefix_patterns.specs.Matching.{PrefixPattern}
use Rattle.prefix_patterns.specs.Reading.{◌>>=◌, number_in, parts_at, prefix_in}
use Rattle.prefix_patterns.specs.Token.{dot}
use Rattle.filter_checks.specs.Keywords.{keyword_in, keyword_text}
use Rattle.filter_checks.specs.declared.keyword.TestKeyword.{TestKeyword}
use Rattle.filter_checks.specs.declared.keyword.TestKeyword.TheVariants as word

-- what is read, and the words after it
abbrev pub Read : Type 0 → Type 0
Read A = Option (A × List (List ℕ))

-- the first word
abbrev pub first_word : List (List ℕ) → Read (List ℕ)
first_word [] = None
first_word (w ∷ ws) = Some (w, ws)

-- no more words
abbrev pub no_more : List (List ℕ) → Option ⊤
no_more [] = Some tt
no_more (w ∷ ws) = None

-- a number of at most a limit
unfoldable pub first_number : ℕ → List (List ℕ) → Read ℕ
first_number most ws = do
  w ← first_word ws
  n ← number_in most w.0
  Some (n, w.1)

-- a keyword
unfoldable pub first_keyword : List (List ℕ) → Read TestKeyword
first_keyword ws = do
  w ← first_word ws
  k ← keyword_in w.0
  Some (k, w.1)

-- the words after an arrow
abbrev pub behind : TestKeyword → List (List ℕ) → Option (List (List ℕ))
behind word.Arrow ws = Some ws
behind _ ws = None

unfoldable pub behind_arrow : List (List ℕ) → Option (List (List ℕ))
behind_arrow ws = do
  k ← first_keyword ws
  behind k.0 k.1

-- `accept`: with the metric received, or with the one that follows
unfoldable pub accepted_in : ℕ → List (List ℕ) → Option RunEnding
accepted_in size [] = Some ending.Unchanged
accepted_in size (w ∷ ws) = do
  metric ← number_in size w
  end ← no_more ws
  Some (ending.Fixed (outcome.Accept metric))

-- a verdict, as the last of the words
unfoldable pub verdict_of : ℕ → TestKeyword → List (List ℕ) → Option RunEnding
verdict_of size word.Accept ws = accepted_in size ws
verdict_of size word.Reject ws = do
  end ← no_more ws
  Some (ending.Fixed outcome.Reject)
verdict_of size _ ws = None

unfoldable pub verdict_in : ℕ → List (List ℕ) → Option RunEnding
verdict_in size ws = do
  k ← first_keyword ws
  verdict_of size k.0 k.1

-- two numbers in order
abbrev pub in_order : ℕ → ℕ → Option (ℕ × ℕ)
in_order low high = if nat_le low high then Some (low, high) else None

-- nothing
abbrev pub none_of : List ℕ → Option ⊤
none_of [] = Some tt
none_of (byte ∷ bytes) = None

-- a text behind a dot
abbrev pub behind_dot : List ℕ → Option (List ℕ)
behind_dot [] = None
behind_dot (byte ∷ bytes) = if byte == dot then Some bytes else None

-- the metrics from a text to one behind another dot, or just one
unfoldable pub metrics_between : ℕ → List ℕ → List ℕ → Option (ℕ × ℕ)
metrics_between size first behind = do
  last ← behind_dot behind
  least ← number_in size first
  greatest ← number_in size last
  in_order least greatest

unfoldable pub one_metric : ℕ → List ℕ → Option (ℕ × ℕ)
one_metric size text = do
  metric ← number_in size text
  Some (metric, metric)

-- metrics: `A..B`, or `A` alone
abbrev pub metrics_of : ℕ → List ℕ → Option (List ℕ × List ℕ) → Option (ℕ × ℕ)
metrics_of size text None = one_metric size text
metrics_of size text (Some (first, behind)) = metrics_between size first behind

abbrev pub metrics_in : ℕ → List ℕ → Option (ℕ × ℕ)
metrics_in size text = metrics_of size text (parts_at dot text)

-- the metrics of a test of many routes and the words after its arrow: all metrics where none is named
unfoldable pub named_metrics : ℕ → List (List ℕ) → Read (ℕ × ℕ)
named_metrics size ws = do
  w ← first_word ws
  metrics ← metrics_in size w.0
  rest ← behind_arrow w.1
  Some (metrics, rest)

abbrev pub metrics_by : ℕ → TestKeyword → List (List ℕ) → Read (ℕ × ℕ)
metrics_by size word.Arrow ws = Some ((0, size), ws)
metrics_by size word.Metric ws = named_metrics size ws
metrics_by size _ ws = None

unfoldable pub first_metrics : ℕ → List (List ℕ) → Read (ℕ × ℕ)
first_metrics size ws = do
  k ← first_keyword ws
  metrics_by size k.0 k.1

-- the signs of a pattern
abbrev pub plus : ℕ
plus = 43

abbrev pub minus : ℕ
minus = 45

abbrev pub comma : ℕ
comma = 44

abbrev pub open_brace : ℕ
open_brace = 123

abbrev pub close_brace : ℕ
close_brace = 125

-- the pattern of a prefix and two lengths
abbrev pub with_lengths : List Bool → ℕ → ℕ → Option PrefixPattern
with_lengths bits low high = if nat_le low high then Some (record { bits = bits; low = low; high = high }) else None

-- `PREFIX{LOW,HIGH}`, of which these are the texts before and behind the brace
unfoldable pub braced : List ℕ → List ℕ → Option PrefixPattern
braced first behind = do
  bits ← prefix_in first
  low ← parts_at comma behind
  high ← parts_at close_brace low.1
  end ← none_of high.1
  least ← number_in address_length low.0
  greatest ← number_in address_length high.0
  with_lengths bits least greatest

-- `PREFIX+`: the prefix and all within it
unfoldable pub all_within : List ℕ → List ℕ → Option PrefixPattern
all_within first behind = do
  bits ← prefix_in first
  end ← none_of behind
  Some (record { bits = bits; low = length bits; high = address_length })

-- `PREFIX-`: the prefix and all that it lies in
unfoldable pub all_round : List ℕ → List ℕ → Option PrefixPattern
all_round first behind = do
  bits ← prefix_in first
  end ← none_of behind
  Some (record { bits = bits; low = 0; high = length bits })

-- `PREFIX`: that prefix alone
unfoldable pub alone : List ℕ → Option PrefixPattern
alone text = do
  bits ← prefix_in text
  Some (record { bits = bits; low = length bits; high = length bits })

abbrev pub unsigned_of : List ℕ → Option (List ℕ × List ℕ) → Option PrefixPattern
unsigned_of text None = alone text
unsigned_of text (Some (first, behind)) = all_round first behind

abbrev pub unbraced_of : List ℕ → Option (List ℕ × List ℕ) → Option PrefixPattern
unbraced_of text None = unsigned_of text (parts_at minus text)
unbraced_of text (Some (first, behind)) = all_within first behind

abbrev pub pattern_of : List ℕ → Option (List ℕ × List ℕ) → Option PrefixPattern
pattern_of text None = unbraced_of text (parts_at plus text)
pattern_of text (Some (first, behind)) = braced first behind

-- a pattern, by its `{`, its `+` or its `-`
abbrev pub pattern_in : List ℕ → Option PrefixPattern
pattern_in text = pattern_of text (parts_at open_brace text)

-- a test of many routes, behind its first word: `PATTERN -> VERDICT`, or `PATTERN metric A..B -> VERDICT`
unfoldable pub every_in : ℕ → List (List ℕ) → Option Expectation
every_in size ws = do
  w ← first_word ws
  pattern ← pattern_in w.0
  metrics ← first_metrics size w.1
  end ← verdict_in size metrics.1
  Some (record { pattern = pattern; least = metrics.0.0; greatest = metrics.0.1; ending = end })

-- a test of one route: `PREFIX METRIC -> VERDICT`
unfoldable pub one_in : ℕ → List (List ℕ) → Option Expectation
one_in size ws = do
  w ← first_word ws
  pattern ← alone w.0
  metric ← first_number size w.1
  rest ← behind_arrow metric.1
  end ← verdict_in size rest
  Some (record { pattern = pattern; least = metric.0; greatest = metric.0; ending = end })

-- a test in a domain of a size: of many routes, if its first word is `every`
abbrev pub test_in : ℕ → List (List ℕ) → Option Expectation
test_in size [] = None
test_in size (first ∷ others) = if bytes_eq (keyword_text word.Every) first then every_in size others else one_in size (first ∷ others)
