-- The lines that tell whether tests hold: those of the Test Anything Protocol, and words for people. (The words are this project's own choice.)
use Rattle.std.specs.Prelude.{ℕ, ◌+◌, ◌==◌, ◌||◌, Bool, true, false, if◌then◌else◌, List, [], ◌∷◌, ◌++◌, codes, decimal, flat_map}
use Rattle.filter_diff.specs.declared.checking.ExpectationResult.{ExpectationResult}
use Rattle.filter_diff.specs.declared.checking.ExpectationResult.TheVariants as checked
use Rattle.filter_diff.specs.declared.checking.Counterexample.{Counterexample}
use Rattle.refusal_words.specs.Shown.{shown}
use Rattle.filter_differences.specs.PartLines.{outcome_text}
use Rattle.prefix_patterns.specs.Spelling.{prefix_text}
use Rattle.filter_checks.specs.declared.testing.RanTest.{RanTest}

-- whether a test does not hold, and whether that is not decided
abbrev pub fails : ExpectationResult → Bool
fails checked.Holds = false
fails (checked.Fails found) = true
fails checked.Undecided = false

abbrev pub is_open : ExpectationResult → Bool
is_open checked.Holds = false
is_open (checked.Fails found) = false
is_open checked.Undecided = true

abbrev pub is_wrong : RanTest → Bool
is_wrong ran = fails ran.checked

abbrev pub is_undecided : RanTest → Bool
is_undecided ran = is_open ran.checked

-- how the line of a test begins
abbrev pub result_word : ExpectationResult → List ℕ
result_word checked.Holds = codes "ok "
result_word (checked.Fails found) = codes "not ok "
result_word checked.Undecided = codes "not ok "

-- a route and its verdict, as a test of one route has them
abbrev pub found_text : Counterexample → List ℕ
found_text found = prefix_text found.prefix ++ codes " " ++ decimal found.metric ++ codes " -> " ++ outcome_text found.outcome

-- the comment behind the line of a test that does not hold
abbrev pub note : ExpectationResult → List ℕ
note checked.Holds = []
note (checked.Fails found) = codes "# " ++ found_text found ++ 10 ∷ []
note checked.Undecided = codes "# undecided" ++ 10 ∷ []

-- the lines of a test, by its number in the stream
abbrev pub test_lines : ℕ → RanTest → List ℕ
test_lines number ran = result_word ran.checked ++ decimal number ++ codes " - " ++ ran.line.items ++ 10 ∷ note ran.checked

-- the lines of tests, before which the stream has so many others
abbrev pub all_lines : ℕ → List RanTest → List ℕ
all_lines before [] = []
all_lines before (ran ∷ others) = test_lines (before + 1) ran ++ all_lines (before + 1) others

-- where a test stands: the name of its file as it is shown, and the number of its line
abbrev pub place_text : List ℕ → ℕ → List ℕ
place_text name line = shown name ++ codes ":" ++ decimal line ++ codes ": "

-- what people are told of a test that does not hold
abbrev pub failure_by : List ℕ → ℕ → ExpectationResult → List ℕ
failure_by name line checked.Holds = []
failure_by name line (checked.Fails found) = place_text name line ++ codes "does not hold: " ++ found_text found ++ 10 ∷ []
failure_by name line checked.Undecided = place_text name line ++ codes "undecided" ++ 10 ∷ []

abbrev pub failure_of : List ℕ → RanTest → List ℕ
failure_of name ran = failure_by name ran.number ran.checked

-- and of tests, where words are wanted
abbrev pub failures_of : Bool → List ℕ → List RanTest → List ℕ
failures_of false name all = []
failures_of true name all = flat_map (failure_of name) all

-- a byte that means something else in a description than itself: `#` begins a directive, and a backslash takes that from it
abbrev pub is_special : ℕ → Bool
is_special byte = byte == 35 || byte == 92

-- how it stands there: behind a backslash
abbrev pub escaped_byte : ℕ → List ℕ
escaped_byte byte = if is_special byte then 92 ∷ (byte ∷ []) else byte ∷ []

abbrev pub escaped : List ℕ → List ℕ
escaped text = flat_map escaped_byte text

-- the name of a file as it is shown, and what is said of it
abbrev pub said_of : List ℕ → List ℕ → List ℕ
said_of name words = shown name ++ codes ": " ++ words

-- the line in place of the tests of a file that were not run, of which these words say so
abbrev pub skipped : ℕ → List ℕ → List ℕ → List ℕ
skipped number name words = codes "not ok " ++ decimal number ++ codes " - " ++ escaped (said_of name words) ++ 10 ∷ []

-- the last line of the stream: how many tests it has
abbrev pub plan : ℕ → List ℕ
plan count = codes "1.." ++ decimal count ++ 10 ∷ []
