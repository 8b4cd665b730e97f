-- What a test file says: a filter, the size of a domain, and tests. (This project's own choice.)
use Rattle.std.specs.Prelude.{◌≡◌, ◌≢◌, ℕ, List, [], ◌∷◌, Option, Some, None, Result, Ok, Err, if◌then◌else◌, length, map, nat_le, nat_lt}
use Rattle.filter_code.specs.Limits.{largest_size, smallest_size}
use Rattle.filter_diff.specs.declared.expectation.Expectation.{Expectation}
use Rattle.filter_source.specs.Limits.{source_limit}
use Rattle.line_protocol.specs.Lines.{numbered}
use Rattle.line_protocol.specs.Words.{words}
use Rattle.prefix_patterns.specs.Reading.{◌>>=◌}
use Rattle.filter_checks.specs.Reading.{first_keyword, first_number, first_word, no_more, test_in}
use Rattle.filter_checks.specs.declared.keyword.TestKeyword.{TestKeyword}
use Rattle.filter_checks.specs.declared.keyword.TestKeyword.TheVariants as word
use Rattle.filter_checks.specs.declared.test_file.TestFileFault.{TestFileFault}
use Rattle.filter_checks.specs.declared.test_file.TestFileFault.TheVariants as fault
use Rattle.filter_checks.specs.declared.test_file.Test.{Test}
use Rattle.filter_checks.specs.declared.test_file.TestFile.{TestFile}

-- a test, and its line in the file
pub record TestView : Type 0 where
  pub number : ℕ
  pub line : List ℕ
  pub expected : Expectation

-- a test file: the name of the file that has the filter, the size of the domain, and the tests
pub record FileView : Type 0 where
  pub filter : List ℕ
  pub size : ℕ
  pub tests : List TestView

abbrev pub Line : Type 0
Line = ℕ × List ℕ

-- a word alone
unfoldable pub only_word : List (List ℕ) → Option (List ℕ)
only_word ws = do
  w ← first_word ws
  end ← no_more w.1
  Some w.0

-- `filter FILE`
abbrev pub filter_of : TestKeyword → List (List ℕ) → Option (List ℕ)
filter_of word.Filter ws = only_word ws
filter_of _ ws = None

unfoldable pub filter_in : List (List ℕ) → Option (List ℕ)
filter_in ws = do
  k ← first_keyword ws
  filter_of k.0 k.1

-- a domain has 2 to 250 nodes
abbrev pub as_size : ℕ → Option ℕ
as_size size = if nat_le smallest_size size then Some size else None

unfoldable pub only_size : List (List ℕ) → Option ℕ
only_size ws = do
  n ← first_number largest_size ws
  end ← no_more n.1
  as_size n.0

-- `size N`
abbrev pub size_of : TestKeyword → List (List ℕ) → Option ℕ
size_of word.Size ws = only_size ws
size_of _ ws = None

unfoldable pub size_in : List (List ℕ) → Option ℕ
size_in ws = do
  k ← first_keyword ws
  size_of k.0 k.1

-- a test before others; the first line that is no test is named
abbrev pub with_test : Option Expectation → Line → Result (List TestView) TestFileFault → Result (List TestView) TestFileFault
with_test None line more = Err (fault.Line line.0)
with_test (Some expected) line (Ok more) = Ok (record { number = line.0; line = line.1; expected = expected } ∷ more)
with_test (Some expected) line (Err why) = Err why

abbrev pub tests_in : ℕ → List Line → Result (List TestView) TestFileFault
tests_in size [] = Ok []
tests_in size (line ∷ lines) = with_test (test_in size (words line.1)) line (tests_in size lines)

-- all tests, of which there is one at least: a file that lost its tests is not one whose tests hold
abbrev pub with_tests : List ℕ → ℕ → Result (List TestView) TestFileFault → Result FileView TestFileFault
with_tests name size (Ok []) = Err fault.NoTest
with_tests name size (Ok (test ∷ tests)) = Ok (record { filter = name; size = size; tests = test ∷ tests })
with_tests name size (Err why) = Err why

-- the size, and the tests behind it
abbrev pub sized_file : List ℕ → Option ℕ → ℕ → List Line → Result FileView TestFileFault
sized_file name None at lines = Err (fault.Line at)
sized_file name (Some size) at lines = with_tests name size (tests_in size lines)

-- what follows the name of the filter's file
abbrev pub rest_of : List ℕ → List Line → Result FileView TestFileFault
rest_of name [] = Err fault.Ended
rest_of name (line ∷ lines) = sized_file name (size_in (words line.1)) line.0 lines

abbrev pub named_file : Option (List ℕ) → ℕ → List Line → Result FileView TestFileFault
named_file None at lines = Err (fault.Line at)
named_file (Some name) at lines = rest_of name lines

-- the filter, the size and the tests
abbrev pub file_of : List Line → Result FileView TestFileFault
file_of [] = Err fault.Ended
file_of (line ∷ lines) = named_file (filter_in (words line.1)) line.0 lines

-- the test file that a text is, or the first thing that is wrong with it
abbrev pub file_in : List ℕ → Result FileView TestFileFault
file_in text = if nat_lt source_limit (length text) then Err fault.TooLong else file_of (numbered text)

-- what was read, as contracts see it
abbrev pub test_view : Test → TestView
test_view test = record { number = test.number; line = test.line.items; expected = test.expected }

abbrev pub file_view : TestFile → FileView
file_view file = record { filter = file.filter.items; size = file.size; tests = map test_view file.tests.items }

-- a fault is the one that was found; refused memory says nothing of the text
abbrev pub IsFault : {A : Type 0} → Result A TestFileFault → TestFileFault → Type 0
IsFault found why = why ≢ fault.Memory → found ≡ Err why
