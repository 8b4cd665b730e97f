-- How it is told that a text is no test file. (This project's own choice.)
use Rattle.std.specs.Prelude.{ℕ, Bool, true, false, List, [], ◌∷◌, ◌++◌, codes, decimal}
use Rattle.refusal_words.specs.Shown.{shown}
use Rattle.filter_checks.specs.declared.test_file.TestFileFault.{TestFileFault}
use Rattle.filter_checks.specs.declared.test_file.TestFileFault.TheVariants as fault

-- the code that names a fault, and the number of the line that it names: 0 for what is lacking at the end
abbrev pub code_and_place : TestFileFault → List ℕ × ℕ
code_and_place (fault.Line at) = (codes "O1", at)
code_and_place fault.Ended = (codes "O1", 0)
code_and_place fault.NoTest = (codes "O1", 0)
code_and_place fault.Name = (codes "O1", 0)
code_and_place fault.TooLong = (codes "O7", 1)
code_and_place fault.Memory = (codes "E3", 0)

abbrev pub fault_code : TestFileFault → List ℕ
fault_code why = (code_and_place why).0

abbrev pub fault_line : TestFileFault → ℕ
fault_line why = (code_and_place why).1

-- what is wrong, in words, behind the name of the file
unfoldable pub line_words : List ℕ
line_words = codes ": this line is none of `filter FILE`, `size N`, `PREFIX METRIC -> VERDICT` and `every PATTERN -> VERDICT`, or a number in it is out of range (O1)"

abbrev pub fault_words : TestFileFault → List ℕ
fault_words (fault.Line at) = codes ":" ++ decimal at ++ line_words
fault_words fault.Ended = codes ": it ends before its `filter FILE` and `size N` (O1)"
fault_words fault.NoTest = codes ": it has no test (O1)"
fault_words fault.Name = codes ": the name of its filter is not UTF-8 (O1)"
fault_words fault.TooLong = codes ": longer than 1048576 bytes (O7)"
fault_words fault.Memory = codes ": out of memory (E3)"

-- what is told of a file of this name: words, or its refusal alone
abbrev pub fault_tail : Bool → TestFileFault → List ℕ
fault_tail true why = fault_words why
fault_tail false why = codes ": refused " ++ fault_code why ++ codes " " ++ decimal (fault_line why)

abbrev pub fault_text : Bool → List ℕ → TestFileFault → List ℕ
fault_text is_explained name why = shown name ++ fault_tail is_explained why ++ 10 ∷ []
