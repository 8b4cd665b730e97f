-- The elements of JUnit's XML, one a line. (JUnit's format as build servers read it; which attributes there are is this project's own choice.)
use Rattle.std.specs.Prelude.{ℕ, List, ◌++◌, [], ◌∷◌, codes}
use Rattle.report_formats.specs.Escaping.{attribute}

-- what stands before all elements, and behind them
unfoldable pub document_head : List ℕ
document_head = codes "<?xml version=\"1.0\" encoding=\"UTF-8\"?>" ++ 10 ∷ [] ++ codes "<testsuites>" ++ 10 ∷ []
    ++ codes "<testsuite name=\"ncroute test\">" ++ 10 ∷ []

unfoldable pub document_end : List ℕ
document_end = codes "</testsuite>" ++ 10 ∷ [] ++ codes "</testsuites>" ++ 10 ∷ []

-- what stands before the file of a test, and between it and its name
unfoldable pub before_file : List ℕ
before_file = codes "<testcase classname=\""

unfoldable pub before_name : List ℕ
before_name = codes "\" name=\""

-- what stands behind the name of a test that holds, and before what is said of others
unfoldable pub passed_end : List ℕ
passed_end = codes "\"/>" ++ 10 ∷ []

unfoldable pub before_failure : List ℕ
before_failure = codes "\"><failure message=\""

unfoldable pub before_error : List ℕ
before_error = codes "\"><error message=\""

-- and behind that
unfoldable pub case_end : List ℕ
case_end = codes "\"/></testcase>" ++ 10 ∷ []

abbrev pub named_case : List ℕ → List ℕ → List ℕ
named_case file name = before_file ++ attribute file ++ before_name ++ attribute name

-- a test of a file that holds
abbrev pub passed_case : List ℕ → List ℕ → List ℕ
passed_case file name = named_case file name ++ passed_end

-- one that does not, with what was found
abbrev pub failed_case : List ℕ → List ℕ → List ℕ → List ℕ
failed_case file name found = named_case file name ++ before_failure ++ attribute found ++ case_end

-- one of which nothing is known, with the reason
abbrev pub broken_case : List ℕ → List ℕ → List ℕ → List ℕ
broken_case file name why = named_case file name ++ before_error ++ attribute why ++ case_end
