-- The fixed words of a test file. (This project's own choice.)
use Rattle.std.specs.Prelude.{ℕ, List, [], ◌∷◌, Option, find, codes}
use Rattle.line_protocol.specs.Words.{is_spelled}
use Rattle.filter_checks.specs.declared.keyword.TestKeyword.{TestKeyword}
use Rattle.filter_checks.specs.declared.keyword.TestKeyword.TheVariants as word

-- how each is written
abbrev pub keyword_text : TestKeyword → List ℕ
keyword_text word.Filter = codes "filter"
keyword_text word.Size = codes "size"
keyword_text word.Every = codes "every"
keyword_text word.Metric = codes "metric"
keyword_text word.Arrow = codes "->"
keyword_text word.Accept = codes "accept"
keyword_text word.Reject = codes "reject"

-- all of them
abbrev pub keywords : List TestKeyword
keywords = word.Filter ∷ word.Size ∷ word.Every ∷ word.Metric ∷ word.Arrow ∷ word.Accept ∷ word.Reject ∷ []

-- the keyword that is written so
unfoldable pub keyword_in : List ℕ → Option TestKeyword
keyword_in text = find (is_spelled keyword_text text) keywords
