-- Where in a filter's text an instruction comes from, and the word that stands there. (This project's own choice.)
use Rattle.std.specs.Prelude.{ℕ, ◌==◌, ◌&&◌, ◌||◌, Bool, nat_le, max, List, [], ◌∷◌, ◌++◌}
use Rattle.std.specs.Prelude.{Option, Some, None, decimal, drop, length, take, take_while}
use Rattle.filter_traces.specs.declared.site.InstructionSite.{InstructionSite}

-- a byte of a name, a keyword or a number
abbrev pub is_word_byte : ℕ → Bool
is_word_byte b = (nat_le 97 b && nat_le b 122) || (nat_le 65 b && nat_le b 90) || (nat_le 48 b && nat_le b 57) || b == 95

-- a byte of `&&` and of `||`
abbrev pub is_joining_byte : ℕ → Bool
is_joining_byte b = b == 38 || b == 124

-- the length of the word with which some bytes begin: of a name, a keyword or a number, or of `&&` or `||`; otherwise it is one byte
abbrev pub word_length : List ℕ → ℕ
word_length bytes = max (max (length (take_while is_word_byte bytes)) (length (take_while is_joining_byte bytes))) 1

-- the word that stands at a byte of a text
abbrev pub word_at : List ℕ → ℕ → List ℕ
word_at text byte = take (word_length (drop byte text)) (drop byte text)

-- the word at a site, if there is one
abbrev pub word_of : List ℕ → Option InstructionSite → List ℕ
word_of text None = []
word_of text (Some site) = word_at text site.byte

-- the line and the column of a site
abbrev pub site_text : Option InstructionSite → List ℕ
site_text None = []
site_text (Some site) = decimal site.line ++ 58 ∷ [] ++ decimal site.column
