-- Worked rows: how many bytes a word has that is no token, what it is, and what stands between the quotes of a text.
use Rattle.std.proofs.Common.{◌≡◌, [], ◌∷◌, ◌++◌, refl}
use Rattle.std.specs.Prelude.{codes}
use Rattle.filter_tokens.specs.Shapes.{quote, line_feed}
use Rattle.bird_import.specs.Cutting.{other_kind, other_len}
use Rattle.bird_import.specs.Including.{between_quotes}
use Rattle.bird_import.specs.declared.word.WordKind.TheVariants as kind

-- a word goes on up to the space behind it
word : other_len (codes "define limit = 1;") ≡ 6
word = refl

-- an address that is none goes on with dots and slashes
address : other_len (codes "300.1.2.3/24;") ≡ 12
address = refl

-- a word does not
dotted : other_len (codes "source.x") ≡ 6
dotted = refl

-- a name in single quotes ends with the second of them
name : other_len (codes "'a b' c") ≡ 5
name = refl

-- where none ends on its line, the quote stands alone
open_name : other_len (codes "'a b" ++ (line_feed ∷ codes "c'")) ≡ 1
open_name = refl

-- an operator has one byte
operator : other_len (codes "%a") ≡ 1
operator = refl

-- words and operators are BIRD's
foreign_word : other_kind (codes "define") ≡ kind.Foreign
foreign_word = refl

foreign_operator : other_kind (codes "%a") ≡ kind.Foreign
foreign_operator = refl

-- other bytes are nobody's
strange : other_kind (codes "$a") ≡ kind.Strange
strange = refl

-- the name of a file
file_name : between_quotes (quote ∷ (codes "a.conf" ++ (quote ∷ []))) ≡ codes "a.conf"
file_name = refl

-- one quote alone has nothing between
lone_quote : between_quotes (quote ∷ []) ≡ quote ∷ []
lone_quote = refl
