-- The bytes of a name, wherever it has them (this project's own choice).
use Rattle.std.specs.Prelude.{◌≡◌, ℕ, ◌≤◌, List, length, take}
use Rattle.filter_syntax.specs.declared.tree.name.Letters.{Letters}
use Rattle.filter_syntax.specs.declared.tree.name.Letters.TheVariants as letters

-- the longest name that stands in the tree itself
abbrev pub longest_short : ℕ
longest_short = 14

-- the bytes of a name
abbrev pub letters_of : Letters → List ℕ
letters_of (letters.Here len bytes) = take len bytes
letters_of (letters.There bytes) = bytes.items

-- no more bytes are a name's than there are
abbrev pub AreLetters : Letters → Type 0
AreLetters (letters.Here len bytes) = (len ≤ longest_short) × (length bytes ≡ longest_short)
AreLetters (letters.There bytes) = Unit {0}
