-- The words of a line as they are repeated to people. (This project's own choice.)
use Rattle.std.specs.Prelude.{◌≡◌, ◌⊎◌, ◌<◌, ◌≤◌, ◌/◌, ℕ, List, [], ◌∷◌, ◌++◌, All, Some, codes, length, slice_get}
use Rattle.std.specs.Str.{IsUtf8, chars}
use Rattle.strsim.specs.Edits.{osa_table}

-- a text that is short enough to be repeated
abbrev pub IsShortText : List ℕ → Type 0
IsShortText word = (length word ≤ 64) × IsUtf8 word

-- A word is repeated in backticks, where it can be.
abbrev pub Spells : List ℕ → List ℕ → Type 0
Spells word text = (IsShortText word × (text ≡ 96 ∷ word ++ 96 ∷ []))
    ⊎ ((¬ IsShortText word) × (text ≡ codes "this word"))

-- how many edits lead from a word to another: two letters that changed places are one
abbrev pub edits : List ℕ → List ℕ → ℕ
edits word other = (osa_table (chars word) (chars other)).last_row (length (chars other))

-- so many edits that the other word is not meant
abbrev pub IsFar : List ℕ → List ℕ → Type 0
IsFar word other = length word / 3 < edits word other

-- It is one of the known words, it is not far, and none of them is nearer.
pub record IsNearest (word : List ℕ) (known : List (List ℕ)) (near : List ℕ) : Type 0 where
  pub index : ℕ
  pub is_known : slice_get known index ≡ Some near
  pub is_near : edits word near ≤ length word / 3
  pub least : All (λ other. edits word near ≤ edits word other) known
