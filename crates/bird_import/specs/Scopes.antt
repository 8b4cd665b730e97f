-- Where variables are known: from their declaration on, up to the end of its block, or of its part of a `case`. As in the BIRD 2.0 User's
-- Guide, but for the parts, of which that says nothing: so it is in BIRD 2.0.12.
use Rattle.std.specs.Prelude.{◌⊎◌, ℕ, ◌+◌, ◌<◌, ◌||◌, if◌then◌else◌, Bool, List, Option, Some, None, length}
use Rattle.filter_tokens.specs.declared.symbol.Symbol.TheVariants as symbol
use Rattle.bird_import.specs.Indices.{IsBehind, IsNamedAt, kind_at}
use Rattle.bird_import.specs.Items.{is_symbol, outside_from}
use Rattle.bird_import.specs.Reasons.{IsVariableAt}
use Rattle.bird_import.specs.Rules.{closes}
use Rattle.bird_import.specs.declared.word.Word.{Word}
use Rattle.bird_import.specs.declared.word.WordKind.{WordKind}

-- a name stands at an index, and is neither that of the filter nor behind a dot
pub record IsUse (name : List ℕ) (words : List Word) (k : ℕ) : Type 0 where
  pub is : IsNamedAt name words k
  pub not_part : IsBehind symbol.Dot words k → ⊥
  pub not_own : IsBehind symbol.Filter words k → ⊥

-- a word with which a block ends, or a part of a `case`, or what is in parentheses: the `:` is that of the label of the next part
unfoldable pub ends_block : WordKind → Bool
ends_block word = closes word || is_symbol symbol.Colon word

-- an index, if a closing brace or a `:` stands there
abbrev pub end_at : List Word → Option ℕ → Option ℕ
end_at words None = None
end_at words (Some end) =
    if is_symbol symbol.RightBrace (kind_at words end) || is_symbol symbol.Colon (kind_at words end) then Some end else None

-- the index of the brace that closes the block in which a word stands, or of the `:` behind its part of a `case`, if one does: parentheses are
-- no block
abbrev pub end_of_block : List Word → ℕ → Option ℕ
end_of_block words k = end_at words (outside_from words ends_block (k + 1))

-- an index is before a declaration, or behind the end of its block
abbrev pub LiesOutside : ℕ → Option ℕ → ℕ → Type 0
LiesOutside declared None k = k < declared
LiesOutside declared (Some close) k = (k < declared) ⊎ (close < k)

-- a variable of a name is declared at an index, and the name is used at another where that is not known
pub record IsStray (name : List ℕ) (words : List Word) (declared k : ℕ) : Type 0 where
  pub is_variable : IsVariableAt name words declared
  pub is_use : IsUse name words k
  pub outside : LiesOutside declared (end_of_block words declared) k

-- each variable is used where it is known alone
abbrev pub AreInScope : List Word → Type 0
AreInScope words = (declared : ℕ) → declared < length words → (name : List ℕ) (k : ℕ) → IsVariableAt name words declared → k < length words
    → IsUse name words k → LiesOutside declared (end_of_block words declared) k → ⊥
