-- Commands that follow one another.
use Rattle.std.specs.Prelude.{◌≡◌, ◌⊎◌, ℕ, ◌+◌, ◌-◌, ◌==◌, Bool, true, false, if◌then◌else◌, List, [], ◌∷◌, ◌++◌, Some}
use Rattle.filter_tokens.specs.declared.symbol.Symbol.TheVariants as symbol
use Rattle.bird_import.specs.Rules.{Is, closes, open_behind, opens}
use Rattle.bird_import.specs.declared.word.Word.{Word}
use Rattle.bird_import.specs.declared.word.WordKind.{WordKind}
use Rattle.bird_import.specs.declared.word.WordKind.TheVariants as kind

-- how many parentheses, brackets and braces are open behind a word, where so many are before it
abbrev pub depth_behind : ℕ → WordKind → ℕ
depth_behind depth word = if opens word then depth + 1 else (if closes word then depth - 1 else depth)

-- a word is `:`
abbrev pub is_colon : WordKind → Bool
is_colon (kind.Symbol symbol.Colon) = true
is_colon other = false

-- no `:` is among some words outside of what is opened there, where so many are open before them: so no label of a `case` is, but for those of
-- a `case` that begins there
unfoldable pub has_no_label : ℕ → List Word → Bool
has_no_label depth [] = true
has_no_label depth (word ∷ words) =
    if depth == 0 then (if is_colon word.kind then false else has_no_label (depth_behind depth word.kind) words)
    else has_no_label (depth_behind depth word.kind) words

-- behind these words a command is complete
abbrev pub EndsCommands : List Word → Type 0
EndsCommands words =
    (words ≡ [])
    ⊎ ((before : List Word) × (last : Word) × (words ≡ before ++ last ∷ []) × (Is symbol.Semicolon last ⊎ Is symbol.RightBrace last))

-- commands, each of them whole
pub record AreCommands (words : List Word) : Type 0 where
  pub balanced : open_behind 0 words ≡ Some 0
  pub unlabelled : has_no_label 0 words ≡ true
  pub complete : EndsCommands words
