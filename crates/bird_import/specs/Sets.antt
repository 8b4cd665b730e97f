-- Variables that are sets: the set stands where the variable is used.
use Rattle.std.specs.Prelude.{◌≡◌, ◌⊎◌, ℕ, ◌+◌, true, List, [], ◌∷◌, ◌++◌, Some, All, codes, slice_get}
use Rattle.filter_tokens.specs.declared.symbol.Symbol.TheVariants as symbol
use Rattle.bird_import.specs.Alike.{AreAlike}
use Rattle.bird_import.specs.Blocks.{AreCommands}
use Rattle.bird_import.specs.Functions.{StandsAlone}
use Rattle.bird_import.specs.Rules.{Is, IsForeign, IsNamed, IsSame, IsSet, closes, is_kind}
use Rattle.bird_import.specs.declared.word.Word.{Word}
use Rattle.bird_import.specs.declared.word.WordKind.TheVariants as kind

-- a word that is not the name is written as it is
pub record IsKept (name : List ℕ) (word : Word) (written : List Word) : Type 0 where
  pub other : IsNamed name word → ⊥
  pub kept : Word
  pub whole : written ≡ kept ∷ []
  pub same : IsSame word kept

-- a word is written: the set where it is the name, and else the word itself
abbrev pub StandsFor : List ℕ → List Word → Word → List Word → Type 0
StandsFor name set word written = (IsNamed name word × AreAlike IsSame set written) ⊎ IsKept name word written

-- the first of some words is written; `later` and `others` are behind it
pub record IsFirstReplaced (name : List ℕ) (set words written later others : List Word) : Type 0 where
  pub word : Word
  pub first : List Word
  pub whole : words ≡ word ∷ later
  pub parts : written ≡ first ++ others
  pub stands : StandsFor name set word first

-- words with the set in the place of each word of a name
unfoldable pub IsReplaced : List ℕ → List Word → List Word → List Word → Type 0
IsReplaced name set [] written = written ≡ []
IsReplaced name set (word ∷ words) written =
    (others : List Word) × IsFirstReplaced name set (word ∷ words) written words others × IsReplaced name set words others

-- no word of this name is among some words
abbrev pub AreOthers : List ℕ → List Word → Type 0
AreOthers name words = All (λ word. IsNamed name word → ⊥) words

-- a variable of this name is not assigned among some words
abbrev pub AssignsOthers : List ℕ → List Word → Type 0
AssignsOthers name words =
    (k : ℕ) (x y : Word) → slice_get words k ≡ Some x → slice_get words (k + 1) ≡ Some y → IsNamed name x → Is symbol.Equal y → ⊥

-- `= SET; LATER`
pub record IsGiven (words set later : List Word) : Type 0 where
  pub equal : Word
  pub end : Word
  pub whole : words ≡ equal ∷ (set ++ end ∷ later)
  pub equals : Is symbol.Equal equal
  pub is_set : IsSet set
  pub ends : Is symbol.Semicolon end

-- behind `KIND set NAME`: `= SET; LATER`, or `; BETWEEN NAME = SET; LATER`, where that is the first use of the name
pub record IsGivenLater (name : List ℕ) (words between set later : List Word) : Type 0 where
  pub stop : Word
  pub again : Word
  pub rest : List Word
  pub whole : words ≡ stop ∷ (between ++ again ∷ rest)
  pub stops : Is symbol.Semicolon stop
  pub unused : AreOthers name between
  pub is_name : IsNamed name again
  pub alone : StandsAlone between
  pub given : IsGiven rest set later

abbrev pub IsAssigned : List ℕ → List Word → List Word → List Word → List Word → List Word → Type 0
IsAssigned name front words between set later =
    (StandsAlone front × (between ≡ []) × IsGiven words set later) ⊎ IsGivenLater name words between set later

-- behind these words a block ends in which no word of a name follows
pub record EndsBlock (name : List ℕ) (back : List Word) : Type 0 where
  pub next : Word
  pub others : List Word
  pub whole : back ≡ next ∷ others
  pub is_closing : closes next.kind ≡ true
  pub unused : AreOthers name back

-- `KIND set NAME REST`
pub record IsDeclared (words : List Word) (name : Word) (rest : List Word) : Type 0 where
  pub kind_word : Word
  pub set_word : Word
  pub whole : words ≡ kind_word ∷ set_word ∷ name ∷ rest
  pub is_kind_word : is_kind kind_word.kind ≡ true
  pub is_set_word : IsForeign (codes "set") set_word
  pub is_name : name.kind ≡ kind.Name

-- `BETWEEN LATER`, with the set in the place of the name
pub record IsWithout (name : List ℕ) (between set later words : List Word) : Type 0 where
  pub kept : List Word
  pub used : List Word
  pub written : words ≡ kept ++ used
  pub same : AreAlike IsSame between kept
  pub replaced : IsReplaced name set later used

-- a variable that has its set before these words is not assigned among them, which are commands of one block, and is not used behind that
pub record IsUsedInside (name : List ℕ) (later back : List Word) : Type 0 where
  pub once : AssignsOthers name later
  pub block : AreCommands later
  pub ends : EndsBlock name back

-- A variable that is a set is declared, and assigned once, on no condition, before it is used. It is used in the same block alone, up to
-- whose end the words go, and the set stands where it is used.
pub record IsSetPlaced (front old new back : List Word) : Type 0 where
  pub name : Word
  pub rest : List Word
  pub declared : IsDeclared old name rest
  pub between : List Word
  pub set : List Word
  pub later : List Word
  pub assigned : IsAssigned name.bytes.now front rest between set later
  pub inside : IsUsedInside name.bytes.now later back
  pub written : IsWithout name.bytes.now between set later new
