-- Where the steps from the words of a filter go no further, so that it is left out.
use Rattle.std.specs.Prelude.{◌≡◌, ◌⊎◌, ℕ, zero, suc, ◌+◌, ◌-◌, ◌*◌, ◌<◌, ◌≤◌, List, ◌++◌, Some, true, codes, length, max, slice_get}
use Rattle.filter_tokens.specs.declared.symbol.Symbol.TheVariants as symbol
use Rattle.bird_import.specs.Conversions.{words_of}
use Rattle.bird_import.specs.Indices.{IsAt, IsBehind, IsForeignAt, IsNamedAt, kind_at}
use Rattle.bird_import.specs.Reasons.{IsVariable}
use Rattle.bird_import.specs.Rules.{IsNamed, ends_command, is_constant, is_kind}
use Rattle.bird_import.specs.Scopes.{IsStray}
use Rattle.bird_import.specs.Sets.{IsDeclared}
use Rattle.bird_import.specs.Steps.{Becomes, BecomesWithin, Reaches}
use Rattle.bird_import.specs.declared.config.Config.{Config}
use Rattle.bird_import.specs.declared.defines.NameDefinition.{NameDefinition}
use Rattle.bird_import.specs.declared.defines.NameDefinition.TheVariants as found
use Rattle.bird_import.specs.declared.items.Definition.{Definition}
use Rattle.bird_import.specs.declared.items.Item.{Item}
use Rattle.bird_import.specs.declared.items.ItemKind.TheVariants as item
use Rattle.bird_import.specs.declared.reason.Why.{Why}
use Rattle.bird_import.specs.declared.reason.Why.TheVariants as why
use Rattle.bird_import.specs.declared.word.Word.{Word}
use Rattle.bird_import.specs.declared.word.WordKind.TheVariants as kind

-- a name is among some words: `word`
abbrev pub IsUsed : List ℕ → Word → List Word → Type 0
IsUsed name word words = (k : ℕ) × (slice_get words k ≡ Some word) × IsNamed name word

-- a function is called at an index
pub record IsCallAt (name : List ℕ) (words : List Word) (k : ℕ) : Type 0 where
  pub is : IsNamedAt name words k
  pub opens : IsAt symbol.LeftParen words (k + 1)
  pub whole : IsBehind symbol.Dot words k → ⊥

-- so it is by this word
pub record IsCallBy (words : List Word) (k : ℕ) (word : Word) : Type 0 where
  pub is : slice_get words k ≡ Some word
  pub within : k < length words
  pub call : IsCallAt word.bytes.now words k

-- a command begins at an index
abbrev pub BeginsCommandAt : List Word → ℕ → Type 0
BeginsCommandAt words k = (0 < k) × (ends_command (kind_at words (k - 1)) ≡ true)

-- what is printed behind `accept` or `reject` is more than a text
pub record PrintsMore (words : List Word) (k : ℕ) : Type 0 where
  pub ends : IsAt symbol.Accept words k ⊎ IsAt symbol.Reject words k
  pub something : IsAt symbol.Semicolon words (k + 1) → ⊥
  pub more : kind_at words (k + 1) ≡ kind.Text → IsAt symbol.Semicolon words (k + 2) → ⊥

-- a command prints
abbrev pub Prints : List Word → ℕ → Type 0
Prints words k = (IsForeignAt (codes "print") words k ⊎ IsForeignAt (codes "printn") words k) ⊎ PrintsMore words k

-- a `;` is missing before `else` or a closing brace
pub record WantsSemicolon (words : List Word) (k : ℕ) : Type 0 where
  pub ends : IsAt symbol.Else words k ⊎ IsAt symbol.RightBrace words k
  pub missing : BeginsCommandAt words k → ⊥

-- `KIND NAME =`
abbrev pub HasValue : List Word → ℕ → Type 0
HasValue words k = (is_kind (kind_at words k) ≡ true) × (kind_at words (k + 1) ≡ kind.Name) × IsAt symbol.Equal words (k + 2)

-- `( CONSTANT )`
pub record IsWrapped (words : List Word) (k : ℕ) : Type 0 where
  pub opens : IsAt symbol.LeftParen words k
  pub constant : is_constant (kind_at words (k + 1)) ≡ true
  pub closes : IsAt symbol.RightParen words (k + 2)

-- a step is due at an index that puts no other words in: a constant without its parentheses, a `;`, a declaration, a test of the kind of a prefix,
-- an operator of a chain, or what a function returns on a condition
abbrev pub IsDue : List Word → ℕ → Type 0
IsDue words k = (IsWrapped words k ⊎ WantsSemicolon words k)
    ⊎ (HasValue words k ⊎ (IsNamedAt (codes "type") words k ⊎ ((IsAt symbol.And words k ⊎ IsAt symbol.Or words k) ⊎ IsForeignAt (codes "return") words k)))

-- among some words is `KIND set NAME`
pub record HasSetVariable (name : List ℕ) (words : List Word) : Type 0 where
  pub front : List Word
  pub old : List Word
  pub word : Word
  pub rest : List Word
  pub parts : words ≡ front ++ old
  pub declared : IsDeclared old word rest
  pub same : word.bytes.now ≡ name

-- a function returns at two places
abbrev pub ReturnsTwice : List Word → Type 0
ReturnsTwice words = (j : ℕ) × (k : ℕ) × (j < k) × IsForeignAt (codes "return") words j × IsForeignAt (codes "return") words k

-- What stands in some words for which a filter that comes to them is left out, whatever else the configuration has.
abbrev pub Hinder : List Word → Why → Type 0
Hinder words (why.FunctionArguments name) = (k : ℕ) × IsCallAt name.now words k × (IsAt symbol.RightParen words (k + 2) → ⊥)
Hinder words (why.FunctionShape name) = (k : ℕ) × IsCallAt name.now words k × IsAt symbol.RightParen words (k + 2)
Hinder words why.EarlyReturn = ReturnsTwice words
Hinder words (why.SetVariable name) = HasSetVariable name.now words
Hinder words (why.OutOfScope name) = (declared : ℕ) × (k : ℕ) × IsStray name.now words declared k
Hinder words why.PrintDoesMore = (k : ℕ) × Prints words k
Hinder words why.CaseLabels = (k : ℕ) × IsAt symbol.Case words k
Hinder words why.Unwritten = (k : ℕ) × IsDue words k
Hinder words other = ⊥

-- an item is the function of a name
pub record IsFunctionNamed (name : List ℕ) (one : Item) : Type 0 where
  pub is_function : one.kind ≡ item.Function
  pub same : one.name.items ≡ name

module _ (config : Config) where
  -- so many definitions stand before one of a name
  pub record IsDefinition (name : List ℕ) (i : ℕ) (definition : Definition) : Type 0 where
    pub is : slice_get config.definitions.now i ≡ Some definition
    pub names : IsNamedAt name config.words.now definition.name

  -- so many items stand before a function of a name
  pub record IsFunctionOf (name : List ℕ) (i : ℕ) (one : Item) : Type 0 where
    pub is : slice_get config.items.now i ≡ Some one
    pub named : IsFunctionNamed name one

  -- the word of the configuration at an index stands before a place
  abbrev pub StandsBefore : ℕ → ℕ → Type 0
  StandsBefore k place = (last : Word) × (slice_get config.words.now k ≡ Some last) × (last.at < place)

  -- a name is used before a definition of it ends, or a function of this name
  abbrev pub IsLater : List ℕ → Word → Type 0
  IsLater name word =
      ((i : ℕ) × (definition : Definition) × IsDefinition name i definition × (StandsBefore definition.to word.at → ⊥))
      ⊎ ((i : ℕ) × (one : Item) × IsFunctionOf name i one × ((one.is_closed ≡ true) × StandsBefore (one.to - 1) word.at → ⊥))

  -- a name has two definitions, or is that of two functions
  abbrev pub IsTwice : List ℕ → Type 0
  IsTwice name =
      ((i : ℕ) × (j : ℕ) × (one : Definition) × (other : Definition) × (i < j) × IsDefinition name i one × IsDefinition name j other)
      ⊎ ((i : ℕ) × (j : ℕ) × (one : Item) × (other : Item) × (i < j) × IsFunctionOf name i one × IsFunctionOf name j other)

  -- a name is defined
  abbrev pub IsDefinedName : List ℕ → Type 0
  IsDefinedName name = (i : ℕ) × (definition : Definition) × IsDefinition name i definition

  -- no variable among some words has the name of a definition, so that no name means both
  abbrev pub AreApart : List Word → Type 0
  AreApart words = (name : List ℕ) → IsVariable name words → IsDefinedName name → ⊥

  -- what is found of a name among so many definitions: its only one, two of them, or that there is none
  abbrev pub IsFound : List ℕ → ℕ → NameDefinition → Type 0
  IsFound name n (found.Once definition) = (i : ℕ) × (i < n) × IsDefinition name i definition
      × ((j : ℕ) (other : Definition) → j < n → IsDefinition name j other → j ≡ i)
  IsFound name n found.Twice = (i : ℕ) × (j : ℕ) × (one : Definition) × (other : Definition) × (i < j) × IsDefinition name i one × IsDefinition name j other
  IsFound name n found.Never = (j : ℕ) (other : Definition) → j < n → IsDefinition name j other → ⊥

  -- it is defined by more than one word
  abbrev pub IsDefinedLonger : List ℕ → Type 0
  IsDefinedLonger name = (i : ℕ) × (definition : Definition) × IsDefinition name i definition × (definition.from + 1 < definition.to)

  -- the same, with what it has
  abbrev pub Hinders : List Word → Why → Type 0
  Hinders words (why.Unknown name) = (word : Word) × IsUsed name.now word words × IsDefinedName name.now
  Hinders words (why.DefinedLater name) = (word : Word) × IsUsed name.now word words × IsLater name.now word
  Hinders words (why.DefinedTwice name) = (word : Word) × IsUsed name.now word words × IsTwice name.now
  Hinders words (why.TwoMeanings name) = IsVariable name.now words × IsDefinedName name.now
  Hinders words (why.OneWord name) = (word : Word) × IsUsed name.now word words × IsDefinedLonger name.now
  Hinders words (why.UnknownCall name) = (word : Word) × IsUsed name.now word words × ((i : ℕ) → i < length config.items.now → (one : Item) → IsFunctionOf name.now i one → ⊥)
  Hinders words other = Hinder words other

  -- the words of an item are none of the configuration's
  abbrev pub IsOutside : Item → Type 0
  IsOutside one = length config.words.now < max one.from one.to

  -- an item is the function of a name
  abbrev pub IsCalled : List ℕ → Item → Type 0
  IsCalled name one = (i : ℕ) × IsFunctionOf name i one

  -- a function is called among some words: `one`
  pub record Calls (words : List Word) (one : Item) : Type 0 where
    pub name : List ℕ
    pub k : ℕ
    pub is_call : IsCallAt name words k
    pub is_called : IsCalled name one

  -- a call is too deep: functions call functions so deep at most
  abbrev pub IsTooDeep : ℕ → List Word → Why → Type 0
  IsTooDeep depth words why.TooLong = (one : Item) × Calls words one × ((depth ≡ 0) ⊎ IsOutside one)
  IsTooDeep depth words other = ⊥

  -- from some words on there are too many steps, or words, or steps that go through too many words
  abbrev pub TakesLong : ℕ → List Word → Why → Type 0
  TakesLong depth before why.TooLong = ((words : List Word) × Becomes config.words.now depth before words × (65536 < length words))
      ⊎ ((n : ℕ) × (words : List Word) × ((65536 ≤ n) ⊎ (33554432 < n * length words))
      × Reaches config.words.now (BecomesWithin config.words.now depth) n before words)
  TakesLong depth before other = ⊥

  -- the steps from some words take long, or come to words that halt them
  abbrev pub EndsBy : ℕ → (List Word → Why → Type 0) → List Word → Why → Type 0
  EndsBy depth Halting before why =
      TakesLong depth before why ⊎ ((words : List Word) × Becomes config.words.now depth before words × Halting words why)

  -- The steps go no further at some words: what stands in them hinders, or they call a function whose own steps go no further. Functions
  -- call functions so deep at most.
  unfoldable pub Halts : ℕ → List Word → Why → Type 0
  Halts zero words why = Hinders words why ⊎ IsTooDeep zero words why
  Halts (suc depth) words why = Hinders words why
      ⊎ (IsTooDeep (suc depth) words why ⊎ ((one : Item) × Calls words one × EndsBy depth (Halts depth) (words_of config.words.now one) why))

  -- the steps from some words do not come to an end
  abbrev pub IsStuck : ℕ → List Word → Why → Type 0
  IsStuck depth before why = EndsBy depth (Halts depth) before why
