-- What becomes of the filters of a configuration.
use Rattle.std.specs.Prelude.{◌≡◌, ◌⊎◌, ℕ, ◌+◌, ◌-◌, List, [], ◌∷◌, ◌++◌, drop, map, take, ⊤}
use Rattle.filter_tokens.specs.declared.symbol.Symbol.TheVariants as symbol
use Rattle.bird_import.specs.declared.conversions.Next.{Next}
use Rattle.bird_import.specs.declared.conversions.Next.TheVariants.{Done, Stuck, Words}
use Rattle.bird_import.specs.declared.conversions.ConversionOutcome.{ConversionOutcome}
use Rattle.bird_import.specs.declared.conversions.ConversionOutcome.TheVariants.{Converted, LeftOut}
use Rattle.bird_import.specs.declared.items.Item.{Item}
use Rattle.bird_import.specs.declared.items.ItemKind.{ItemKind}
use Rattle.bird_import.specs.declared.items.ItemKind.TheVariants as item
use Rattle.bird_import.specs.declared.word.Word.{Word}
use Rattle.bird_import.specs.declared.word.WordKind.{WordKind}
use Rattle.bird_import.specs.declared.word.WordKind.TheVariants as kind
use Rattle.bird_import.specs.Rules.{Is, IsDefined, IsNamed}
use Rattle.bird_import.specs.Steps.{IsPart}

-- a fact of the words of a filter that is converted
abbrev pub IfConverted : (List Word → Type 0) → ConversionOutcome → Type 0
IfConverted P (Converted words) = P words.items
IfConverted P (LeftOut reason) = ⊤

-- a fact of the words that come next
abbrev pub IsNext : (List Word → Type 0) → Next → Type 0
IsNext P (Words after) = P after.items
IsNext P (Stuck reason) = ⊤
IsNext P Done = ⊤

-- the words of an item
abbrev pub words_of : List Word → Item → List Word
words_of words one = take (one.to - one.from) (drop one.from words)

-- words of the configuration are those of a function, in which functions call functions less deep by one
pub record IsCallee (words : List Word) (depth : ℕ) (source : List Word) (less : ℕ) : Type 0 where
  pub part : IsPart words source
  pub deep : depth ≡ less + 1

-- a word is put behind others, or what it is defined as
abbrev pub IsDefinedHere : List Word → Word → List Word → List Word → Type 0
IsDefinedHere config word before after =
    (after ≡ before ++ word ∷ []) ⊎ ((value : List Word) × IsDefined config (word ∷ []) value × (after ≡ before ++ value))

-- the kinds of words
abbrev pub kinds_of : List Word → List WordKind
kinds_of words = map (λ word. word.kind) words

-- `import filter REST` begins as `filter NAME REST`
pub record IsCalled (name : List ℕ) (rest first : List Word) : Type 0 where
  pub head : Word
  pub called : Word
  pub whole : first ≡ head ∷ called ∷ rest
  pub heads : Is symbol.Filter head
  pub names : IsNamed name called

-- `import where REST` begins as `filter NAME { if REST then accept; reject; }`
pub record IsCondition (name : List ℕ) (rest first : List Word) : Type 0 where
  pub head : Word
  pub called : Word
  pub front : List Word
  pub back : List Word
  pub whole : first ≡ head ∷ called ∷ (front ++ (rest ++ back))
  pub heads : Is symbol.Filter head
  pub names : IsNamed name called
  pub opens : kinds_of front ≡ kind.Symbol symbol.LeftBrace ∷ kind.Symbol symbol.If ∷ []
  pub closes : kinds_of back ≡ kind.Symbol symbol.Then ∷ kind.Symbol symbol.Accept ∷ kind.Symbol symbol.Semicolon ∷ kind.Symbol symbol.Reject
      ∷ kind.Symbol symbol.Semicolon ∷ kind.Symbol symbol.RightBrace ∷ []

-- the words with which a filter begins, before any step: its own, or those of one without a name under the name that it gets
abbrev pub BeginsAs : ItemKind → List ℕ → List Word → List Word → Type 0
BeginsAs item.Anonymous name (direction ∷ filter ∷ rest) first = IsCalled name rest first
BeginsAs item.Condition name (direction ∷ where_word ∷ rest) first = IsCondition name rest first
BeginsAs item.Anonymous name other first = first ≡ []
BeginsAs item.Condition name other first = first ≡ []
BeginsAs kind name all first = first ≡ all
