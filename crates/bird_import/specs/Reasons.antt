-- Why a filter is left out.
use Rattle.std.specs.Prelude.{◌≡◌, ◌≢◌, ◌⊎◌, ℕ, ◌+◌, ◌-◌, ◌<◌, ◌≤◌, ◌++◌, ◌∷◌, [], ◌&&◌, ◌||◌, nat_eq, not, Bool, true, false, List, Option}
use Rattle.std.specs.Prelude.{Some, None, Result, Ok, Err, codes, length, slice_get, ⊤}
use Rattle.std.specs.Char.{is_ascii_digit}
use Rattle.std.specs.List.{list_all, starts_with}
use Rattle.filter_tokens.specs.Shapes.{continues_word}
use Rattle.filter_tokens.specs.declared.symbol.Symbol.TheVariants as symbol
use Rattle.bird_import.specs.Indices.{IsAt, IsBehind, IsForeignAt, IsNameAt, IsNamedAt, kind_at, bytes_at}
use Rattle.bird_import.specs.Items.{is_symbol, opens_block, outside_from}
use Rattle.bird_import.specs.Rules.{is_kind}
use Rattle.bird_import.specs.declared.conversions.Next.{Next}
use Rattle.bird_import.specs.declared.conversions.Next.TheVariants as next
use Rattle.bird_import.specs.declared.conversions.ConversionOutcome.{ConversionOutcome}
use Rattle.bird_import.specs.declared.conversions.ConversionOutcome.TheVariants as outcome
use Rattle.bird_import.specs.declared.items.Item.{Item}
use Rattle.bird_import.specs.declared.items.ItemKind.{ItemKind}
use Rattle.bird_import.specs.declared.items.ItemKind.TheVariants as item
use Rattle.bird_import.specs.declared.reason.Reason.{Reason}
use Rattle.bird_import.specs.declared.reason.Why.{Why}
use Rattle.bird_import.specs.declared.reason.Why.TheVariants as why
use Rattle.bird_import.specs.declared.step.Call.{Call}
use Rattle.bird_import.specs.declared.step.NextStep.{NextStep}
use Rattle.bird_import.specs.declared.step.NextStep.TheVariants as plan
use Rattle.bird_import.specs.declared.word.Word.{Word}
use Rattle.bird_import.specs.declared.word.WordKind.{WordKind}
use Rattle.bird_import.specs.declared.word.WordKind.TheVariants as kind

-- the name that a reason is about, if it is about one
abbrev pub name_in : Why → Option (List ℕ)
name_in (why.Unknown name) = Some name.now
name_in (why.Foreign name) = Some name.now
name_in (why.Property name) = Some name.now
name_in (why.DefinedLater name) = Some name.now
name_in (why.DefinedTwice name) = Some name.now
name_in (why.OneWord name) = Some name.now
name_in (why.UnknownCall name) = Some name.now
name_in (why.FunctionArguments name) = Some name.now
name_in (why.FunctionShape name) = Some name.now
name_in (why.SetVariable name) = Some name.now
name_in (why.Unset name) = Some name.now
name_in (why.NoValue name) = Some name.now
name_in (why.LeftOpen name) = Some name.now
name_in (why.TwoMeanings name) = Some name.now
name_in (why.OutOfScope name) = Some name.now
name_in others = None

-- words name a name, if there is one
abbrev pub AreWordsOn : Option (List ℕ) → List ℕ → Type 0
AreWordsOn None words = ⊤
AreWordsOn (Some name) words = (front : List ℕ) × (back : List ℕ) × (words ≡ front ++ name ++ back)

-- The words of a reason name what it is about. What they say of it, no clause says.
abbrev pub AreReasonWords : Why → List ℕ → Type 0
AreReasonWords why words = AreWordsOn (name_in why) words

-- why a filter is left out, if what is planned does not fit, or by what is planned itself
abbrev pub why_of_plan : NextStep → Option Why
why_of_plan (plan.Step step) = Some step.stuck.why
why_of_plan (plan.Stuck reason) = Some reason.why
why_of_plan plan.Done = None

-- why it is left out, if what is written for a call does not stand for it, or in its place
abbrev pub why_of_call : Result Call Reason → Why
why_of_call (Ok call) = call.stuck.why
why_of_call (Err reason) = reason.why

-- why it is left out in place of a step
abbrev pub why_of_next : Next → Option Why
why_of_next (next.Words words) = None
why_of_next (next.Stuck reason) = Some reason.why
why_of_next next.Done = None

-- why it is left out in the end
abbrev pub why_of : ConversionOutcome → Option Why
why_of (outcome.Converted words) = None
why_of (outcome.LeftOut reason) = Some reason.why

-- an item is a filter before another one, and has its name
pub record HasNameBefore (other one : Item) : Type 0 where
  pub earlier : other.from < one.from
  pub is_filter : other.kind ≢ item.Function
  pub same : other.name.items ≡ one.name.items

-- bytes are spelled as a name: letters, digits and `_`, of which the first is no digit
abbrev pub is_spelled_name : List ℕ → Bool
is_spelled_name [] = false
is_spelled_name (first ∷ others) = not (is_ascii_digit first) && list_all continues_word (first ∷ others)

-- an item of a kind has a name of this language: one in quotes is a filter's own, and a word that cannot be kept
abbrev pub is_nameable : ItemKind → List ℕ → Bool
is_nameable item.Anonymous name = is_spelled_name name
is_nameable item.Condition name = is_spelled_name name
is_nameable item.Filter name = starts_with nat_eq name (codes "'") || is_spelled_name name
is_nameable item.Function name = true

-- a parenthesis or a bracket is not closed: a `;` stands behind it, outside of what is opened between
pub record IsLeftOpen (words : List Word) (k : ℕ) : Type 0 where
  pub opens : IsAt symbol.LeftParen words k ⊎ IsAt symbol.LeftBracket words k
  pub stop : ℕ
  pub stops : outside_from words (is_symbol symbol.Semicolon) (k + 1) ≡ Some stop

-- so is one from an index on, which is spelled so
abbrev pub HasLeftOpen : List Word → ℕ → List ℕ → Type 0
HasLeftOpen words from bytes = (k : ℕ) × (from ≤ k) × IsLeftOpen words k × (bytes_at words k ≡ bytes)

-- a filter before an item has its name
abbrev pub IsNamedBefore : List Item → Item → Type 0
IsNamedBefore items one = (k : ℕ) × (other : Item) × (slice_get items k ≡ Some other) × HasNameBefore other one

-- a variable of a name is declared at an index: behind a kind, or behind `set`
abbrev pub IsVariableAt : List ℕ → List Word → ℕ → Type 0
IsVariableAt name words k =
    (0 < k) × IsNamedAt name words k × ((is_kind (kind_at words (k - 1)) ≡ true) ⊎ IsForeignAt (codes "set") words (k - 1))

-- so it is among some words
abbrev pub IsVariable : List ℕ → List Word → Type 0
IsVariable name words =
    (k : ℕ) × (k < length words) × IsVariableAt name words k

-- a part of a prefix or of an address that this language has
abbrev pub IsProperty : List ℕ → Type 0
IsProperty name = (name ≡ codes "len") ⊎ (name ≡ codes "mask")

-- a word of a kind at an index can be kept: a name is the filter's own, a part of a value or a variable
abbrev pub IsKnown : WordKind → List Word → ℕ → Type 0
IsKnown kind.Strange words k = ⊥
IsKnown kind.Foreign words k = ⊥
IsKnown kind.Name words k = IsBehind symbol.Filter words k
    ⊎ ((IsBehind symbol.Dot words k × IsProperty (bytes_at words k)) ⊎ IsVariable (bytes_at words k) words)
IsKnown other words k = ⊤

-- each of some words can be kept
abbrev pub AreKnown : List Word → Type 0
AreKnown words = (k : ℕ) → k < length words → IsKnown (kind_at words k) words k

-- a name of this language at an index is no variable, nor the filter's own, nor behind a dot
pub record IsNoVariable (name : List ℕ) (words : List Word) (k : ℕ) : Type 0 where
  pub is : IsNamedAt name words k
  pub not_own : IsBehind symbol.Filter words k → ⊥
  pub not_part : IsBehind symbol.Dot words k → ⊥
  pub undeclared : IsVariable name words → ⊥

-- the word at an index cannot be kept
abbrev pub IsUnknown : List Word → ℕ → Why → Type 0
IsUnknown words k why.Strange = kind_at words k ≡ kind.Strange
IsUnknown words k (why.Foreign name) = IsForeignAt name.now words k
IsUnknown words k (why.Property name) = IsNamedAt name.now words k × IsBehind symbol.Dot words k × (IsProperty name.now → ⊥)
IsUnknown words k (why.Unknown name) = IsNoVariable name.now words k
IsUnknown words k other = ⊥

-- so is one of some words
abbrev pub HaveUnknown : List Word → Why → Type 0
HaveUnknown words why = (k : ℕ) × (k < length words) × IsUnknown words k why

-- the name of a variable whose kind stands at an index: before it may be `set`
abbrev pub IsNameBehind : List Word → ℕ → ℕ → Type 0
IsNameBehind words k n =
    (IsForeignAt (codes "set") words (k + 1) × (n ≡ k + 2)) ⊎ ((IsForeignAt (codes "set") words (k + 1) → ⊥) × (n ≡ k + 1))

-- an index is in a body
abbrev pub IsInBody : List Word → ℕ → Type 0
IsInBody words k = (block : ℕ) × (opens_block words block ≡ true) × (block ≤ k)

-- `KIND NAME;`, where the name is at another index
pub record LacksValue (words : List Word) (k n : ℕ) : Type 0 where
  pub is_kind_word : is_kind (kind_at words k) ≡ true
  pub at : IsNameBehind words k n
  pub is_name : IsNameAt words n
  pub stops : IsAt symbol.Semicolon words (n + 1)

-- a body declares a variable without a value
abbrev pub HaveNoValue : List Word → Why → Type 0
HaveNoValue words (why.NoValue name) = (k : ℕ) × (n : ℕ) × IsInBody words k × LacksValue words k n × (bytes_at words n ≡ name.now)
HaveNoValue words other = ⊥

-- no body does
abbrev pub HaveValues : List Word → Type 0
HaveValues words = (k : ℕ) (n : ℕ) → k < length words → IsInBody words k → LacksValue words k n → ⊥
