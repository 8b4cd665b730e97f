-- Which filters are left out, and what the others become.
use Rattle.std.specs.Prelude.{◌≡◌, ◌⊎◌, ℕ, zero, suc, ◌-◌, true, false, List, [], ◌∷◌, ◌++◌, Some, slice_get}
use Rattle.bird_import.specs.Conversions.{BeginsAs, words_of}
use Rattle.bird_import.specs.Indices.{place_at}
use Rattle.bird_import.specs.Reasons.{AreKnown, HasLeftOpen, HaveNoValue, HaveUnknown, HaveValues, IsNamedBefore, is_nameable}
use Rattle.bird_import.specs.Scopes.{AreInScope}
use Rattle.bird_import.specs.Steps.{Becomes}
use Rattle.bird_import.specs.Stuck.{AreApart, IsOutside, IsStuck}
use Rattle.bird_import.specs.declared.config.Config.{Config}
use Rattle.bird_import.specs.declared.conversions.Conversion.{Conversion}
use Rattle.bird_import.specs.declared.conversions.ConversionOutcome.{ConversionOutcome}
use Rattle.bird_import.specs.declared.conversions.ConversionOutcome.TheVariants as outcome
use Rattle.bird_import.specs.declared.items.Item.{Item}
use Rattle.bird_import.specs.declared.items.ItemKind.{ItemKind}
use Rattle.bird_import.specs.declared.items.ItemKind.TheVariants as item
use Rattle.bird_import.specs.declared.reason.Why.{Why}
use Rattle.bird_import.specs.declared.reason.Why.TheVariants as why
use Rattle.bird_import.specs.declared.word.Word.{Word}

-- The words with which a filter begins become these: each variable has a value, none has the name of a definition or is used where it is not
-- known, and each word in the end can be kept. Functions call functions at most 16 deep.
pub record AreTaken (config : Config) (first after : List Word) : Type 0 where
  pub values : HaveValues first
  pub apart : AreApart config first
  pub in_scope : AreInScope first
  pub becomes : Becomes config.words.now 16 first after
  pub known : AreKnown after

-- Why the words with which a filter begins cannot become others: a variable has no value, the steps from them come to no end, or they come to
-- words of which one cannot be kept.
abbrev pub AreRefused : Config → List Word → Why → Type 0
AreRefused config first why = HaveNoValue first why
    ⊎ (IsStuck config 16 first why ⊎ ((after : List Word) × Becomes config.words.now 16 first after × HaveUnknown after why))

-- so it is with these words
abbrev pub AreJudged : Config → List Word → ConversionOutcome → Type 0
AreJudged config first (outcome.Converted words) = AreTaken config first words.items
AreJudged config first (outcome.LeftOut reason) = AreRefused config first reason.why

-- an item is that of a filter: its braces are closed, its routes are those of IPv4, no filter before it has its name, and that is one
pub record IsFilter (config : Config) (one : Item) : Type 0 where
  pub closed : one.is_closed ≡ true
  pub ipv4 : one.is_ipv6 ≡ false
  pub first_of_name : IsNamedBefore config.items.now one → ⊥
  pub nameable : is_nameable one.kind one.name.items ≡ true

-- some words are those with which an item begins
abbrev pub Begins : Config → Item → List Word → Type 0
Begins config one first = BeginsAs one.kind one.name.items (words_of config.words.now one) first

-- why an item is not that of a filter
abbrev pub IsNoFilter : Config → Item → Why → Type 0
IsNoFilter config one why.Unclosed = (one.is_closed ≡ false) ⊎ IsOutside config one
IsNoFilter config one (why.LeftOpen name) = (one.is_closed ≡ false) × HasLeftOpen config.words.now one.from name.now
IsNoFilter config one why.Ipv6 = one.is_ipv6 ≡ true
IsNoFilter config one why.SameName = IsNamedBefore config.items.now one
IsNoFilter config one why.NoName = is_nameable one.kind one.name.items ≡ false
IsNoFilter config one other = ⊥

-- Why an item is left out.
abbrev pub HasReason : Config → Item → Why → Type 0
HasReason config one why = IsNoFilter config one why ⊎ ((first : List Word) × Begins config one first × AreRefused config first why)

-- an item's words become these
pub record ComesOf (config : Config) (one : Item) (after : List Word) : Type 0 where
  pub is_filter : IsFilter config one
  pub first : List Word
  pub begins : Begins config one first
  pub taken : AreTaken config first after

-- what becomes of an item: its words become others, or it is left out for a reason
abbrev pub IsJudged : Config → Item → ConversionOutcome → Type 0
IsJudged config one (outcome.Converted words) = ComesOf config one words.items
IsJudged config one (outcome.LeftOut reason) = HasReason config one reason.why

-- a conversion is that of an item: it has its name and the places of its first and its last word, and says what becomes of it
pub record IsConversion (config : Config) (one : Item) (conversion : Conversion) : Type 0 where
  pub named : conversion.name.now ≡ one.name.items
  pub begins : conversion.at ≡ place_at config.words.now one.from
  pub ends : conversion.end ≡ place_at config.words.now (one.to - 1)
  pub judged : IsJudged config one conversion.outcome

-- an item has no conversion where it is a function, and otherwise one
abbrev pub HasConversion : Config → ItemKind → Item → List Conversion → List Conversion → Type 0
HasConversion config item.Function one before after = after ≡ before
HasConversion config other one before after = (conversion : Conversion) × IsConversion config one conversion × (after ≡ before ++ conversion ∷ [])

-- so many of the items have these conversions, in order
unfoldable pub HaveConversions : Config → List Item → ℕ → List Conversion → Type 0
HaveConversions config items zero conversions = conversions ≡ []
HaveConversions config items (suc n) conversions = (one : Item) × (before : List Conversion) × (slice_get items n ≡ Some one)
    × HaveConversions config items n before × HasConversion config one.kind one before conversions
