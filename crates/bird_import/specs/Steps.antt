-- Steps from a filter of BIRD's to one of this language.
use Rattle.std.specs.Prelude.{◌≡◌, ◌⊎◌, ℕ, zero, suc, List, ◌++◌, drop, take}
use Rattle.bird_import.specs.declared.word.Word.{Word}
use Rattle.bird_import.specs.declared.step.Rule.{Rule}
use Rattle.bird_import.specs.declared.step.Rule.TheVariants as rule
use Rattle.bird_import.specs.Cases.{IsCaseBraced, IsCaseTaken}
use Rattle.bird_import.specs.Functions.{IsCallOf, IsDecided}
use Rattle.bird_import.specs.Rules.{IsChainGrouped, IsDefined, IsHoisted, IsSeparated, IsShortened, IsTypeTest, IsUnprinted, IsUnwrapped}
use Rattle.bird_import.specs.Sets.{IsSetPlaced}

-- a part of some words is written as another: `front old back` as `front new back`, in a way that may look at what is beside it
pub record Replaces (Way : List Word → List Word → List Word → List Word → Type 0) (before after : List Word) : Type 0 where
  pub front : List Word
  pub old : List Word
  pub new : List Word
  pub back : List Word
  pub was : before ≡ front ++ (old ++ back)
  pub is : after ≡ front ++ new ++ back
  pub way : Way front old new back

-- `config` is the words of the configuration.
module _ (config : List Word) where
  -- By a rule the words `old` of a filter, with `front` before them and `back` behind them, are written as `new`.
  abbrev pub Fits : Rule → List Word → List Word → List Word → List Word → Type 0
  Fits rule.Defined front old new back = IsDefined config old new
  Fits rule.Unprinted front old new back = IsUnprinted old new
  Fits rule.Shortened front old new back = IsShortened front old new
  Fits rule.Separated front old new back = IsSeparated old new back
  Fits rule.Ipv4Only front old new back = IsTypeTest old new
  Fits rule.Grouped front old new back = IsChainGrouped front old new back
  Fits rule.Declared front old new back = IsHoisted old new
  Fits rule.Returned front old new back = IsDecided front old new
  Fits rule.SetPlaced front old new back = IsSetPlaced front old new back
  Fits rule.CaseTaken front old new back = IsCaseTaken old new back
  Fits rule.CaseBraced front old new back = IsCaseBraced old new
  Fits rule.Unwrapped front old new back = IsUnwrapped front old new back

  -- words of the configuration that follow one another
  pub record IsPart (words : List Word) : Type 0 where
    pub at : ℕ
    pub len : ℕ
    pub is : words ≡ take len (drop at config)

  -- the words of a function of the configuration have become others, and these stand for a call of it
  pub record IsCallWritten (Becoming : List Word → List Word → Type 0) (front old new back : List Word) : Type 0 where
    pub source : List Word
    pub part : IsPart source
    pub function : List Word
    pub becomes : Becoming source function
    pub call : IsCallOf source function front old new

  -- one step: by a rule, or a call. `Becoming` says what the words of a function become.
  abbrev pub Writes : (List Word → List Word → Type 0) → List Word → List Word → Type 0
  Writes Becoming before after = ((by : Rule) × Replaces (Fits by) before after) ⊎ Replaces (IsCallWritten Becoming) before after

  -- so many steps
  unfoldable pub Reaches : (List Word → List Word → Type 0) → ℕ → List Word → List Word → Type 0
  Reaches Becoming zero before after = after ≡ before
  Reaches Becoming (suc n) before after = (mid : List Word) × Reaches Becoming n before mid × Writes Becoming mid after

  -- words become others by steps
  abbrev pub BySteps : (List Word → List Word → Type 0) → List Word → List Word → Type 0
  BySteps Becoming before after = (n : ℕ) × Reaches Becoming n before after

  -- what the words of a function become, where functions call functions less deep than this
  unfoldable pub BecomesWithin : ℕ → List Word → List Word → Type 0
  BecomesWithin zero before after = ⊥
  BecomesWithin (suc depth) before after = BySteps (BecomesWithin depth) before after

  -- words become others, where functions call functions so deep at most
  abbrev pub Becomes : ℕ → List Word → List Word → Type 0
  Becomes depth before after = BySteps (BecomesWithin depth) before after
