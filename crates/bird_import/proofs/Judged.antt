-- What becomes of an item.
use Rattle.std.proofs.Common.{◌≡◌, true, ℕ, ◌<◌, ◌≤◌, ◌⊎◌, List, length, inl, inr, arith}
use Rattle.bird_import.specs.Judged.{AreJudged, Begins, IsFilter, IsJudged}
use Rattle.bird_import.specs.Items.{opens_block}
use Rattle.bird_import.specs.Reasons.{HaveValues, LacksValue}
use Rattle.bird_import.specs.declared.config.Config.{Config}
use Rattle.bird_import.specs.declared.conversions.ConversionOutcome.{ConversionOutcome}
use Rattle.bird_import.specs.declared.conversions.ConversionOutcome.TheVariants.{Converted, LeftOut}
use Rattle.bird_import.specs.declared.items.Item.{Item}
use Rattle.bird_import.specs.declared.word.Word.{Word}

-- what becomes of the words of a filter becomes of its item
pub of_words : (config : Config) (one : Item) (first : List Word) (outcome : ConversionOutcome) → IsFilter config one → Begins config one first
    → AreJudged config first outcome → IsJudged config one outcome
of_words config one first (Converted words) is begins judged = record { is_filter = is; first = first; begins = begins; taken = judged }
of_words config one first (LeftOut reason) is begins judged = inr (first, begins, judged)

before_or_not : (k n : ℕ) → (k < n) ⊎ (n ≤ k)
before_or_not k n = grind arith

-- each variable has a value, where those behind the first block have
pub values_given : (words : List Word) (block : ℕ) → ((k : ℕ) → 0 ≤ k → k < block → opens_block words k ≡ true → ⊥)
    → ((k n : ℕ) → block ≤ k → k < length words → LacksValue words k n → ⊥) → HaveValues words
values_given words block first none k n within inside lacks =
    elim (before_or_not k block) [
      | inl earlier ↦ first inside.0 (omega arith) (omega (arith, earlier, inside.2)) inside.1
      | inr later ↦ none k n later within lacks
    ]
