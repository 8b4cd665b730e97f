use Rattle.std.specs.Prelude.{◌≡◌, ◌<◌, ℕ, Some, slice_get}
use Rattle.bird_import.specs.Reasons.{HasNameBefore}
use Rattle.bird_import.specs.declared.items.Item.{Item}
use Rattle.bird_import.proofs.conversions.is_named_before.Given as goal

abbrev pub invariant-loop-other : goal.invariant-loop-other
invariant-loop-other l = (k : ℕ) (other : Item) → k < l.other-index → slice_get l.config.items.now k ≡ Some other → HasNameBefore other l.item → ⊥
