use Rattle.bird_import.specs.Judged.{HaveConversions}
use Rattle.bird_import.proofs.conversions.make_conversions.Given as goal

abbrev pub invariant-loop-item : goal.invariant-loop-item
invariant-loop-item l = HaveConversions l.config l.config.items.now l.item-index l.found.items
