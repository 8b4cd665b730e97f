use Rattle.std.proofs.Common.{◌≡◌, ◌++◌, take}
use Rattle.std.specs.Prelude.{flat_map}
use Rattle.router_operator.specs.Reloading.{change_words}
use Rattle.router_operator.proofs.reloading.push_changes.Given as goal

-- what comes before is added
abbrev pub invariant-loop-change : goal.invariant-loop-change
invariant-loop-change l = l.out.items ≡ l.fn.out.items ++ flat_map change_words (take l.change-index l.changes)
