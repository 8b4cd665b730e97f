use Rattle.std.proofs.Common.{◌≡◌, ◌++◌, take}
use Rattle.std.specs.Prelude.{flat_map}
use Rattle.router_operator.specs.Reloading.{shown_byte}
use Rattle.router_operator.proofs.reloading.push_all_shown.Given as goal

-- what comes before is added
abbrev pub invariant-loop-byte : goal.invariant-loop-byte
invariant-loop-byte l = l.out.items ≡ l.fn.out.items ++ flat_map shown_byte (take l.byte-index l.text)
