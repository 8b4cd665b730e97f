use Rattle.std.proofs.Common.{◌≡◌, ◌++◌, flat_map, drop}
use Rattle.std.specs.Io.{StartsWith}
use Rattle.domain_cmds.specs.FailureTexts.{failure_text}
use Rattle.domain_cmds.proofs.failure_text.push_each.Given as goal

-- the lines so far were added, and those that are left will be
abbrev pub invariant-loop-failure : goal.invariant-loop-failure
invariant-loop-failure l = record {
  added : l.out.items ++ flat_map failure_text (drop l.failure-index l.failures) ≡ l.fn.out.items ++ flat_map failure_text l.failures;
  front : StartsWith l.out.items l.fn.out.items;
}
