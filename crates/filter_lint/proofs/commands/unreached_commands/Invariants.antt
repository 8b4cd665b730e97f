use Rattle.std.proofs.Common.{◌≡◌}
use Rattle.filter_lint.specs.Commands.{unreached_in, was_reached}
use Rattle.filter_lint.specs.Finding.{below}
use Rattle.filter_lint.proofs.commands.unreached_commands.Given as goal

-- what is said so far, and whether the last command is reached
abbrev pub invariant-loop-at : goal.invariant-loop-at
invariant-loop-at l = record {
  said : l.found.items ≡ below (unreached_in l.source l.marks) l.at;
  reached : l.was_reached ≡ was_reached l.source l.marks l.at;
}
