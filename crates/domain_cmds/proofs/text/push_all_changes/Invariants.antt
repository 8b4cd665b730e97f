use Rattle.std.proofs.Common.{◌≡◌, ◌++◌}
use Rattle.std.specs.Io.{StartsWith}
use Rattle.operator_cmds.specs.Looks.{texts_below}
use Rattle.domain_cmds.specs.Texts.{changes_of}
use Rattle.domain_cmds.proofs.text.push_all_changes.Given as goal

-- the texts so far were added
abbrev pub invariant-loop-u : goal.invariant-loop-u
invariant-loop-u l = record {
  added : l.out.items ≡ l.fn.out.items ++ texts_below l.u (changes_of l.size l.before l.now);
  front : StartsWith l.out.items l.fn.out.items;
}
