use Rattle.std.proofs.Common.{◌≡◌, ◌++◌}
use Rattle.std.specs.Io.{StartsWith}
use Rattle.operator_cmds.specs.Looks.{texts_below}
use Rattle.domain_cmds.specs.Texts.{still_text}
use Rattle.domain_cmds.proofs.text.push_all_still.Given as goal

-- the texts so far were added
abbrev pub invariant-loop-v : goal.invariant-loop-v
invariant-loop-v l = record {
  added : l.out.items ≡ l.fn.out.items ++ texts_below l.v (still_text l.size l.most l.least);
  front : StartsWith l.out.items l.fn.out.items;
}
