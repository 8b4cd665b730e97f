use Rattle.std.proofs.Common.{◌≡◌, ◌++◌}
use Rattle.std.specs.Io.{StartsWith}
use Rattle.operator_cmds.specs.Looks.{texts_below}
use Rattle.domain_cmds.specs.Texts.{idle_text}
use Rattle.domain_cmds.proofs.text.push_idles_of.Given as goal

-- the texts so far were added
abbrev pub invariant-loop-w : goal.invariant-loop-w
invariant-loop-w l = record {
  added : l.out.items ≡ l.fn.out.items ++ texts_below l.w (idle_text l.plan l.routes l.u);
  front : StartsWith l.out.items l.fn.out.items;
}
