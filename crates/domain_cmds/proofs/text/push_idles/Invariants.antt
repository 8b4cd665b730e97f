use Rattle.std.proofs.Common.{◌≡◌, ◌++◌}
use Rattle.std.specs.Io.{StartsWith}
use Rattle.operator_cmds.specs.Looks.{texts_below}
use Rattle.domain_cmds.specs.Texts.{idles_of}
use Rattle.domain_cmds.proofs.text.push_idles.Given as goal

-- the texts so far were added
abbrev pub invariant-loop-u : goal.invariant-loop-u
invariant-loop-u l = record {
  added : l.out.items ≡ l.fn.out.items ++ texts_below l.u (idles_of l.plan l.routes);
  front : StartsWith l.out.items l.fn.out.items;
}
