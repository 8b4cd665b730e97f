use Rattle.std.proofs.Common.{◌≡◌, ◌++◌}
use Rattle.std.specs.Io.{StartsWith}
use Rattle.operator_cmds.specs.Looks.{texts_below}
use Rattle.domain_cmds.specs.Texts.{row_text, route_of}
use Rattle.domain_cmds.proofs.text.push_rows.Given as goal

-- the texts so far were added
abbrev pub invariant-loop-v : goal.invariant-loop-v
invariant-loop-v l = record {
  added : l.out.items ≡ l.fn.out.items ++ texts_below l.v (λ v. row_text v (route_of l.size l.all l.u v));
  front : StartsWith l.out.items l.fn.out.items;
}
