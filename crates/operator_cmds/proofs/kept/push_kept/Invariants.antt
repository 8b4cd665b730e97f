use Rattle.std.proofs.Common.{◌≡◌, ◌++◌, drop, map, take}
use Rattle.std.specs.Io.{StartsWith}
use Rattle.history_lines.specs.Views.{entry_view}
use Rattle.route_history.specs.Long.{OfHistory}
use Rattle.operator_cmds.specs.Looks.{entries_text}
use Rattle.operator_cmds.proofs.kept.push_kept.Given as goal

-- the entries so far were added, and those that are left will be, whatever history the journal has the end of
abbrev pub invariant-loop-told : goal.invariant-loop-told
invariant-loop-told l = record {
  added : OfHistory l.journal (λ h. l.out.items ++ entries_text l.from l.told (map entry_view (drop l.told (take l.count (drop l.from h.entries)))) ≡
      l.fn.out.items ++ entries_text l.from 0 (map entry_view (take l.count (drop l.from h.entries))));
  front : StartsWith l.out.items l.fn.out.items;
}
