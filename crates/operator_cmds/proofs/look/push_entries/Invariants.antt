use Rattle.std.proofs.Common.{◌≡◌, ◌++◌, drop, map, take}
use Rattle.std.specs.Io.{StartsWith}
use Rattle.history_lines.specs.Views.{entry_view}
use Rattle.operator_cmds.specs.Looks.{entries_text}
use Rattle.operator_cmds.proofs.look.push_entries.Given as goal

-- the entries so far were added, and those that are left will be
abbrev pub invariant-loop-told : goal.invariant-loop-told
invariant-loop-told l = record {
  added : l.out.items ++ entries_text l.from l.told (map entry_view (drop l.told (take l.count (drop l.from l.entries)))) ≡
      l.fn.out.items ++ entries_text l.from 0 (map entry_view (take l.count (drop l.from l.entries)));
  front : StartsWith l.out.items l.fn.out.items;
}
