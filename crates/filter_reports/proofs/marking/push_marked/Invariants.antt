use Rattle.std.proofs.Common.{◌≡◌, ◌++◌, drop}
use Rattle.filter_reports.specs.Marking.{marked, marked_after}
use Rattle.filter_reports.proofs.marking.push_marked.Given as goal

-- the bytes so far were added with their marks, and those that are left will be
abbrev pub invariant-loop-byte : goal.invariant-loop-byte
invariant-loop-byte l = l.out.items ++ marked_after l.mark l.before (drop l.byte-index l.text) ≡ l.fn.out.items ++ marked l.mark l.text
