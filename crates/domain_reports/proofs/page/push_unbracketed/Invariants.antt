use Rattle.std.proofs.Common.{◌≡◌, ◌++◌, take}
use Rattle.domain_reports.specs.Pages.{unbracketed}
use Rattle.domain_reports.proofs.page.push_unbracketed.Given as goal

-- the bytes so far
abbrev pub invariant-loop-byte : goal.invariant-loop-byte
invariant-loop-byte l = l.out.items ≡ l.initial.out.items ++ unbracketed (take l.byte-index l.bytes)
