use Rattle.std.proofs.Common.{◌≡◌, length}
use Rattle.ncroute.proofs.DomainIncluded.{Goes}
use Rattle.ncroute.proofs.domain_loading.include_filters.Given as goal

-- what comes of the lines that are left is what comes of the text, and nothing was written
abbrev pub invariant-loop-line : goal.invariant-loop-line
invariant-loop-line g l = record {
  goes : Goes (g.F.Folder.opens l.files) l.source l.text l.fn.console l.size l.left l.out.items l.console;
  unwritten : l.console.holds ≡ l.fn.console.holds;
}

abbrev pub decreases-loop-line : goal.decreases-loop-line
decreases-loop-line g l = length l.left
