use Rattle.ncroute.specs.Filters.{ReadsFirst}
use Rattle.ncroute.proofs.filters.read_filters.Given as goal

-- the filters so far were read
abbrev pub invariant-loop-file : goal.invariant-loop-file
invariant-loop-file g l = ReadsFirst (g.F.Folder.opens l.files) l.named l.file-index l.filters.items (g.R.Read.remaining l.fn.reader)
    (g.R.Read.remaining l.reader)
