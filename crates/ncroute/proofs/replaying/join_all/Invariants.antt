use Rattle.ncroute.specs.Replaying.{JoinsFirst}
use Rattle.ncroute.proofs.replaying.join_all.Given as goal

-- the segments of the sources so far were joined
abbrev pub invariant-loop-at : goal.invariant-loop-at
invariant-loop-at g l =
    JoinsFirst (g.F.Folder.opens l.files) l.sources l.at l.chain (g.R.Read.remaining l.fn.reader) (g.R.Read.remaining l.reader)
