-- A fault ended the comparison, and what was written is a front of what the change does.
use Rattle.ncroute.proofs.ComparedOff.{compared_off}
use Rattle.ncroute.proofs.domains.write_change.Goals as goal
use Rattle.ncroute.proofs.domains.write_change.Goals.{in-Ok, in-Err}

pub returns-clause-stopped : goal.returns-clause-stopped
returns-clause-stopped g c = elim c.match-compare_domains.branch [
  | in-Ok w ↦ rw w.result-is tt
  | in-Err w ↦ rw (w.result-is, ← c.console.view_is)
      (compared_off w.in-Err.fault c.args.format c.args.old c.args.new (g.W.Write.contents c.console.inside.writer)
      (g.W.Write.contents c.compare_domains.new.writer) w.in-Err.ensures.err)
]
