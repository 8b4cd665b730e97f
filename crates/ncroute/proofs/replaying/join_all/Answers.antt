-- One file more is joined, or it is refused or not read.
use Rattle.std.proofs.Common.{Some, ◌+◌, subst}
use Rattle.filter_source.proofs.Refused.{of_error}
use Rattle.filter_reports.specs.Faults.{stream_fault}
use Rattle.ncroute.specs.Replaying.{JoinsSource}
use Rattle.ncroute.specs.declared.replaying.ReplayedSegments.{ReplayedSegments}
use Rattle.ncroute.proofs.Chained.{bails, left_off, none_joined, one_more_joined, some_stopped}
use Rattle.ncroute.proofs.replaying.join_all.Goals as goal

pub loop-at-init : goal.loop-at-init
loop-at-init g c = none_joined _ c.args.sources.now _

pub returns-in_err-found-clause-stopped : goal.returns-in_err-found-clause-stopped
returns-in_err-found-clause-stopped g c =
    let fault = c.in_err-found.field-0.0 in
    of_error c.from_residual.result _ fault c.from_residual.ensures.1
    (some_stopped _ c.args.sources.now (stream_fault fault) c.loop-at.at c.index-sources-at.result _ _ _ c.loop-at.chain
    c.loop-at-test.true c.index-sources-at.is c.loop-at.invariant c.in_err-found.ensures.stopped)

pub returns-in_default : goal.returns-in_default
returns-in_default g c = record {
  finished = left_off _ c.args.sources.now _ _ c.in_ok-found.found c.in_default.not-Right
      (bails _ c.args.sources.now c.loop-at.at c.index-sources-at.result _ _ _ c.loop-at.chain c.in_ok-found.found c.loop-at-test.true
      c.index-sources-at.is c.loop-at.invariant c.in_ok-found.ensures.finished);
  stopped = tt;
}

pub loop-at-preserved : goal.loop-at-preserved
loop-at-preserved g c =
    one_more_joined _ c.args.sources.now c.loop-at.at c.index-sources-at.result _ _ _ c.loop-at.chain c.in-Right.now c.loop-at-test.true
    c.index-sources-at.is c.loop-at.invariant
    (subst (λ (found : ReplayedSegments). JoinsSource (g.F.Folder.opens c.args.files.now) c.loop-at.chain (Some (c.loop-at.at + 1))
    c.index-sources-at.result found (g.R.Read.remaining c.loop-at.reader) (g.R.Read.remaining c.join_source.new.reader)) c.in-Right.is
    c.in_ok-found.ensures.finished)
