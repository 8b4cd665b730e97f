use Rattle.filter_diff.specs.Reaching.{NeverFaults}
use Rattle.filter_verifier.proofs.Sound.{faultless}
use Rattle.filter_lint.proofs.linting.warnings_of.Goals as goal

pub new-filter-requires : goal.new-filter-requires
new-filter-requires c = record { count = c.requires.survey.known.count; each = c.requires.survey.known.each }

pub find_warnings-requires : goal.find_warnings-requires
find_warnings-requires c = rw c.new-filter.ensures ((faultless c.args.surveyed.now.code c.args.how.now.size c.requires.faultless).small)

-- verified code never faults
pub returns-clause-decided : goal.returns-clause-decided
returns-clause-decided c enough =
    let never : NeverFaults c.args.surveyed.now.code c.args.how.now.size =
    λ route is_in. c.requires.safe.never_faults route
    (record { size_is = is_in.domain; reachable = is_in.reachable; net_fits = is_in.fits }) in
    (rw c.new-filter.ensures at c.find_warnings.ensures.decided) enough never
