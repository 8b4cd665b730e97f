use Rattle.std.proofs.Common.{◌+◌, ◌*◌, max, vec_len}
use Rattle.route_session.proofs.run.+halves.Given as goal

abbrev pub decreases-run_from : goal.decreases-run_from
decreases-run_from g l = 3 * vec_len l.jobs

abbrev pub decreases-scope : goal.decreases-scope
decreases-scope g l = 3 * max (vec_len l.high) (vec_len l.jobs) + 2

abbrev pub decreases-scope-back : goal.decreases-scope-back
decreases-scope-back g l = 3 * vec_len l.high + 1
