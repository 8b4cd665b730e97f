use Rattle.std.proofs.Common.{◌≡◌, ◌≤◌}
use Rattle.domain_routes.specs.Still.{least_below}
use Rattle.domain_cmds.specs.Failures.{count_below, is_changed, is_lost, told_lesser}
use Rattle.domain_cmds.proofs.counts.column_effect.Given as goal

-- the routes of lesser nodes than this
abbrev pub invariant-loop-u : goal.invariant-loop-u
invariant-loop-u l = record {
  changed : l.changed ≡ count_below l.u (λ u. is_changed l.size l.what l.before l.after u l.v);
  lost : l.lost ≡ count_below l.u (λ u. is_lost l.size l.what l.before l.after u l.v);
  still : l.still ≡ least_below l.size l.u (told_lesser l.size l.what l.before l.after l.v);
  few : (l.changed ≤ l.u) × (l.lost ≤ l.u);
}
