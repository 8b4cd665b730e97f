-- What a failure changes of one route, and of the routes to one destination.
use Rattle.std.specs.Prelude.{ℕ, List}
use Rattle.domain_routes.specs.declared.best.Best.{Best}
use Rattle.domain_cmds.specs.Failures.{count_below, is_changed, is_lost, still_to, told_lesser}
use Rattle.domain_cmds.specs.declared.counts.ColumnEffect.{ColumnEffect}
use Rattle.domain_cmds.specs.declared.counts.RouteEffect.{RouteEffect}
use Rattle.domain_cmds.specs.declared.failure.Failing.{Failing}

abbrev pub route_effect : ℕ → Failing → List (List Best) → List (List Best) → ℕ → ℕ → RouteEffect
route_effect size what before after u v = record {
  changed = is_changed size what before after u v;
  lost = is_lost size what before after u v;
  still = told_lesser size what before after v u;
}

abbrev pub changed_to : ℕ → Failing → List (List Best) → List (List Best) → ℕ → ℕ
changed_to size what before after v = count_below size (λ u. is_changed size what before after u v)

abbrev pub lost_to : ℕ → Failing → List (List Best) → List (List Best) → ℕ → ℕ
lost_to size what before after v = count_below size (λ u. is_lost size what before after u v)

abbrev pub column_effect : ℕ → Failing → List (List Best) → List (List Best) → ℕ → ColumnEffect
column_effect size what before after v = record {
  changed = changed_to size what before after v;
  lost = lost_to size what before after v;
  still = still_to size what before after v;
}
