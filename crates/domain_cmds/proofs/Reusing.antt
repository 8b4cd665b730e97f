-- The routes before links were cut, for one destination.
use Rattle.std.proofs.Common.{◌≡◌, ℕ, ◌<◌, List, [], length, slice_index_or, sym, ◌∙◌, arith}
use Rattle.domain_routes.specs.Cuts.{WereRoutes}
use Rattle.domain_routes.specs.PlanView.{PlanView}
use Rattle.domain_routes.specs.declared.best.Best.{Best}
use Rattle.domain_routes.proofs.Still.{has_itself}
use Rattle.domain_cmds.specs.Rests.{AreAllRoutes, WereAllRoutes}

-- there is a column for each node
pub columns_were : (now : PlanView) (before : List (List Best)) → WereAllRoutes now before → length before ≡ now.size
columns_were now before w = w.all.one_a_node ∙ sym w.fewer.size

pub column_was : (now : PlanView) (before : List (List Best)) → WereAllRoutes now before → (v : ℕ) → v < now.size
    → WereRoutes now v (slice_index_or before v [])
column_was now before w v short = record {
  whole = w.whole;
  fewer = w.fewer;
  routes = w.all.routes v (omega (arith, short, w.fewer.size));
}

-- routes of a plan were its routes before nothing was cut
pub were_all : (now : PlanView) (before : List (List Best)) → AreAllRoutes now before → WereAllRoutes now before
were_all now before all = record { whole = now; fewer = has_itself now; all = all }
