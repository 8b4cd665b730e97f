-- What is read of a router at once. (This project's own choice.)
use Rattle.std.specs.Prelude.{◌≡◌, ℕ, ◌+◌, ◌<◌, List, length}
use Rattle.netchange_core.specs.declared.best_route.BestRoute.{BestRoute}
use Rattle.netchange_core.specs.Best.{best}
use Rattle.netchange_core.specs.World.{World}
use Rattle.route_feed.specs.declared.look.FeedSnapshot.{FeedSnapshot}
use Rattle.route_feed.specs.Table.{route_at}
use Rattle.route_history.specs.History.{world_of}
use Rattle.route_history.specs.JournalView.{JournalView}
use Rattle.route_history.specs.Long.{LongView}

-- the best route to each node
pub record AreRoutes (w : World) (routes : List BestRoute) : Type 0 where
  pub one_a_node : length routes ≡ w.opening.size
  pub each : (v : ℕ) → v < w.opening.size → route_at routes v ≡ best w v

-- a journal as it was read: how many entries its history has, and the routes of its tables
pub record IsRead (j : LongView) (look : FeedSnapshot) : Type 0 where
  pub end : look.end ≡ j.first + length j.entries
  pub routes : AreRoutes j.tables look.routes.items

-- the routes after the whole history, and how many entries it has
pub record IsLook (j : JournalView) (look : FeedSnapshot) : Type 0 where
  pub end : look.end ≡ length j.entries
  pub opening : (world_of j.opening j.entries).opening ≡ j.opening
  pub routes : AreRoutes (world_of j.opening j.entries) look.routes.items
