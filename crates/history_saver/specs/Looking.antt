-- What a pass has seen of a router's history, and one that looks at it and enters nothing. (This project's own choice.)
use Rattle.std.specs.Prelude.{◌≡◌, ◌≤◌}
use Rattle.route_history.specs.Beginning.{Begins}
use Rattle.route_history.specs.History.{IsLegal}
use Rattle.route_history.specs.JournalView.{JournalView}
use Rattle.slot_lock.specs.Passes.{IsOwn, IsPassOf, PassView, RouterView}

-- the journal of a router, as far as a pass has seen it
abbrev pub seen_by : RouterView → PassView → JournalView
seen_by r p = record { opening = r.opening; limit = r.limit; entries = p.fragment.seen }

-- The pass has seen a history that goes on from what it had seen. None of the caller's calls is more, and its shares are the same.
pub record Looks (r : RouterView) (old new : PassView) : Type 0 where
  pub of : IsPassOf r new
  pub own : IsOwn old.fragment → IsOwn new.fragment
  pub legal : IsLegal r.opening old.fragment.seen → IsLegal r.opening new.fragment.seen
  pub begins : Begins old.fragment.seen new.fragment.seen
  pub mine : new.fragment.mine ≡ old.fragment.mine
  pub failed_tries : old.fragment.failed_tries ≤ new.fragment.failed_tries
  pub shares : new.fragment.shares ≡ old.fragment.shares
