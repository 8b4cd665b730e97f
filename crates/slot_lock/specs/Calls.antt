-- What the calls of a router do. (This project's own choice.)
use Rattle.std.specs.Prelude.{◌≡◌, ◌≢◌, ℕ, ◌+◌, ◌<◌, ◌≤◌, false, List, [], ◌∷◌, ◌++◌, length}
use Rattle.netchange_core.specs.declared.event.Event.{Event}
use Rattle.route_history.specs.declared.entry.Entry.{Entry}
use Rattle.route_history.specs.declared.fault.CallFault.{CallFault}
use Rattle.route_history.specs.declared.fault.CallFault.TheVariants as fault
use Rattle.route_history.specs.Beginning.{Begins}
use Rattle.route_history.specs.Calls.{entry}
use Rattle.route_history.specs.History.{IsLegal}
use Rattle.route_history.specs.JournalView.{JournalView}
use Rattle.route_history.specs.Long.{IsForgotten, IsWindow, IsWithin, LongView}
use Rattle.slot_lock.specs.declared.answer.Answer.{Answer}
use Rattle.slot_lock.specs.declared.fault.TryFault.{TryFault}
use Rattle.slot_lock.specs.declared.fault.TryFault.TheVariants as try_fault
use Rattle.slot_lock.specs.Passes.{PassView}
use Rattle.lock_rule.specs.declared.rule.Fragment.{Fragment}
pub use Rattle.lock_rule.specs.Closing.{ClosedLong}
use Rattle.lock_rule.specs.Closing.{HasEachOnce}
use Rattle.lock_rule.specs.RouterView.{RouterView, bounds_of}
use Rattle.lock_rule.specs.Steps.{Agree, merged, with_seen}
use Rattle.lock_rule.specs.Views.{all_shares, longer}

-- what the pass has seen goes on from before and ends with the event and its reply, at the position answered; the position
-- is the caller's, and the history is legal. No part of the pass was split off, and nothing was entered before by others than have the other
-- shares: where the pass has all of them, the event comes right behind what it had seen.
pub record Answered (r : RouterView) (old : PassView) (event : Event) (a : Answer) (new : PassView) : Type 0 where
  pub log : List Entry
  pub begins : Begins old.fragment.seen log
  pub position : a.at ≡ length log
  pub below : a.at < 18446744073709551615
  pub seen : new.fragment.seen ≡ log ++ entry event a.reply ∷ []
  pub legal : IsLegal r.opening new.fragment.seen
  pub mine : new.fragment.mine ≡ old.fragment.mine ++ a.at ∷ []
  pub shares : new.fragment.shares ≡ old.fragment.shares
  pub forgot : new.fragment.forgot ≡ old.fragment.forgot
  pub alone : old.fragment.shares ≡ all_shares → log ≡ old.fragment.seen

-- the pass has seen a whole history, of which all but as many entries as the limit are forgotten, and none where the router is not endless;
-- none of the caller's calls was entered, and none at all where it has all shares
pub record IsAtLimit (r : RouterView) (old new : PassView) : Type 0 where
  pub begins : Begins old.fragment.seen new.fragment.seen
  pub legal : IsLegal r.opening new.fragment.seen
  pub full : length new.fragment.seen ≡ new.fragment.forgot + r.limit
  pub whole : r.endless ≡ false → new.fragment.forgot ≡ 0
  pub on : old.fragment.forgot ≤ new.fragment.forgot
  pub mine : new.fragment.mine ≡ old.fragment.mine
  pub shares : new.fragment.shares ≡ old.fragment.shares
  pub alone : old.fragment.shares ≡ all_shares → new.fragment.seen ≡ old.fragment.seen

-- the pass after so many failed tries
abbrev pub pass_with_failed_tries : ℕ → PassView → PassView
pass_with_failed_tries n p = record p { fragment = record p.fragment { failed_tries = p.fragment.failed_tries + n } }

-- the lock was held by another pass with shares; the event comes back
pub record FoundBusy (old : PassView) (event back : Event) (new : PassView) : Type 0 where
  pub handed_back : back ≡ event
  pub pass : new ≡ pass_with_failed_tries 1 old
  pub others : old.fragment.shares ≢ all_shares

-- why one try entered nothing
abbrev pub TryRefused : TryFault → RouterView → PassView → Event → PassView → Type 0
TryRefused (try_fault.Busy back) r old event new = FoundBusy old event back new
TryRefused try_fault.Full r old event new = IsAtLimit r old new × (new.fragment.failed_tries ≡ old.fragment.failed_tries)
TryRefused try_fault.Memory r old event new = new ≡ old

-- why a call entered nothing
abbrev pub Refused : CallFault → RouterView → PassView → PassView → Type 0
Refused fault.Full r old new = IsAtLimit r old new
Refused fault.Memory r old new = (n : ℕ) × (new ≡ pass_with_failed_tries n old)

-- the observer saw a journal of the router, whose history goes on from what the pass had seen, and which the pass has seen now; none of
-- the caller's calls was entered, and none at all where the pass has all shares
pub record Observed {Seer : Type 0} (sees : Seer → ℕ → JournalView → Seer → Type 0) (r : RouterView) (old : PassView) (before after : Seer)
    (new : PassView) : Type 0 where
  pub begins : Begins old.fragment.seen new.fragment.seen
  pub legal : IsLegal r.opening new.fragment.seen
  pub room : IsWithin (bounds_of r) new.fragment.forgot (length new.fragment.seen)
  pub saw : sees before new.fragment.forgot (record { opening = r.opening; limit = r.limit; entries = new.fragment.seen }) after
  pub on : old.fragment.forgot ≤ new.fragment.forgot
  pub mine : new.fragment.mine ≡ old.fragment.mine
  pub shares : new.fragment.shares ≡ old.fragment.shares
  pub alone : old.fragment.shares ≡ all_shares → new.fragment.seen ≡ old.fragment.seen

-- who forgets has seen a whole history, of whose journal entries below upto are forgotten, behind those that they knew to be, and none where
-- the router is not endless; so many are forgotten in all
pub record Forgot (r : RouterView) (old : PassView) (upto count : ℕ) (new : PassView) : Type 0 where
  pub begins : Begins old.fragment.seen new.fragment.seen
  pub legal : IsLegal r.opening new.fragment.seen
  pub journal : LongView
  pub window : IsWindow r.opening (bounds_of r) new.fragment.seen journal
  pub after : LongView
  pub forgotten : IsForgotten journal after upto
  pub counted : count ≡ after.first
  pub forgot : new.fragment.forgot ≡ count
  pub exact : journal.first ≡ old.fragment.forgot
  pub mine : new.fragment.mine ≡ old.fragment.mine
  pub shares : new.fragment.shares ≡ old.fragment.shares
  pub alone : old.fragment.shares ≡ all_shares → new.fragment.seen ≡ old.fragment.seen

-- the journal of a router that is closed: it has the router's opening and limit, is legal, and goes on from what the pass
-- has seen; if the pass has all shares, each position of the journal is one of the pass's own, once
pub record Closed (r : RouterView) (p : Fragment) (j : JournalView) : Type 0 where
  pub opening : j.opening ≡ r.opening
  pub limit : j.limit ≡ r.limit
  pub legal : IsLegal j.opening j.entries
  pub room : length j.entries ≤ j.limit
  pub begins : Begins p.seen j.entries
  pub once : p.shares ≡ all_shares → HasEachOnce (length j.entries) p.mine

-- two passes in one: the shares and the failed tries add up, the second's positions follow the first's, and the
-- longer history is kept
pub record Merged (p q new : Fragment) : Type 0 where
  pub fragment : new ≡ merged p q
  pub agree : Agree p q

-- two passes after they met: both have seen the longer history, and all else is as it was
pub record Met (p q new other : PassView) : Type 0 where
  pub first : new ≡ record p { fragment = with_seen p.fragment (longer p.fragment.seen q.fragment.seen) }
  pub second : other ≡ record q { fragment = with_seen q.fragment (longer p.fragment.seen q.fragment.seen) }
  pub agree : Agree p.fragment q.fragment
