-- The journal of a closed router that is not endless.
use Rattle.std.proofs.Common.{◌≡◌, sym, subst, ℕ, ◌≤◌, false, List, length, arith}
use Rattle.route_history.specs.declared.entry.Entry.{Entry}
use Rattle.route_history.specs.Beginning.{Begins}
use Rattle.route_history.specs.JournalView.{JournalView}
use Rattle.route_history.specs.Long.{IsWithin, LongView}
use Rattle.route_history.specs.Recorded.{IsRecorded}
use Rattle.route_history.proofs.Windows.{all_entries, all_legal, all_recorded, all_room, limits_are}
use Rattle.lock_rule.specs.declared.rule.Fragment.{Fragment}
use Rattle.lock_rule.specs.Closing.{ClosedLong, HasEachOnce}
use Rattle.lock_rule.specs.RouterView.{RouterView, bounds_of}
use Rattle.slot_lock.specs.Calls.{Closed}

module _ (r : RouterView) (p : Fragment) (j : LongView) (h : ClosedLong r p j) (whole : r.endless ≡ false) where
  abbrev pub its_journal : JournalView
  its_journal = record { opening = j.tables.opening; limit = j.bounds.limit; entries = j.entries }

  pub same : j.entries ≡ h.log
  same = all_entries r.opening (bounds_of r) h.log j h.window whole

  pub closed_recorded : IsRecorded j.tables j.bounds.limit j.entries
  closed_recorded = all_recorded r.opening (bounds_of r) h.log j h.window whole h.legal

  pub closed_whole : Closed r p its_journal
  closed_whole = record {
    opening = h.window.opened;
    limit = limits_are r.opening (bounds_of r) h.log j j h.window;
    legal = all_legal r.opening (bounds_of r) h.log j h.window whole h.legal;
    room = all_room r.opening (bounds_of r) h.log j h.window whole;
    begins = subst (λ (es : List Entry). Begins p.seen es) (sym same) h.begins;
    once = λ all. subst (λ (es : List Entry). HasEachOnce (length es) p.mine) (sym same) (h.once all);
  }

-- a history of a router that is not endless has at most as many entries as the limit
pub room_whole : (r : RouterView) (first n : ℕ) → IsWithin (bounds_of r) first n → r.endless ≡ false → n ≤ r.limit
room_whole r first n h whole = let none_forgotten = h.whole whole in let room = h.room in omega arith
