-- What who forgets the entries of a router keeps of them. (This project's own choice.)
use Rattle.std.specs.Prelude.{◌≡◌, ℕ, ◌+◌, ◌-◌, ◌/◌, ◌<◌, ◌≤◌, max, min, true, [], Option, IfSome, length}
use Rattle.history_saver.specs.Looking.{seen_by}
use Rattle.history_saver.specs.Segments.{HasSegments, SegmentsView}
use Rattle.netchange_core.specs.OpeningView.{OpeningView}
use Rattle.route_history.specs.JournalView.{JournalView}
use Rattle.slot_lock.specs.Passes.{PassView, RouterView}
use Rattle.router_daemon.specs.Passes.{IsLegalPass}
use Rattle.router_daemon.specs.declared.forgetting.Counting.{Counting}

-- how many entries are always kept: half of as many as there is room for, less half of as many as are forgotten at once
abbrev pub kept_of : ℕ → ℕ
kept_of limit = (limit - 1024) / 2

-- how many entries there are was counted, as far as 64 bits go
abbrev pub Counts : JournalView → Counting → Type 0
Counts history after = after.end ≡ min (length history.entries) 18446744073709551615

-- So many entries were looked at, all that were seen before among them, and none that there is not. Of these at least so many are kept, or none
-- more is forgotten than was; and fewer than 1,024 more are kept, unless as many are forgotten as ever can be.
pub record Forgets (kept looked : ℕ) (old new : PassView) : Type 0 where
  pub from : length new.fragment.seen ≤ 9223372036854775808 → length old.fragment.seen ≤ looked
  pub to : looked ≤ length new.fragment.seen
  pub keeps : new.fragment.forgot ≤ max old.fragment.forgot (looked - kept)
  pub frees : length new.fragment.seen ≤ 9223372036854775808 → looked < new.fragment.forgot + kept + 1024

-- who forgets: who saves entries before, if they are saved; the right to forget; and how many entries are not forgotten, the last ones
pub record ForgetterView : Type 0 where
  pub saver : Option SegmentsView
  pub right : PassView
  pub kept : ℕ

-- what is saved is so of the history that the right has seen, nothing is forgotten that is not, and so many of the last ones are kept
pub record ForgetsSaved (r : RouterView) (right : PassView) (kept : ℕ) (s : SegmentsView) : Type 0 where
  pub has : HasSegments s (seen_by r right)
  pub saved : right.fragment.forgot ≤ s.saved
  pub back : s.back ≡ kept

-- the right is one of the router, which is endless, and has seen a legal history; where that is saved, nothing is forgotten that is not
pub record IsForgetter (r : RouterView) (f : ForgetterView) : Type 0 where
  pub endless : r.endless ≡ true
  pub legal : IsLegalPass r f.right
  pub forgets : IfSome f.saver (ForgetsSaved r f.right f.kept)

-- nothing is saved yet of a router of this opening and limit
pub record HasBegun (opening : OpeningView) (limit kept : ℕ) (s : SegmentsView) : Type 0 where
  pub has : (j : JournalView) → j.opening ≡ opening → j.limit ≡ limit → HasSegments s j
  pub none_saved : s.saved ≡ 0
  pub back : s.back ≡ kept
