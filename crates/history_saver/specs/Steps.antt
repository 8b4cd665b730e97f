-- What the steps of saving segments do. (This project's own choice.)
use Rattle.std.specs.Prelude.{◌≡◌, ◌⊎◌, ℕ, ◌+◌, ◌-◌, ◌<◌, ◌≤◌, max, true, List, [], length, take, Option, Some, None}
use Rattle.std.specs.Option.{option_map}
use Rattle.route_history.specs.Limits.{largest_limit}
use Rattle.history_file.specs.Segments.{IsStateText}
use Rattle.history_saver.specs.Adding.{next_count}
use Rattle.history_saver.specs.Folders.{FolderView, with_next}
use Rattle.history_saver.specs.Segments.{SegmentsView}
use Rattle.route_history.specs.History.{world_of}
use Rattle.route_history.specs.JournalView.{JournalView}
use Rattle.slot_lock.specs.Passes.{PassView, RouterView}

-- at most what has the temporary name is another
abbrev pub IsUncreated : Option FolderView → Option FolderView → Type 0
IsUncreated old new = (bytes : List ℕ) × (new ≡ option_map (with_next bytes) old)

-- the text of the state after the first so many entries
abbrev pub IsStateAt : JournalView → ℕ → List ℕ → Type 0
IsStateAt j n bytes = IsStateText j.limit n (world_of j.opening (take n j.entries)) bytes

-- all that is read is saved
pub record IsAllSaved (s : SegmentsView) : Type 0 where
  pub all : s.saved ≡ s.read
  pub none_left : s.rest ≡ []

-- the room of a router that is opened
pub record IsRoom (limit : ℕ) : Type 0 where
  pub some : 1 ≤ limit
  pub few : limit ≤ largest_limit

-- after how many entries a new segment is due
abbrev pub entries_each : SegmentsView → ℕ
entries_each s = max 1 s.every

-- the newest segment has not so many entries
abbrev pub IsRotated : SegmentsView → Type 0
IsRotated s = s.saved < s.begun + entries_each s

-- the newest segment is the same, or one that begins behind so many entries of it
abbrev pub BeginsDue : SegmentsView → SegmentsView → Type 0
BeginsDue old new = (new.begun ≡ old.begun) ⊎ (old.begun + entries_each old ≤ new.begun)

-- the plan is the same
pub record IsAsPlanned (old new : SegmentsView) : Type 0 where
  pub every : new.every ≡ old.every
  pub keep : new.keep ≡ old.keep
  pub back : new.back ≡ old.back

-- a step of beginning a segment: no more is read or saved
pub record OnlyBegins (old new : SegmentsView) : Type 0 where
  pub plan : IsAsPlanned old new
  pub saved : new.saved ≡ old.saved
  pub read : new.read ≡ old.read

-- with a state a segment is begun at what is saved, or not; without one it is not
abbrev pub BeginsWith : {A : Type 0} → Option A → SegmentsView → SegmentsView → Type 0
BeginsWith None old new = new.begun ≡ old.begun
BeginsWith (Some state) old new = (new.begun ≡ old.begun) ⊎ (new.begun ≡ old.saved)

-- a step of writing: no more is read or saved, and no segment is begun
pub record OnlyWrites (old new : SegmentsView) : Type 0 where
  pub plan : IsAsPlanned old new
  pub begun : new.begun ≡ old.begun
  pub saved : new.saved ≡ old.saved
  pub read : new.read ≡ old.read

-- a step of saving: no more is read
pub record OnlySaves (old new : SegmentsView) : Type 0 where
  pub plan : IsAsPlanned old new
  pub begun : new.begun ≡ old.begun
  pub on : old.saved ≤ new.saved
  pub read : new.read ≡ old.read

-- a step of reading: no more is saved
pub record OnlyReads (old new : SegmentsView) : Type 0 where
  pub plan : IsAsPlanned old new
  pub begun : new.begun ≡ old.begun
  pub saved : new.saved ≡ old.saved
  pub on : old.read ≤ new.read

-- Entries are forgotten, all of them saved, and none of the last ones that are not to be. Of the others fewer than 1,024 stay.
pub record Forgets (s : SegmentsView) (r : RouterView) (old new : PassView) : Type 0 where
  pub saved : new.fragment.forgot ≤ s.saved
  pub on : old.fragment.forgot ≤ new.fragment.forgot
  pub asked : new.fragment.forgot ≤ max old.fragment.forgot (s.saved - s.back)
  pub frees : r.endless ≡ true → length new.fragment.seen ≤ 9223372036854775808 → s.saved - s.back < new.fragment.forgot + 1024

-- so many entries are saved, as many as the history had, or at most 256 more than before where it had more
pub record SavesNext (from to : ℕ) (before after : ℕ) : Type 0 where
  pub all : ℕ
  pub count : to ≡ next_count from all
  pub seen : before ≤ all
  pub within : all ≤ after
