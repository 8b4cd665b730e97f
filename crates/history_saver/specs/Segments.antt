-- What the segments of a folder have of a router's history. (This project's own choice.)
use Rattle.std.specs.Prelude.{◌≡◌, ℕ, ◌≤◌, List, [], ◌∷◌, ◌++◌, All, length, take, Option, Some, None, IfSome, ⊤}
use Rattle.history_lines.specs.Fits.{FitsEntry}
use Rattle.history_file.specs.Segments.{IsStateText}
use Rattle.history_lines.specs.Text.{entries_text}
use Rattle.history_saver.specs.Adding.{between}
use Rattle.history_saver.specs.Folders.{FolderView, Segment}
use Rattle.route_history.specs.History.{world_of}
use Rattle.route_history.specs.JournalView.{JournalView}

-- A segment of this history: the state after its first entries, and then a line for each entry up to another position, each once and in
-- order. Behind these it may have a part of what follows, cut at any byte.
pub record IsSegment (j : JournalView) (from to : ℕ) (cut bytes : List ℕ) : Type 0 where
  pub state : List ℕ
  pub is_state : IsStateText j.limit from (world_of j.opening (take from j.entries)) state
  pub is : bytes ≡ state ++ (entries_text from (between j.entries from to) ++ cut)
  pub rising : from ≤ to
  pub within : to ≤ length j.entries
  pub each : All FitsEntry (between j.entries from to)

-- the oldest segment begins with the opening, unless older ones may be removed
abbrev pub IsOldest : Option ℕ → ℕ → Type 0
IsOldest None from = from ≡ 0
IsOldest (Some n) from = ⊤

-- Segments that are complete, the newest first: each goes up to where the one after it begins, and the newest up to `to`.
abbrev pub AreComplete : Option ℕ → JournalView → List Segment → ℕ → Type 0
AreComplete keep j [] to = IsOldest keep to
AreComplete keep j (s ∷ ss) to = IsSegment j s.at to [] s.text × AreComplete keep j ss s.at

-- the segments of a history up to `to`, behind which the newest may have a part of what follows
abbrev pub AreSegments : Option ℕ → JournalView → List Segment → ℕ → List ℕ → Type 0
AreSegments keep j [] to cut = ⊥
AreSegments keep j (s ∷ ss) to cut = IsSegment j s.at to cut s.text × AreComplete keep j ss s.at

-- a folder holds these
abbrev pub Holds : Option ℕ → JournalView → ℕ → List ℕ → FolderView → Type 0
Holds keep j to cut v = AreSegments keep j v.segments to cut

-- the newest segment of a folder begins here
abbrev pub IsNewest : ℕ → List Segment → Type 0
IsNewest n [] = ⊥
IsNewest n (s ∷ ss) = s.at ≡ n

abbrev pub BeginsAt : ℕ → FolderView → Type 0
BeginsAt n v = IsNewest n v.segments

-- A saver of segments: what its folder holds, where that is known; after how many entries a new segment is due; how many segments are kept at
-- least, and all where none is said; how many of the saved entries are not forgotten; where the newest segment begins; how many entries are
-- saved; how many are read; and what is not written yet of the lines of those that are read.
pub record SegmentsView : Type 0 where
  pub folder : Option FolderView
  pub every : ℕ
  pub keep : Option ℕ
  pub back : ℕ
  pub begun : ℕ
  pub saved : ℕ
  pub read : ℕ
  pub rest : List ℕ

-- The folder has the segments of this history, up to what is saved. Of the lines of what is read and not saved a part is written, cut at any byte.
pub record HasSegments (s : SegmentsView) (j : JournalView) : Type 0 where
  pub cut : List ℕ
  pub lines : entries_text s.saved (between j.entries s.saved s.read) ≡ cut ++ s.rest
  pub rising : s.saved ≤ s.read
  pub within : s.read ≤ length j.entries
  pub each : All FitsEntry (between j.entries s.saved s.read)
  pub holds : IfSome s.folder (Holds s.keep j s.saved cut)
  pub begins : IfSome s.folder (BeginsAt s.begun)
