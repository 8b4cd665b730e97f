-- What the files of a folder tell of a router's history. (This project's own choice.)
use Rattle.std.specs.Prelude.{◌≡◌, ℕ, ◌≤◌, List, Option, drop, map, take}
use Rattle.history_file.specs.Chains.{AreJoined}
use Rattle.history_file.specs.declared.chain.Chain.{Chain}
use Rattle.history_saver.specs.Folders.{FolderView, Segment, longer}
use Rattle.history_saver.specs.Segments.{IsOldest}
use Rattle.route_history.specs.History.{world_of}
use Rattle.route_history.specs.JournalView.{JournalView}

-- the texts of segments
abbrev pub texts_of : List Segment → List (List ℕ)
texts_of ss = map (λ (s : Segment). s.text) ss

-- the chain of the entries of this history from one position up to another, and of the tables there
abbrev pub chain_of : JournalView → ℕ → ℕ → Chain
chain_of j first to = record { tables = world_of j.opening (take to j.entries); first = first; next = to }

-- Segments, the newest first, are a chain of this history up to a position. It begins at 0, unless the oldest segments may be removed.
pub record TellHistory (keep : Option ℕ) (j : JournalView) (to : ℕ) (ss : List Segment) : Type 0 where
  pub first : ℕ
  pub oldest : IsOldest keep first
  pub below : first ≤ to
  pub joined : AreJoined (texts_of ss) (drop first (take to j.entries)) (chain_of j first to)

-- The same, but for this part of a line behind the last whole line of the newest.
pub record TellUpTo (keep : Option ℕ) (j : JournalView) (to : ℕ) (cut : List ℕ) (ss : List Segment) : Type 0 where
  pub whole : List Segment
  pub cut_is : ss ≡ longer cut whole
  pub told : TellHistory keep j to whole
