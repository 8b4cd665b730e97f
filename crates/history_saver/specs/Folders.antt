-- A folder that has the segments of a history. (This project's own choice.)
use Rattle.std.specs.Prelude.{ℕ, ◌+◌, List, [], ◌∷◌, ◌++◌, length, min, take}
use Rattle.history_saver.specs.declared.folder.FolderSize.{FolderSize}

-- a segment: how many entries of the history came before it, and what its file holds
pub record Segment : Type 0 where
  pub at : ℕ
  pub text : List ℕ

-- what a folder holds: the segments that have their names, the newest first; and the text of the one that is made under a temporary name
pub record FolderView : Type 0 where
  pub segments : List Segment
  pub next : List ℕ

abbrev pub no_segments : FolderView
no_segments = record { segments = []; next = [] }

-- a segment was begun that has this text, and has no name yet
abbrev pub with_next : List ℕ → FolderView → FolderView
with_next bytes v = record { segments = v.segments; next = bytes }

-- it got its name, by the number of entries that came before it
abbrev pub with_named : ℕ → FolderView → FolderView
with_named n v = record { segments = record { at = n; text = v.next } ∷ v.segments; next = [] }

-- these bytes were added to the newest of these segments
abbrev pub longer : List ℕ → List Segment → List Segment
longer bytes [] = []
longer bytes (s ∷ ss) = record { at = s.at; text = s.text ++ bytes } ∷ ss

abbrev pub with_written : List ℕ → FolderView → FolderView
with_written bytes v = record { segments = longer bytes v.segments; next = v.next }

-- so many of the newest are left
abbrev pub with_newest : ℕ → FolderView → FolderView
with_newest n v = record { segments = take n v.segments; next = v.next }

-- how many bytes segments have
abbrev pub bytes_of : List Segment → ℕ
bytes_of [] = 0
bytes_of (s ∷ ss) = length s.text + bytes_of ss

-- how much a folder holds, as far as 64 bits go
abbrev pub size_of : FolderView → FolderSize
size_of v = record { segments = min (length v.segments) 18446744073709551615; bytes = min (bytes_of v.segments) 18446744073709551615 }
