-- Segments in order, and the one history that they are. (This project's own choice.)
use Rattle.std.specs.Prelude.{◌≡◌, ◌⊎◌, ℕ, suc, ◌+◌, ◌<◌, ◌≤◌, ◌==◌, if◌then◌else◌, Bool, List, [], ◌∷◌, ◌++◌, Option, Some, None, codes, length, map, take, ⊤}
use Rattle.std.specs.List.{All, flat_map}
use Rattle.std.specs.Str.{bytes_eq}
use Rattle.netchange_core.specs.Calls.{opened}
use Rattle.netchange_core.specs.Next.{next}
use Rattle.netchange_core.specs.OpeningView.{OpeningView}
use Rattle.netchange_core.specs.World.{World}
use Rattle.netchange_core.specs.declared.reply.Reply.{Reply}
use Rattle.route_history.specs.History.{IsLegalFrom, world_after}
use Rattle.route_history.specs.declared.entry.Entry.{Entry}
use Rattle.history_file.specs.Files.{BeginsWithLine, IsNoEntry, IsUnended}
use Rattle.history_lines.specs.Fits.{FitsEntry}
use Rattle.history_file.specs.Segments.{IsStateText}
use Rattle.history_lines.specs.Text.{entries_text, entry_line}
use Rattle.history_lines.specs.Views.{entry_view}
use Rattle.history_file.specs.declared.chain.Chain.{Chain}
use Rattle.history_file.specs.declared.chain.ChainFault.{ChainFault}
use Rattle.history_file.specs.declared.chain.ChainFault.TheVariants as fault

-- a segment: the state that it begins in, and its entries
pub record SegmentView : Type 0 where
  pub start : World
  pub entries : List Entry

-- Segments in order: the first begins in this state, each other one in the state in which the one before ends, and each is legal from
-- the state that it begins in.
abbrev pub AreChained : World → List SegmentView → Type 0
AreChained w [] = Unit {0}
AreChained w (s ∷ ss) = (s.start ≡ w) × IsLegalFrom s.start s.entries × AreChained (world_after s.start s.entries) ss

-- the entries of all segments, and the state in which the last of them ends
abbrev pub all_entries : List SegmentView → List Entry
all_entries ss = flat_map (λ s. s.entries) ss

abbrev pub last_state : World → List SegmentView → World
last_state w [] = w
last_state w (s ∷ ss) = last_state (world_after s.start s.entries) ss

-- bytes are the text of this state at a position, and what follows it
pub record BeginsWithState (bytes : List ℕ) (at : ℕ) (w : World) (later : List ℕ) : Type 0 where
  pub room : ℕ
  pub text : List ℕ
  pub is_text : IsStateText room at w text
  pub bytes_are : bytes ≡ text ++ later

-- bytes are the lines of these entries from a position on, each legal from a state, and what follows them
pub record AreReplayed (bytes : List ℕ) (at : ℕ) (w : World) (es : List Entry) (later : List ℕ) : Type 0 where
  pub each : All (λ e. FitsEntry (entry_view e)) es
  pub bytes_are : bytes ≡ entries_text at (map entry_view es) ++ later
  pub legal : IsLegalFrom w es

-- how many line feeds there are
abbrev pub feeds : List ℕ → ℕ
feeds [] = 0
feeds (byte ∷ bytes) = if byte == 10 then suc (feeds bytes) else feeds bytes

-- the reply of the entry after these is wrong: this was saved, and this is right
pub record IsWrongReply (bytes : List ℕ) (at : ℕ) (w : World) (es : List Entry) (saved right : Reply) : Type 0 where
  pub entry : Entry
  pub later : List ℕ
  pub replayed : AreReplayed bytes at w es (entry_line (at + length es) (entry_view entry) ++ 10 ∷ later)
  pub saved_is : saved ≡ entry.reply
  pub right_is : right ≡ (next (world_after w es) entry.event).reply
  pub differs : right ≡ saved → ⊥

-- after these entries comes a line that was not written to its end
pub record IsCutEntry (bytes : List ℕ) (at : ℕ) (w : World) (es : List Entry) : Type 0 where
  pub later : List ℕ
  pub replayed : AreReplayed bytes at w es later
  pub unended : IsUnended later
  pub some : 0 < length later

-- after these entries comes a whole line that is not the next entry's
pub record IsWrongEntry (bytes : List ℕ) (at : ℕ) (w : World) (es : List Entry) : Type 0 where
  pub left : List ℕ
  pub line : List ℕ
  pub later : List ℕ
  pub replayed : AreReplayed bytes at w es left
  pub begins : BeginsWithLine left line later
  pub wrong : IsNoEntry (at + length es) line

-- why the lines of entries are not those of a legal history from a state; `lines` stand before them in their file
abbrev pub IsReplayFault : ℕ → List ℕ → ℕ → World → ChainFault → Type 0
IsReplayFault lines bytes at w (fault.Differs place saved right) =
    (es : List Entry) × (place ≡ at + length es) × IsWrongReply bytes at w es saved right
IsReplayFault lines bytes at w (fault.Cut line) = (es : List Entry) × (line ≡ lines + length es + 1) × IsCutEntry bytes at w es
IsReplayFault lines bytes at w (fault.Line line) = (es : List Entry) × (line ≡ lines + length es + 1) × IsWrongEntry bytes at w es
IsReplayFault lines bytes at w fault.Memory = ⊤
IsReplayFault lines bytes at w _ = ⊥

-- the entry of a line was replayed: a chain stands here after it, where it stood there before
pub record Enters (line : List ℕ) (old new : Chain) : Type 0 where
  pub entry : Entry
  pub fits : FitsEntry (entry_view entry)
  pub line_is : line ≡ entry_line old.next (entry_view entry)
  pub reply : (next old.tables entry.event).reply ≡ entry.reply
  pub tables_are : new.tables ≡ (next old.tables entry.event).world
  pub next_is : new.next ≡ old.next + 1
  pub first_is : new.first ≡ old.first

-- the reply of a line's entry is wrong
pub record IsWrongLine (line : List ℕ) (old : Chain) (place : ℕ) (saved right : Reply) : Type 0 where
  pub entry : Entry
  pub fits : FitsEntry (entry_view entry)
  pub line_is : line ≡ entry_line old.next (entry_view entry)
  pub place_is : place ≡ old.next
  pub saved_is : saved ≡ entry.reply
  pub right_is : right ≡ (next old.tables entry.event).reply
  pub differs : right ≡ saved → ⊥

-- why the line of this number is not that of the next entry
abbrev pub IsEnterFault : ℕ → List ℕ → Chain → ChainFault → Type 0
IsEnterFault number line old (fault.Differs place saved right) = IsWrongLine line old place saved right
IsEnterFault number line old (fault.Line n) = (n ≡ number) × IsNoEntry old.next line
IsEnterFault number line old fault.Memory = ⊤
IsEnterFault number line old _ = ⊥

-- entries were replayed: after them a chain stands here, where it stood there before
pub record Replays (bytes : List ℕ) (old new : Chain) (es : List Entry) : Type 0 where
  pub replayed : AreReplayed bytes old.next old.tables es []
  pub tables_are : new.tables ≡ world_after old.tables es
  pub next_is : new.next ≡ old.next + length es
  pub first_is : new.first ≡ old.first

-- The bytes are a whole segment: the text of the state that the chain has come to, at its position, and entries, each legal from there. The
-- chain then stands after them.
pub record Follows (bytes : List ℕ) (old new : Chain) : Type 0 where
  pub later : List ℕ
  pub entries : List Entry
  pub begins : BeginsWithState bytes old.next old.tables later
  pub replays : Replays later old new entries

-- The same of a first segment, which begins in the state of an opening if it begins at 0.
pub record Begins (bytes : List ℕ) (new : Chain) : Type 0 where
  pub old : Chain
  pub begun : old.next ≡ old.first
  pub opening : old.first ≡ 0 → old.tables ≡ opened old.tables.opening
  pub follows : Follows bytes old new

-- Texts, the newest first, are the segments of a chain, which stands here after them: the oldest begins it, and each other one follows those
-- before it. These are the entries of all of them.
abbrev pub AreJoined : List (List ℕ) → List Entry → Chain → Type 0
AreJoined [] es new = ⊥
AreJoined (bytes ∷ []) es new = (begins : Begins bytes new) × (es ≡ begins.follows.entries)
AreJoined (bytes ∷ older ∷ texts) es new =
    (old : Chain) × (before : List Entry) × AreJoined (older ∷ texts) before old
    × (follows : Follows bytes old new) × (es ≡ before ++ follows.entries)

-- The replies of all entries of a chain are right, from the state that its first segment begins in. Where that is position 0 it is the
-- state of an opening, so the entries are a whole history.
pub record IsLegalChain (c : Chain) : Type 0 where
  pub start : World
  pub entries : List Entry
  pub legal : IsLegalFrom start entries
  pub tables_are : c.tables ≡ world_after start entries
  pub next_is : c.next ≡ c.first + length entries
  pub opening : c.first ≡ 0 → start ≡ opened start.opening

-- bytes are the next segment of a chain, or its first, which then stands here
abbrev pub Joins : List ℕ → Option Chain → Chain → Type 0
Joins bytes None new = Begins bytes new
Joins bytes (Some old) new = Follows bytes old new

-- the chain of no segment, in the state of an opening
pub record IsOpened (opening : OpeningView) (c : Chain) : Type 0 where
  pub tables_are : c.tables ≡ opened opening
  pub first_is : c.first ≡ 0
  pub next_is : c.next ≡ 0

-- the chain of no segment, in the state that bytes begin with, and what follows the lines of the state
pub record IsRestored (bytes : List ℕ) (c : Chain) (later : List ℕ) (lines : ℕ) : Type 0 where
  pub begins : BeginsWithState bytes c.first c.tables later
  pub next_is : c.next ≡ c.first
  pub lines_are : lines + length later ≤ length bytes

-- why the bytes are not the next segment: their state is the one that the chain has come to, and their entries have this fault; or it is not
abbrev pub IsStateFault : ChainFault → Type 0
IsStateFault (fault.Differs place saved right) = ⊥
IsStateFault _ = ⊤

pub record IsEntriesFault (bytes : List ℕ) (old : Chain) (f : ChainFault) : Type 0 where
  pub room : ℕ
  pub text : List ℕ
  pub later : List ℕ
  pub is_text : IsStateText room old.next old.tables text
  pub bytes_are : bytes ≡ text ++ later
  pub found : IsReplayFault (feeds text) later old.next old.tables f

-- the same of the lines of entries, where their positions may be more than are counted
abbrev pub IsBehindFault : ℕ → List ℕ → Chain → ChainFault → Type 0
IsBehindFault lines bytes old f = IsReplayFault lines bytes old.next old.tables f ⊎ IsStateFault f

abbrev pub IsFollowFault : List ℕ → Chain → ChainFault → Type 0
IsFollowFault bytes old f = IsEntriesFault bytes old f ⊎ IsStateFault f

-- why bytes are not the next segment of a chain, or its first
abbrev pub IsJoinFault : List ℕ → Option Chain → ChainFault → Type 0
IsJoinFault bytes None f = ⊤
IsJoinFault bytes (Some old) f = IsFollowFault bytes old f

-- a text that is a segment's, by the mark that it begins with
abbrev pub is_segment : List ℕ → Bool
is_segment text = bytes_eq (take 5 text) (codes "NCH2 ")
