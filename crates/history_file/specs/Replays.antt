-- What a replay says of the text of a history. (This project's own choice.)
use Rattle.std.specs.Prelude.{◌≡◌, ◌⊎◌, ℕ, ◌<◌, ◌+◌, Bool, true, false, List, [], ◌∷◌, ◌++◌, length, take, slice_index_or, codes, decimal}
use Rattle.line_protocol.specs.Answers.{refusal}
use Rattle.netchange_core.specs.Next.{next}
use Rattle.netchange_core.specs.declared.reply.Reply.{Reply}
use Rattle.route_history.specs.History.{IsFirstWrong, IsLegal, world_of}
use Rattle.route_history.specs.declared.entry.Entry.{Entry}
use Rattle.history_file.specs.Files.{IsRead, IsUnended, IsWrongAt, history_view}
use Rattle.history_lines.specs.Text.{reply_words, spaced}
use Rattle.history_file.specs.declared.history.SavedHistory.{SavedHistory}
use Rattle.history_file.specs.declared.verdict.ReplayVerdict.{ReplayVerdict}
use Rattle.history_file.specs.declared.verdict.ReplayVerdict.TheVariants as verdict

-- each reply is right, of so many entries, and so many bytes follow the last whole line
pub record IsRight (s : SavedHistory) (entries unfinished : ℕ) : Type 0 where
  pub legal : IsLegal s.opening s.entries.items
  pub count : entries ≡ length s.entries.items
  pub left : unfinished ≡ s.unfinished

-- the entry at this position is the first whose reply is wrong: this was saved, and this is right
pub record IsDifference (s : SavedHistory) (at : ℕ) (saved right : Reply) : Type 0 where
  pub entry : Entry
  pub first : IsFirstWrong s.opening s.entries.items at
  pub is_there : entry ≡ slice_index_or s.entries.items at entry
  pub is_saved : saved ≡ entry.reply
  pub is_right : right ≡ (next (world_of s.opening (take at s.entries.items)) entry.event).reply

-- all entries are right, and after them comes a line that was not written to its end
pub record IsCutAfter (s : SavedHistory) (line : ℕ) : Type 0 where
  pub entries : ℕ
  pub unfinished : ℕ
  pub right : IsRight s entries unfinished
  pub some : 0 < unfinished
  pub line_is : line ≡ entries + 2

-- the verdict on a history that was read
abbrev pub IsVerdictOn : SavedHistory → ReplayVerdict → Type 0
IsVerdictOn s (verdict.Replays entries) = IsRight s entries 0
IsVerdictOn s (verdict.Differs at saved right) = IsDifference s at saved right
IsVerdictOn s (verdict.Cut line) = IsCutAfter s line
IsVerdictOn s (verdict.Wrong line) = ⊥

-- the verdict on the history that bytes tell
abbrev pub IsVerdictOnRead : List ℕ → ReplayVerdict → Type 0
IsVerdictOnRead bytes v = (s : SavedHistory) × IsRead bytes (history_view s) s.unfinished × IsVerdictOn s v

-- the verdict on the bytes of a file
abbrev pub IsVerdict : List ℕ → ReplayVerdict → Type 0
IsVerdict bytes (verdict.Replays entries) = IsVerdictOnRead bytes (verdict.Replays entries)
IsVerdict bytes (verdict.Differs at saved right) = IsVerdictOnRead bytes (verdict.Differs at saved right)
IsVerdict bytes (verdict.Cut line) = ((line ≡ 1) × IsUnended bytes) ⊎ IsVerdictOnRead bytes (verdict.Cut line)
IsVerdict bytes (verdict.Wrong line) = IsWrongAt bytes line

-- whether it is the text of a right history, to its end
abbrev pub is_right : ReplayVerdict → Bool
is_right (verdict.Replays entries) = true
is_right _ = false

-- the line of a verdict
abbrev pub verdict_line : ReplayVerdict → List ℕ
verdict_line (verdict.Replays entries) = codes "replay ok " ++ decimal entries ++ 10 ∷ []
verdict_line (verdict.Differs at saved right) =
    codes "differs " ++ decimal at ++ codes " saved" ++ spaced (reply_words saved) ++ codes " right" ++ spaced (reply_words right) ++ 10 ∷ []
verdict_line (verdict.Cut line) = codes "cut " ++ decimal line ++ 10 ∷ []
verdict_line (verdict.Wrong line) = refusal (codes "H1") line
