-- The verdict on a history that was read is the verdict on the bytes.
use Rattle.std.proofs.Common.{List, ℕ, Result, Ok, Err, IfOk, inr}
use Rattle.history_file.specs.Files.{IsRead, history_view}
use Rattle.history_file.specs.Replays.{IsVerdict, IsVerdictOn}
use Rattle.history_file.specs.declared.history.SavedHistory.{SavedHistory}
use Rattle.history_file.specs.declared.verdict.ReplayVerdict.{ReplayVerdict}
use Rattle.history_file.specs.declared.verdict.ReplayVerdict.TheVariants as verdict

pub judged : {E : Type 0} (bytes : List ℕ) (s : SavedHistory) (r : Result ReplayVerdict E) → IsRead bytes (history_view s) s.unfinished →
    IfOk r (IsVerdictOn s) → IfOk r (IsVerdict bytes)
judged bytes s (Err e) read on = tt
judged bytes s (Ok (verdict.Replays entries)) read on = (s, read, on)
judged bytes s (Ok (verdict.Differs at saved right)) read on = (s, read, on)
judged bytes s (Ok (verdict.Cut line)) read on = inr (s, read, on)
judged bytes s (Ok (verdict.Wrong line)) read on = absurd on
