-- When a link that was closed is opened again. (This project's own choice.)
use Rattle.std.specs.Prelude.{ℕ, ◌*◌, max, min, Bool, true, false, Option, None, Some}

-- how many seconds it waits at most, by `--retry`
abbrev pub longest_wait : ℕ → ℕ
longest_wait retry = max retry 60

-- how long a wait is that is tried anew, by how long it was before: so long at first, then twice as long each time, up to the longest
abbrev pub next_wait : ℕ → Option ℕ → ℕ → ℕ
next_wait first None longest = first
next_wait first (Some before) longest = min (before * 2) longest

-- after a long session it begins anew
abbrev pub wait_before : Bool → Option ℕ → Option ℕ
wait_before true before = None
wait_before false before = before

-- After how many seconds it is opened again: as `--retry` says, and then twice as long each time, up to a minute, or to what `--retry` says, if that
-- is longer; never without `--retry`, nor after a session that says that it cannot be.
abbrev pub reopens : Option ℕ → Bool → Option ℕ → Option ℕ
reopens None again before = None
reopens (Some retry) false before = None
reopens (Some retry) true before = Some (next_wait retry before (longest_wait retry))
