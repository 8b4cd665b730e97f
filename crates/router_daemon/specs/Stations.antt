-- When an end of a link greets. (This project's own choice.)
use Rattle.std.specs.Prelude.{◌≡◌, ◌⊎◌, ℕ, ◌*◌, ◌/◌, ◌<◌, min, nat_le, cond, true, false}
use Rattle.link_handshake.specs.Posts.{HasToGreet, HasToWrite}
use Rattle.router_daemon.specs.declared.station.Station.{Station}

-- how many milliseconds it writes nothing before it says its greeting again for the first time: a third of its HOLD
abbrev pub first_wait : ℕ → ℕ
first_wait hold = (hold * 1000) / 3

-- and how many the next time: twice as many, up to all of its HOLD
abbrev pub longer : ℕ → ℕ → ℕ
longer hold wait = min (wait * 2) (hold * 1000)

-- Without a session it greets only once it heard the line that ended the session before, if a line did; and says its greeting again only after
-- its wait.
abbrev pub Waits : Station → Type 0
Waits s = (s.post.end.is_up ≡ false) × ((s.is_to_hear ≡ true) ⊎ ((s.post.owes_greeting ≡ false) × (s.post.clocks.unwritten < s.wait)))

-- it writes its greeting
abbrev pub Greets : Station → Type 0
Greets s = HasToGreet s.post × (Waits s → ⊥)

-- it writes a line
abbrev pub Writes : Station → Type 0
Writes s = HasToWrite s.post × (Waits s → ⊥)

-- how long it waits once it greeted: as long as before if it owed its greeting, and longer if it said it again
abbrev pub wait_after : Station → ℕ
wait_after s = cond s.post.owes_greeting s.wait (longer s.post.speaker.hold s.wait)

-- How long after a look at the clock, one of five in a second, of which there were so many since its session began: as at first if the session has
-- lasted as long as its HOLD.
abbrev pub wait_after_look : Station → ℕ → ℕ
wait_after_look s looks =
    cond s.post.end.is_up (cond (nat_le (s.post.speaker.hold * 1000) (looks * 200)) (first_wait s.post.speaker.hold) s.wait) s.wait
