-- How long an end of a link heard nothing, and wrote nothing, by a clock that is handed in. (This project's own choice.)
use Rattle.std.specs.Prelude.{◌≢◌, ℕ, ◌+◌, ◌-◌, ◌*◌, ◌≤◌, min, List, [], ◌∷◌, ⊤}
use Rattle.link_handshake.specs.declared.clocks.Clocks.{Clocks}
use Rattle.link_handshake.specs.declared.said.Said.{Said}
use Rattle.link_handshake.specs.declared.said.Said.TheVariants as said

-- how many milliseconds count at most from one look at the clock to the next: so a clock that jumps closes nothing
abbrev pub look_limit : ℕ
look_limit = 250

-- and how many are counted at most: the longest HOLD
abbrev pub count_limit : ℕ
count_limit = 3600000

-- how many count from one look to the next; none where the clock went back
abbrev pub counted : ℕ → ℕ → ℕ
counted last now = min (now - last) look_limit

-- a look at the clock
abbrev pub looked : Clocks → ℕ → Clocks
looked c now = record c {
  looked_at = now;
  unheard = min (c.unheard + counted c.looked_at now) count_limit;
  unwritten = min (c.unwritten + counted c.looked_at now) count_limit;
}

-- the HOLD of the other end: what its greeting says, or what was known before
abbrev pub hold_after : Said → ℕ → ℕ
hold_after (said.Greeting g) hold = g.hold
hold_after (said.Message m) hold = hold
hold_after said.Alive hold = hold
hold_after said.Nothing hold = hold

-- a line was heard, whatever it says
abbrev pub after_line : Clocks → Said → Clocks
after_line c line = record c { other_hold = hold_after line c.other_hold; unheard = 0 }

-- a line was written
abbrev pub after_writing : Clocks → Clocks
after_writing c = record c { unwritten = 0 }

-- nothing was heard for the other end's HOLD; never where that is 0
abbrev pub IsSilent : Clocks → Type 0
IsSilent c = (c.other_hold ≢ 0) × (1000 * c.other_hold ≤ c.unheard)

-- nothing was written for a third of one's own HOLD; never where that is 0
abbrev pub IsDue : Clocks → Type 0
IsDue c = (c.own_hold ≢ 0) × (1000 * c.own_hold ≤ 3 * c.unwritten)

-- looks at these times, in order
abbrev pub after_looks : List ℕ → Clocks → Clocks
after_looks [] c = c
after_looks (now ∷ times) c = after_looks times (looked c now)

-- times of which none is before the one before it
abbrev pub AreRising : ℕ → List ℕ → Type 0
AreRising last [] = ⊤
AreRising last (now ∷ times) = (last ≤ now) × AreRising now times

-- the last of them
abbrev pub last_of : ℕ → List ℕ → ℕ
last_of last [] = last
last_of last (now ∷ times) = last_of now times
