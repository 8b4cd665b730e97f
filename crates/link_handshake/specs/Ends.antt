-- One end of a link: what becomes of it when it begins, and when it hears a line. (This project's own choice.)
use Rattle.std.specs.Prelude.{ℕ, ◌==◌, ◌&&◌, not, cond, Bool, false, Some, None}
use Rattle.link_handshake.specs.declared.ends.End.{End}
use Rattle.link_handshake.specs.declared.ends.Heard.{Heard}
use Rattle.link_handshake.specs.declared.ends.Speaker.{Speaker}
use Rattle.link_handshake.specs.declared.greeting.Greeting.{Greeting}
use Rattle.link_handshake.specs.declared.said.Said.{Said}
use Rattle.link_handshake.specs.declared.said.Said.TheVariants as said

-- an end that begins an attempt with this number, and has heard that one before, or none (0)
abbrev pub begun : ℕ → ℕ → End
begun number heard = record { number = number; heard = heard; is_up = false }

-- an end that is ready for the first line of an attempt: a session is over, and it begins anew with this number
abbrev pub ready : End → ℕ → End
ready e next = cond e.is_up (begun next e.heard) e

-- an end without a session hears a greeting of this number, which repeats that one: it is up if that one is its own
abbrev pub greeted_by : End → ℕ → ℕ → End
greeted_by e number repeats = record { number = e.number; heard = number; is_up = repeats == e.number }

-- whether it answers by its own greeting: not where it is up and has said before that it heard this number
abbrev pub is_answered : End → ℕ → ℕ → Bool
is_answered e number repeats = not ((repeats == e.number) && (e.heard == number))

-- what becomes of it at a line, with the number that an attempt has which begins there
abbrev pub heard_line : End → Said → ℕ → Heard
heard_line e said.Alive next = record { end = e; answers = false; taken = None }
heard_line e (said.Greeting g) next = record {
  end = greeted_by (ready e next) g.number g.heard;
  answers = is_answered (ready e next) g.number g.heard;
  taken = None;
}
heard_line e (said.Message m) next = record { end = e; answers = false; taken = cond e.is_up (Some m) None }
heard_line e said.Nothing next = record { end = ready e next; answers = e.is_up; taken = None }

-- the greeting that an end writes: it says its own number, repeats the last one that it heard, and tells its domain's digest if it has one
abbrev pub greeting_of : Speaker → End → Greeting
greeting_of s e = record { size = s.size; node = s.node; hold = s.hold; number = e.number; heard = e.heard; digest = s.digest }
