-- What the links of this crate tell. (This project's own choice.)
use Rattle.std.specs.Prelude.{◌^◌, ◌-◌, ℕ, nat_lt, if◌then◌else◌, Bool, true, false, Option, Some, None, take}
use Rattle.route_session.specs.declared.channel_link.ChannelLink.{ChannelLink}
use Rattle.route_session.specs.declared.channel_link.ChannelEnd.{ChannelEnd}
use Rattle.route_session.specs.declared.channel_link.ChannelEnd.TheVariants as end
use Rattle.route_session.specs.declared.memory_link.MemoryLink.{MemoryLink}
use Rattle.route_session.specs.LinkTrace.{LinkTrace}

-- a count, while it can still rise
abbrev pub known : ℕ → Option ℕ
known n = if nat_lt n (2 ^ 64 - 1) then Some n else None

-- a link in memory tells everything; it never answers that no message is there
abbrev pub memory_trace : MemoryLink → LinkTrace
memory_trace l = record {
  handed = Some (take l.next l.waiting.items);
  given = Some l.given.items;
  first_refused = Some l.first_refused;
  nothings = Some 0;
  ended = Some l.has_ended;
  failures = known l.failures;
  closed = l.is_closed;
}

-- a link over a channel tells only whether it is closed
abbrev pub empty_trace : Bool → LinkTrace
empty_trace is_closed = record { handed = None; given = None; first_refused = None; nothings = None; ended = None; failures = None; closed = is_closed }

abbrev pub is_closed : ChannelEnd → Bool
is_closed end.Closed = true
is_closed _ = false

abbrev pub channel_trace : ChannelLink → LinkTrace
channel_trace l = empty_trace (is_closed l.end)
