use Rattle.std.proofs.Common.{◌≡◌, ◌+◌, ◌<◌, ◌≤◌, ℕ, map, slice_index_or, deque_capacity, deque_len}
use Rattle.netchange_core.specs.declared.neighbour.Neighbour.{Neighbour}
use Rattle.netchange_core.specs.declared.sessions.Present.{Present}
use Rattle.netchange_core.specs.Kept.{view_of}
use Rattle.netchange_core.proofs.room.make_room.Given as goal

abbrev pub invariant-loop-session : goal.invariant-loop-session
invariant-loop-session l = record {
  same : map view_of l.neighbours ≡ map view_of l.initial.neighbours;
  room : (j : ℕ) (c : Present) (e : Neighbour) → j < l.session-index →
      deque_len (slice_index_or l.neighbours (slice_index_or l.present j c).node e).queue + l.more
      ≤ deque_capacity (slice_index_or l.neighbours (slice_index_or l.present j c).node e).queue;
}
