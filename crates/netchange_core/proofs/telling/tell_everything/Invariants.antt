use Rattle.std.proofs.Common.{◌≡◌, ◌+◌, ◌-◌, ◌≤◌, deque_len, deque_capacity}
use Rattle.netchange_core.specs.Kept.{kept_distance, view_of}
use Rattle.netchange_core.specs.Next.{all_messages}
use Rattle.netchange_core.specs.Room.{queueing}
use Rattle.netchange_core.proofs.telling.tell_everything.Given as goal

abbrev pub invariant-loop-node : goal.invariant-loop-node
invariant-loop-node l = record {
  view : view_of l.neighbour ≡ queueing (all_messages l.opening (view_of l.initial.neighbour).exports
      (kept_distance l.destinations) l.node) (view_of l.initial.neighbour);
  room : deque_len l.neighbour.queue + (l.opening.size - l.node) ≤ deque_capacity l.neighbour.queue;
}
