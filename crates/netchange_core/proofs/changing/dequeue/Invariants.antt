use Rattle.std.proofs.Common.{◌≡◌, ◌≤◌, take, vec_capacity}
use Rattle.netchange_core.specs.Kept.{view_of}
use Rattle.netchange_core.specs.Next.{dequeued}
use Rattle.netchange_core.proofs.changing.dequeue.Given as goal

abbrev pub invariant-loop : goal.invariant-loop
invariant-loop l = record {
  view : view_of l.neighbour ≡ dequeued l.counter (view_of l.initial.neighbour);
  items : l.items.items ≡ take l.counter l.initial.neighbour.queue.items;
  room : l.count ≤ vec_capacity l.items;
}
