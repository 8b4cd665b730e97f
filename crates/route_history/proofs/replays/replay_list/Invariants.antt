use Rattle.std.proofs.Common.{◌≡◌, take}
use Rattle.route_history.specs.History.{IsLegal, world_of}
use Rattle.route_history.proofs.replays.replay_list.Given as goal

abbrev pub invariant-loop-k : goal.invariant-loop-k
invariant-loop-k l = record {
  legal : IsLegal l.fn.opening (take l.k l.entries);
  replayed : l.tables ≡ world_of l.fn.opening (take l.k l.entries);
}
