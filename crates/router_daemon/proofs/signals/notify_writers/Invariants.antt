use Rattle.std.proofs.Common.{◌≡◌, length}
use Rattle.router_daemon.specs.StatesView.{AllAwakeBelow}
use Rattle.router_daemon.proofs.signals.notify_writers.Given as goal

abbrev pub invariant-loop-index : goal.invariant-loop-index
invariant-loop-index l = record {
  awake : AllAwakeBelow l.index l.states;
  count : length l.states.links ≡ length l.fn.states.links;
}
