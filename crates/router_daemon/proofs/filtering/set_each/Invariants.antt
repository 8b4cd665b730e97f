use Rattle.std.proofs.Common.{◌≡◌, take}
use Rattle.router_daemon.specs.Passes.{IsLegalPass}
use Rattle.router_daemon.specs.Uses.{SetsEach}
use Rattle.router_daemon.proofs.filtering.set_each.Given as goal

-- the filters of the uses so far are set
abbrev pub invariant-loop-used : goal.invariant-loop-used
invariant-loop-used g l = record {
  legal : IsLegalPass l.router l.pass;
  shares : l.pass.fragment.shares ≡ l.fn.pass.fragment.shares;
  set : SetsEach l.router l.direction l.filters.entries (take l.used-index l.uses) l.fn.pass l.pass;
}
