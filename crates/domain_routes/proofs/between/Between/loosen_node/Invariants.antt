use Rattle.std.proofs.Common.{◌≡◌}
use Rattle.domain_routes.specs.Still.{after_links_below}
use Rattle.domain_routes.proofs.between.Between.loosen_node.Given as goal

-- the links to lesser nodes are noted
abbrev pub invariant-loop-w : goal.invariant-loop-w
invariant-loop-w l = record {
  noted : l.self ≡ after_links_below l.w l.plan l.u l.initial.self;
  size : l.self.most.size ≡ l.plan.size;
}
