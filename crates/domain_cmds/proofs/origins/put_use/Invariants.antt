use Rattle.std.proofs.Common.{◌≡◌, All, take, false}
use Rattle.domain_cmds.specs.Origins.{is_use_of}
use Rattle.domain_cmds.proofs.origins.put_use.Given as goal

-- none so far is used there
abbrev pub invariant-loop-it : goal.invariant-loop-it
invariant-loop-it l = record {
  before : All (λ known. is_use_of l.new.direction l.new.u l.new.w known ≡ false) (take l.it l.fn.uses.items);
  same : l.uses.items ≡ l.fn.uses.items;
}
