use Rattle.std.proofs.Common.{◌≡◌, drop}
use Rattle.domain_cmds.specs.Origins.{used_in}
use Rattle.domain_cmds.proofs.origins.used_in.Given as goal

-- none so far is used there
abbrev pub invariant-loop-known : goal.invariant-loop-known
invariant-loop-known l = used_in l.uses l.direction l.u l.w ≡ used_in (drop l.known-index l.uses) l.direction l.u l.w
