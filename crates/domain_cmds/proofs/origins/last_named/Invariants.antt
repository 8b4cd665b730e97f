use Rattle.std.proofs.Common.{◌≡◌, take}
use Rattle.domain_cmds.specs.Origins.{last_named}
use Rattle.domain_cmds.proofs.origins.last_named.Given as goal

-- the last so far that got the name
abbrev pub invariant-loop-place : goal.invariant-loop-place
invariant-loop-place l = l.found ≡ last_named (take l.place l.all) l.name
