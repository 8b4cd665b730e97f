use Rattle.std.proofs.Common.{map, take}
use Rattle.command_line.specs.Sources.{AreNamed}
use Rattle.command_line.proofs.requests.named_in.Given as goal

-- the names so far have their sources
abbrev pub invariant-loop-name : goal.invariant-loop-name
invariant-loop-name l = AreNamed (map (λ name. name.now) (take l.name-index l.names)) l.sources.items
