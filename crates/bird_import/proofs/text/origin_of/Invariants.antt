use Rattle.std.proofs.Common.{◌≡◌, drop, map, nat_le}
use Rattle.std.specs.List.{filter, last_or}
use Rattle.bird_import.specs.Laying.{origin_of}
use Rattle.bird_import.specs.declared.text.Origin.{Origin}
use Rattle.bird_import.proofs.text.origin_of.Given as goal

-- or else the last of those that are left
abbrev pub invariant-loop-origin : goal.invariant-loop-origin
invariant-loop-origin l =
    last_or l.found (map (λ (origin : Origin). origin.at) (filter (λ (origin : Origin). nat_le origin.from l.byte) (drop l.origin-index l.origins)))
    ≡ origin_of l.origins l.byte
