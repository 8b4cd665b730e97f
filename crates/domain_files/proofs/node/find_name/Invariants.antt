use Rattle.std.proofs.Common.{◌≡◌, map, take}
use Rattle.std.specs.Option.{option_map}
use Rattle.domain_files.specs.FileView.{use_of}
use Rattle.domain_files.specs.Files.{name_between}
use Rattle.domain_files.proofs.node.find_name.Given as goal

-- the name of the last use so far
abbrev pub invariant-loop-used : goal.invariant-loop-used
invariant-loop-used l =
    option_map (λ name. name.now) l.name ≡ name_between l.direction l.u l.w (map use_of (take l.used-index l.uses))
