use Rattle.std.proofs.Common.{◌≡◌, ◌++◌, take}
use Rattle.std.specs.Prelude.{flat_map}
use Rattle.filter_lint.specs.WarningLines.{host_bits_in}
use Rattle.filter_lint.proofs.warning_lines.push_all_host_bits.Given as goal

-- the lines so far
abbrev pub invariant-loop-found : goal.invariant-loop-found
invariant-loop-found l =
    l.out.items ≡ l.initial.out.items ++ flat_map (host_bits_in l.format l.name l.text) (take l.found-index l.all)
