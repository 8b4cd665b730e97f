use Rattle.std.proofs.Common.{◌≡◌, take}
use Rattle.std.specs.List.{filter_map}
use Rattle.filter_lint.specs.HostBits.{host_bits_of}
use Rattle.filter_lint.proofs.host_bits.host_bits_among.Given as goal

-- those among the tokens so far
abbrev pub invariant-loop-token : goal.invariant-loop-token
invariant-loop-token l = l.found.items ≡ filter_map host_bits_of (take l.token-index l.tokens)
