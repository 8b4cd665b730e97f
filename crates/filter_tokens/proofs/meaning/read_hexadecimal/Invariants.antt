use Rattle.std.proofs.Common.{◌≡◌, drop}
use Rattle.filter_tokens.specs.Reading.{hexadecimal_from}
use Rattle.filter_tokens.proofs.meaning.read_hexadecimal.Given as goal

-- what is left to read goes on from the value
abbrev pub invariant-loop-byte : goal.invariant-loop-byte
invariant-loop-byte l = hexadecimal_from 0 l.digits ≡ hexadecimal_from l.value (drop l.byte-index l.digits)
