use Rattle.std.proofs.Common.{◌≡◌, ◌≤◌, take, All}
use Rattle.std.specs.Char.{IsAsciiDigit}
use Rattle.prefix_patterns.specs.Number.{decimal_value}
use Rattle.operator_cmds.proofs.long.read_long.Given as goal

-- the bytes so far are digits and write the value, which is within the limit
abbrev pub invariant-loop-byte : goal.invariant-loop-byte
invariant-loop-byte l = record {
  digits : All IsAsciiDigit (take l.byte-index l.text);
  value : l.value ≡ decimal_value (take l.byte-index l.text);
  limit : l.value ≤ l.most;
}
