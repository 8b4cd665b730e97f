use Rattle.std.proofs.Common.{◌≡◌, ◌≤◌, take, All}
use Rattle.std.specs.Char.{IsAsciiDigit}
use Rattle.prefix_patterns.specs.Number.{decimal_value}
use Rattle.filter_tokens.specs.Meaning.{greatest_number}
use Rattle.filter_tokens.proofs.leading.long_number_token.Given as goal

-- the bytes so far are digits and write the number
abbrev pub invariant-loop-at : goal.invariant-loop-at
invariant-loop-at l = record {
  digits : All IsAsciiDigit (take l.at l.text);
  value : l.number ≡ decimal_value (take l.at l.text);
  limit : l.number ≤ greatest_number;
}
