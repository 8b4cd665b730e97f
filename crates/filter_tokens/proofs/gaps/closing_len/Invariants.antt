use Rattle.std.proofs.Common.{◌≡◌, ◌+◌, drop}
use Rattle.std.specs.Option.{option_map}
use Rattle.filter_tokens.specs.Reading.{closing_len}
use Rattle.filter_tokens.proofs.gaps.closing_len.Given as goal

-- no `*/` comes before the place
abbrev pub invariant-loop-at : goal.invariant-loop-at
invariant-loop-at l = closing_len l.text ≡ option_map (λ len. l.at + len) (closing_len (drop l.at l.text))
