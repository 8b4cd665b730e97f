use Rattle.std.proofs.Common.{◌≡◌, drop}
use Rattle.std.specs.Str.{bytes_eq}
use Rattle.filter_tokens.proofs.meaning.are_same.Given as goal

-- the bytes so far are the same
abbrev pub invariant-loop-at : goal.invariant-loop-at
invariant-loop-at l = bytes_eq l.word l.bytes ≡ bytes_eq (drop l.at l.word) (drop l.at l.bytes)
