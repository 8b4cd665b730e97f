use Rattle.std.proofs.Common.{◌≡◌, drop}
use Rattle.std.specs.List.{find}
use Rattle.history_lines.specs.Keywords.{has_code}
use Rattle.history_lines.proofs.keyword.first_coded.Given as goal

-- none so far has this code
abbrev pub invariant-loop-why : goal.invariant-loop-why
invariant-loop-why l = find (has_code l.word) l.refusals ≡ find (has_code l.word) (drop l.why-index l.refusals)
