use Rattle.std.proofs.Common.{◌≡◌, length}
use Rattle.line_protocol.specs.Words.{words}
use Rattle.filter_lint.specs.Allowing.{is_among}
use Rattle.filter_lint.proofs.allowing.has_word.Given as goal

-- the words so far are others
abbrev pub invariant-loop-other : goal.invariant-loop-other
invariant-loop-other l = is_among (words l.line) l.word ≡ is_among (words l.rest) l.word

abbrev pub decreases-loop-other : goal.decreases-loop-other
decreases-loop-other l = length (words l.rest)
