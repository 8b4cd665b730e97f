use Rattle.std.proofs.Common.{◌≡◌, length}
use Rattle.line_protocol.specs.Words.{words}
use Rattle.filter_lint.specs.Allowing.{ends_with_comment}
use Rattle.filter_lint.proofs.allowing.ends_with_comment.Given as goal

-- no such comment begins with a word so far
abbrev pub invariant-loop-later : goal.invariant-loop-later
invariant-loop-later l = ends_with_comment (words l.line) l.code ≡ ends_with_comment (words l.rest) l.code

abbrev pub decreases-loop-later : goal.decreases-loop-later
decreases-loop-later l = length (words l.rest)
