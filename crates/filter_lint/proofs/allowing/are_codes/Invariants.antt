use Rattle.std.proofs.Common.{◌≡◌, length}
use Rattle.std.specs.List.{list_all}
use Rattle.line_protocol.specs.Words.{words}
use Rattle.filter_lint.specs.Allowing.{all_codes, is_among}
use Rattle.filter_lint.proofs.allowing.are_codes.Given as goal

-- the words so far are codes
abbrev pub invariant-loop-word : goal.invariant-loop-word
invariant-loop-word l = list_all (is_among all_codes) (words l.line) ≡ list_all (is_among all_codes) (words l.rest)

abbrev pub decreases-loop-word : goal.decreases-loop-word
decreases-loop-word l = length (words l.rest)
