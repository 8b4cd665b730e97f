use Rattle.std.proofs.Common.{◌≡◌, drop}
use Rattle.std.specs.List.{find}
use Rattle.line_protocol.specs.Words.{is_spelled}
use Rattle.line_protocol.proofs.spelled.first_spelled.Given as goal

-- none so far is written so
abbrev pub invariant-loop-one : goal.invariant-loop-one
invariant-loop-one g l =
    find (is_spelled g.T.Spelled.spelling l.word) l.all ≡ find (is_spelled g.T.Spelled.spelling l.word) (drop l.one-index l.all)
