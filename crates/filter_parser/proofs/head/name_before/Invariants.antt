use Rattle.std.proofs.Common.{◌≡◌, None, drop}
use Rattle.filter_parser.specs.Heads.{name_before}
use Rattle.filter_parser.proofs.head.name_before.Given as goal

-- the tokens that are left give what all of them give
abbrev pub invariant-loop-token : goal.invariant-loop-token
invariant-loop-token l = name_before l.at l.found (drop l.token-index l.tokens) ≡ name_before l.at None l.tokens
