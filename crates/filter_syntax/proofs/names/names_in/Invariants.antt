use Rattle.std.proofs.Common.{◌≡◌, drop}
use Rattle.filter_syntax.specs.Surroundings.{names_from, names_in}
use Rattle.filter_syntax.proofs.names.names_in.Given as goal

-- the tokens that are left give what all of them give
abbrev pub invariant-loop-token : goal.invariant-loop-token
invariant-loop-token l = names_from l.names l.is_declared (drop l.token-index l.tokens) ≡ names_in l.tokens
