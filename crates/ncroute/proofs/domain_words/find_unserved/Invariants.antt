use Rattle.std.proofs.Common.{◌≡◌, drop}
use Rattle.ncroute.specs.DomainWords.{unserved}
use Rattle.ncroute.proofs.domain_words.find_unserved.Given as goal

-- a link leads to each so far
abbrev pub invariant-loop-node : goal.invariant-loop-node
invariant-loop-node l = unserved l.links l.neighbours ≡ unserved l.links (drop l.node-index l.neighbours)
