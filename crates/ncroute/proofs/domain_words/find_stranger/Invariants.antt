use Rattle.std.proofs.Common.{◌≡◌, drop}
use Rattle.ncroute.specs.DomainWords.{stranger_from}
use Rattle.ncroute.proofs.domain_words.find_stranger.Given as goal

-- no link so far leads to no neighbour
abbrev pub invariant-loop-at : goal.invariant-loop-at
invariant-loop-at l = stranger_from 0 l.links l.neighbours ≡ stranger_from l.at (drop l.at l.links) l.neighbours
