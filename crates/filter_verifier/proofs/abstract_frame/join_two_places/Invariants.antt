use Rattle.std.proofs.Common.{◌≡◌, ◌++◌, drop}
use Rattle.filter_verifier.specs.PairwiseJoin.{join_two_places}
use Rattle.filter_verifier.proofs.abstract_frame.join_two_places.Given as goal

abbrev pub invariant-loop-at : goal.invariant-loop-at
invariant-loop-at l = l.joined.items ++ join_two_places (drop l.at l.places) (drop l.at l.others) ≡ join_two_places l.places l.others
