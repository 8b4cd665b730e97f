use Rattle.std.proofs.Common.{map, take}
use Rattle.refusal_words.proofs.BestWord.{IsBest}
use Rattle.refusal_words.proofs.nearest.nearest_word.Given as goal

-- the best of the words so far
abbrev pub invariant-loop-candidate : goal.invariant-loop-candidate
invariant-loop-candidate l = IsBest l.word (map (λ other. other.now) (take l.candidate-index l.known)) l.best
