use Rattle.std.proofs.Common.{◌≡◌, ◌++◌, drop}
use Rattle.ncimport.specs.Importing.{head_of, outside_lines}
use Rattle.ncimport.proofs.importing.head_of.Given as goal

-- the comments of the words that are left make the head whole
abbrev pub invariant-loop-word : goal.invariant-loop-word
invariant-loop-word l = l.head.items ++ outside_lines l.placed l.conversion.at l.conversion.end l.last (drop l.word-index l.words)
    ≡ head_of l.placed l.conversion.at l.conversion.end l.words
