use Rattle.std.proofs.Common.{map}
use Rattle.command_line.specs.Filters.{NameFirst}
use Rattle.command_line.proofs.filter_words.filters_in.Given as goal

-- the words so far name these filters
abbrev pub invariant-loop-word : goal.invariant-loop-word
invariant-loop-word l = NameFirst (map (λ word. word.now) l.words) l.word-index l.filters.items
