use Rattle.bird_import.specs.Names.{Knows}
use Rattle.bird_import.proofs.names.names_of.Given as goal

-- what is found of each name among the definitions so far
abbrev pub invariant-loop-definition : goal.invariant-loop-definition
invariant-loop-definition l = Knows l.config l.definition-index l.names
