use Rattle.history_file.specs.Numbering.{AreNumbered, texts_of}
use Rattle.history_file.proofs.numbering.number_filters.Given as goal

-- the nodes so far have their numbers
abbrev pub invariant-loop-node : goal.invariant-loop-node
invariant-loop-node l = AreNumbered l.tables.neighbours (texts_of l.rows.items) l.uses.items l.node
