use Rattle.filter_compiler.proofs.Notes.{then_notes}
use Rattle.filter_compiler.proofs.Puts.{puts_then}
use Rattle.filter_compiler.proofs.expressions.put_opposite.Goals as goal

pub returns-clause-code : goal.returns-clause-code
returns-clause-code c = puts_then c.put.ensures.code c.put-2.ensures.code

pub returns-clause-places : goal.returns-clause-places
returns-clause-places c = then_notes c.put.ensures.places c.put-2.ensures.places
