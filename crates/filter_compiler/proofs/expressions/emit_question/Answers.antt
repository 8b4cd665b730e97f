use Rattle.filter_code.specs.declared.instruction.Instr.TheVariants as instr
use Rattle.filter_syntax.specs.declared.tree.op.Membership.TheVariants as membership
use Rattle.filter_compiler.proofs.Notes.{then_notes}
use Rattle.filter_compiler.proofs.Puts.{puts_then}
use Rattle.filter_compiler.proofs.Trees.{numbered}
use Rattle.filter_compiler.proofs.expressions.emit_question.Goals as goal

pub returns-clause-code : goal.returns-clause-code
returns-clause-code c = λ n m counted is.
    puts_then (c.emit.ensures.code.puts n counted)
    (numbered m (λ i. instr.InSet i) membership.In c.need_set.ensures.code (λ k. c.need_set.ensures.within (c.put.ensures.places.went_on k)) is
    c.put.ensures.code)

pub returns-clause-places : goal.returns-clause-places
returns-clause-places c = then_notes c.emit.ensures.places (then_notes c.need_set.ensures.places c.put.ensures.places)
