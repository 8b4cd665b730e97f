use Rattle.filter_compiler.proofs.Notes.{next_notes, then_notes}
use Rattle.filter_compiler.proofs.Trees.{declared_next}
use Rattle.filter_compiler.specs.InstructionPlaces.{decl_places}
use Rattle.filter_compiler.proofs.commands.emit_declarations.Goals as goal

pub loop-number-preserved : goal.loop-number-preserved
loop-number-preserved c = (
  declared_next c.args.out.now c.loop-number.out c.put.new.self c.put-in-loop-number.new.self c.args.variables.now c.loop-number.number
      c.index-variables-number.result c.loop-number-test.true c.index-variables-number.is c.loop-number.invariant.0
      (rw c.first_value.ensures.code at c.put.ensures.code) c.put-in-loop-number.ensures.code,
  next_notes decl_places c.args.variables.now c.loop-number.number c.index-variables-number.result c.loop-number-test.true c.index-variables-number.is c.loop-number.invariant.1
      (then_notes c.put.ensures.places c.put-in-loop-number.ensures.places),
)
