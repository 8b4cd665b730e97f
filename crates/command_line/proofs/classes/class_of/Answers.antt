use Rattle.std.proofs.Common.{sym}
use Rattle.std.proofs.lemmas.Slice.Eq.{bytes_eq-Decides}
use Rattle.command_line.specs.Pages.{letters}
use Rattle.command_line.proofs.Lettering.{letter_here}
use Rattle.command_line.proofs.classes.class_of.Goals as goal

pub returns-then-eq : goal.returns-then-eq
returns-then-eq c =
    let items = c.class_table-class-items.result.now in (
      letter_here (λ class. class.letter.now) letters items c.args.letter.now c.loop-class.class-index _ c.class_table-class-items.ensures
          c.loop-class-test.true c.loop-class.invariant (sym c.if-eq.ensures),
      (bytes_eq-Decides _ c.args.letter.now).0 (sym c.if-eq.ensures),
    )
