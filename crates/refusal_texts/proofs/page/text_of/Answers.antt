use Rattle.std.proofs.Common.{sym}
use Rattle.refusal_texts.proofs.Pages.{nothing_said, said_here}
use Rattle.refusal_texts.proofs.page.text_of.Goals as goal

pub returns-then-eq : goal.returns-then-eq
returns-then-eq c known are =
    said_here known c.args.pages.now c.args.code.now c.loop-page.page-index are c.loop-page.invariant _ c.loop-page-test.true (sym c.if-eq.ensures)

pub returns : goal.returns
returns c known are =
    nothing_said known c.args.pages.now c.args.code.now c.loop-page.page-index are c.loop-page.invariant c.loop-page-test.false
