use Rattle.std.proofs.Common.{sym, ap, ◌∙◌, arith}
use Rattle.std.specs.Str.{bytes_eq}
use Rattle.filter_types.proofs.Names.{number_at, number_none}
use Rattle.filter_types.proofs.variables.number_of.Goals as goal

pub returns-then-eq-clause-value : goal.returns-then-eq-clause-value
returns-then-eq-clause-value c =
    number_at c.args.variables.now c.args.name.now c.loop-number.number c.index-variables-number.result
    c.loop-number-test.true c.index-variables-number.is c.loop-number.invariant
    (ap (λ l. bytes_eq l c.args.name.now) (sym c.as_slice.ensures.value) ∙ sym c.if-eq.ensures)

pub returns-clause-value : goal.returns-clause-value
returns-clause-value c =
    number_none c.args.variables.now c.args.name.now
    (λ k d low. c.loop-number.invariant k d (omega (arith, c.loop-number-test.false)))
