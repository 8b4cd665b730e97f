use Rattle.std.proofs.Common.{◌≤◌, sym, ◌∙◌, arith}
use Rattle.filter_tokens.specs.Meaning.{greatest_number}
use Rattle.filter_tokens.proofs.FrontNumbers.{number-leads, number-longer, number-read, number-within}
use Rattle.filter_tokens.proofs.leading.ended_number_token.Goals as goal

pub overflow_sub-result : goal.overflow_sub-result
overflow_sub-result c = number-within c.args.text.now c.args.number c.args.others.now c.requires.leads

pub returns-then-goes_on-clause-exact : goal.returns-then-goes_on-clause-exact
returns-then-goes_on-clause-exact c =
    sym (number-longer c.args.text.now c.args.number c.args.others.now c.requires.leads c.requires.ends (sym c.goes_on.ensures
    ∙ c.if-goes_on.true))

pub returns-clause-exact : goal.returns-clause-exact
returns-clause-exact c =
    let limit : c.args.number ≤ greatest_number = omega (arith, c.ranges.number.fits) in
    sym (number-read c.args.text.now c.args.number c.args.others.now c.requires.leads limit c.requires.ends (sym c.goes_on.ensures
    ∙ c.if-goes_on.false))

pub returns-clause-token : goal.returns-clause-token
returns-clause-token c =
    let limit : c.args.number ≤ greatest_number = omega (arith, c.ranges.number.fits) in
    number-leads c.args.text.now c.args.number c.args.others.now c.requires.leads limit c.requires.ends (sym c.goes_on.ensures
    ∙ c.if-goes_on.false)
