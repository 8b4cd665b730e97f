use Rattle.std.proofs.Common.{◌≡◌, Option, Some, drop, length, ◌∙◌, ap, arith, length-append}
use Rattle.filter_tokens.specs.declared.symbol.Symbol.{Symbol}
use Rattle.filter_tokens.specs.Reading.{pair_or, single, punctuator_in}
use Rattle.filter_tokens.specs.Symbols.{symbol_text}
use Rattle.filter_tokens.proofs.FirstBytes.{punctuator-by}
use Rattle.filter_tokens.proofs.Punctuators.{punctuator-found}
use Rattle.filter_tokens.proofs.shapes.punctuator.Goals as goal

pub returns-in-Some-clause-is : goal.returns-in-Some-clause-is
returns-in-Some-clause-is c =
    ap punctuator_in c.in_ok-first.ensures.cases.0
    ∙ punctuator-by c.in_ok-first.first.now c.in_ok-first.others.now
    ∙ ap (λ (both : Option Symbol). pair_or both (single c.in_ok-first.first.now)) c.in-Some.ensures

pub returns-in-None-clause-is : goal.returns-in-None-clause-is
returns-in-None-clause-is c =
    ap punctuator_in c.in_ok-first.ensures.cases.0
    ∙ punctuator-by c.in_ok-first.first.now c.in_ok-first.others.now
    ∙ ap (λ (both : Option Symbol). pair_or both (single c.in_ok-first.first.now)) c.in-None.ensures
    ∙ c.single.ensures

pub returns-in-Some-clause-within : goal.returns-in-Some-clause-within
returns-in-Some-clause-within c =
    let text = c.args.text.now in
    let written = symbol_text c.in-Some.punctuator in
    let found : punctuator_in text ≡ Some c.in-Some.punctuator = returns-in-Some-clause-is c in
    let front = punctuator-found text c.in-Some.punctuator found in
    omega (arith, ap length front.1, length-append written (drop (length written) text))
