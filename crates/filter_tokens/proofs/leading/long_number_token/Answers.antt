use Rattle.std.proofs.Common.{◌<◌, length, get_or, sym, ◌∙◌, arith}
use Rattle.std.specs.Char.{IsAsciiDigit}
use Rattle.std.proofs.lemmas.List.Elements.{All-more}
use Rattle.prefix_patterns.proofs.DecimalValues.{decimal_value-more}
use Rattle.filter_tokens.proofs.Forms.{digit_fact}
use Rattle.filter_tokens.proofs.FrontNumbers.{number-large, one_digit}
use Rattle.filter_tokens.proofs.leading.long_number_token.Goals as goal

pub loop-at-init : goal.loop-at-init
loop-at-init c =
    let first = one_digit c.args.text.now (sym c.begins_digit.ensures ∙ c.if-not-begins_digit.false) in
    record {
      digits = first.0;
      value = omega (arith, c.from-number.ensures, first.1, first.2);
      limit = omega (arith, c.from-number.ensures, first.1, first.2);
    }

pub returns-then-longer-from-clause-exact : goal.returns-then-longer-from-clause-exact
returns-then-longer-from-clause-exact c =
    let text = c.args.text.now in
    let at = c.loop-at.at in
    let within : at < length text = omega arith in
    let digit : IsAsciiDigit (get_or text at 0) = digit_fact _ (sym c.is_ascii_digit.ensures.value ∙ c.if-not-is_ascii_digit.false) in
    sym (number-large text at c.loop-at.number within c.loop-at.invariant.digits digit c.loop-at.invariant.value
    (omega (arith, c.if-longer-from.true, c.from.ensures, c.from-in-loop-at.ensures, c.from-in-loop-at-2.ensures)))

pub loop-at-preserved : goal.loop-at-preserved
loop-at-preserved c =
    let text = c.args.text.now in
    let at = c.loop-at.at in
    let within : at < length text = omega arith in
    let digit : IsAsciiDigit (get_or text at 0) = digit_fact _ (sym c.is_ascii_digit.ensures.value ∙ c.if-not-is_ascii_digit.false) in
    record {
      digits = All-more IsAsciiDigit text at 0 within c.loop-at.invariant.digits digit;
      value = omega
          (arith, c.from.ensures, c.from-in-loop-at.ensures, c.loop-at.invariant.value, decimal_value-more text at within);
      limit = omega (arith, c.if-longer-from.false, c.from.ensures, c.from-in-loop-at.ensures, c.from-in-loop-at-2.ensures);
    }
