use Rattle.std.proofs.Common.{rules, ◌≡◌, ◌-◌, ◌≤◌, true, Some, length, ap, sym, ◌∙◌}
use Rattle.filter_tokens.specs.declared.part.Part.TheVariants as part
use Rattle.filter_tokens.specs.declared.token_kind.TokenKind.TheVariants as kind
use Rattle.filter_tokens.specs.Reading.{begins_digit, prefix_kind, token_in}
use Rattle.filter_tokens.proofs.OnePass.{leads-token, leads-within}
use Rattle.filter_tokens.proofs.FrontNumbers.{begins_with_digit, no_first_digit}
use Rattle.filter_tokens.proofs.leading.prefix_token.Goals as goal

pub overflow_sub-result : goal.overflow_sub-result
overflow_sub-result c =
    let within : length c.in-Some.rest.now ≤ length c.args.text.now =
    leads-within c.args.text.now c.in-Some.written c.in-Some.rest.now c.in-Some.ensures.found in
    search rules

pub returns-clause-token : goal.returns-clause-token
returns-clause-token c =
    let text = c.args.text.now in
    let rest = c.in-Some.rest.now in
    let told : c.begins_digit.result ≡ begins_digit rest = search rules in
    let token : token_in text ≡ Some (part.Token (prefix_kind c.in-Some.written) (length text - length rest)) =
    leads-token text c.in-Some.written rest c.in-Some.ensures.found (no_first_digit rest (sym told ∙ c.if-begins_digit.false)) in
    search rules

pub returns-then-begins_digit-clause-usual : goal.returns-then-begins_digit-clause-usual
returns-then-begins_digit-clause-usual c rest begins ends =
    let same = c.in-Some.ensures.usual rest begins ends in
    let told : c.begins_digit.result ≡ begins_digit c.in-Some.rest.now = search rules in
    let digit : begins_digit rest ≡ true = ap begins_digit (sym same) ∙ sym told ∙ c.if-begins_digit.true in
    absurd (ends (begins_with_digit rest digit))
