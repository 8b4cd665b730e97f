use Rattle.std.proofs.Common.{◌∙◌, sym}
use Rattle.filter_tokens.proofs.FrontNumbers.{usual_prefix_begins}
use Rattle.filter_tokens.proofs.leading.digits_token.Goals as goal

-- a text without a digit at the front begins with no prefix
pub returns-else-begins_digit-clause-usual : goal.returns-else-begins_digit-clause-usual
returns-else-begins_digit-clause-usual c rest begins ends =
    sym c.if-begins_digit.false ∙ c.begins_digit.ensures ∙ usual_prefix_begins c.args.text.now rest begins
