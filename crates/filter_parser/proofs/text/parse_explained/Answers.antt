use Rattle.filter_parser.proofs.Texts.{text_one}
use Rattle.filter_parser.proofs.text.parse_explained.Goals as goal

pub returns-in_err-tokens-clause-one : goal.returns-in_err-tokens-clause-one
returns-in_err-tokens-clause-one c = text_one c.args.text.now

pub returns-clause-one : goal.returns-clause-one
returns-clause-one c = text_one c.args.text.now
