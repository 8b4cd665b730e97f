use Rattle.refusal_words.proofs.Excerpts.{excerpt_columns, front_is_longest}
use Rattle.refusal_words.proofs.laws.excerpt_is_narrow.Goals as goal

pub returns-clause-narrow : goal.returns-clause-narrow
returns-clause-narrow c = excerpt_columns

pub returns-clause-longest : goal.returns-clause-longest
returns-clause-longest c = front_is_longest
