use Rattle.filter_source.proofs.Translations.{alike, none, one}
use Rattle.filter_source.proofs.laws.one_translation.Goals as goal

pub returns-clause-one : goal.returns-clause-one
returns-clause-one c = one

pub returns-clause-none : goal.returns-clause-none
returns-clause-none c = none

pub returns-clause-alike : goal.returns-clause-alike
returns-clause-alike c = alike
