use Rattle.filter_reports.proofs.check.survey_source.Goals as goal

pub returns-in-Ok-clause-surveyed : goal.returns-in-Ok-clause-surveyed
returns-in-Ok-clause-surveyed c = record {
  gives = c.in_ok-code.ensures.code;
  places = c.in_ok-code.ensures.places;
  tokens = c.in_ok-code.ensures.tokens;
  known = record { each = c.in-Ok.ensures.known; count = c.in-Ok.ensures.reach; verdict = c.in-Ok.ensures.verdict };
}
