use Rattle.std.proofs.Common.{◌∙◌, ap}
use Rattle.serde_json.specs.Written.{has_float}
use Rattle.domain_reports.specs.Views.{domain_view}
use Rattle.domain_reports.proofs.Floats.{domain_without_floats}
use Rattle.domain_reports.proofs.domain.push_domain.Goals as goal

pub push_value-requires : goal.push_value-requires
push_value-requires c = ap has_float c.in_ok-value.ensures ∙ domain_without_floats (domain_view c.args.domain.now)
