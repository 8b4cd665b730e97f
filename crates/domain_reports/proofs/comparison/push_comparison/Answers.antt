use Rattle.std.proofs.Common.{◌∙◌, ap}
use Rattle.serde_json.specs.Written.{has_float}
use Rattle.domain_reports.specs.Views.{comparison_view}
use Rattle.domain_reports.proofs.Floats.{comparison_without_floats}
use Rattle.domain_reports.proofs.comparison.push_comparison.Goals as goal

pub push_value-requires : goal.push_value-requires
push_value-requires c = ap has_float c.in_ok-value.ensures ∙ comparison_without_floats (comparison_view c.args.comparison.now)
