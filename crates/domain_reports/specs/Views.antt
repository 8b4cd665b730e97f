-- What contracts see of a report on a domain.
use Rattle.std.specs.Prelude.{ℕ, List, Option, map}
use Rattle.std.specs.Option.{option_map}
use Rattle.domain_reports.specs.declared.comparison.ComparisonReport.{ComparisonReport}
use Rattle.domain_reports.specs.declared.comparison.HarmReport.{HarmReport}
use Rattle.domain_reports.specs.declared.domain.DomainReport.{DomainReport}
use Rattle.domain_reports.specs.declared.domain.RouteReport.{RouteReport}
use Rattle.domain_reports.specs.declared.failure.FailureReport.{FailureReport}
use Rattle.domain_reports.specs.declared.filter.Effect.{Effect}
use Rattle.domain_reports.specs.declared.filter.FilterReport.{FilterReport}
use Rattle.domain_reports.specs.declared.link.LinkReport.{LinkReport}

-- what distances from some nodes come to under a filter
pub record EffectView : Type 0 where
  pub distances : List ℕ
  pub nodes : List ℕ

abbrev pub effect_view : Effect → EffectView
effect_view effect = record { distances = effect.distances.items; nodes = effect.nodes.items }

-- a filter: its name, the line that gave it, its text, if it has one, its listing, its bounds, and what it makes of distances
pub record FilterView : Type 0 where
  pub name : List ℕ
  pub line : ℕ
  pub text : Option (List ℕ)
  pub listing : List ℕ
  pub budget : ℕ
  pub depth : ℕ
  pub effects : List EffectView

abbrev pub filter_view : FilterReport → FilterView
filter_view filter = record {
  name = filter.name.now;
  line = filter.line;
  text = option_map (λ text. text.now) filter.text;
  listing = filter.listing.now;
  budget = filter.budget;
  depth = filter.depth;
  effects = map effect_view filter.effects.items;
}

-- a whole domain: the routes of each node, and what the failure of each link and each node changes
pub record DomainView : Type 0 where
  pub size : ℕ
  pub prefixes : List (List ℕ)
  pub links : List LinkReport
  pub filters : List FilterView
  pub tables : List (List RouteReport)
  pub longest : ℕ
  pub phases : ℕ
  pub link_failures : List FailureReport
  pub node_failures : List FailureReport

abbrev pub domain_view : DomainReport → DomainView
domain_view domain = record {
  size = domain.size;
  prefixes = map (λ prefix. prefix.items) domain.prefixes.now;
  links = domain.links.now;
  filters = map filter_view domain.filters.now;
  tables = map (λ table. table.items) domain.tables.now;
  longest = domain.longest;
  phases = domain.phases;
  link_failures = domain.link_failures.now;
  node_failures = domain.node_failures.now;
}

-- two domains that were compared: who no longer reaches whom, who does now, whose routes are others, and what failures do that they did not
pub record ComparisonView : Type 0 where
  pub size : ℕ
  pub lost : List (ℕ × ℕ)
  pub gained : List (ℕ × ℕ)
  pub changed : List (ℕ × ℕ)
  pub failures : List HarmReport

abbrev pub comparison_view : ComparisonReport → ComparisonView
comparison_view comparison = record {
  size = comparison.size;
  lost = comparison.lost.now;
  gained = comparison.gained.now;
  changed = comparison.changed.now;
  failures = comparison.failures.now;
}
