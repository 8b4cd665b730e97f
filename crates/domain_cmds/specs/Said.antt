-- What is said of a domain to programs. (This project's own choice.)
use Rattle.std.specs.Prelude.{◌≡◌, ◌≢◌, ◌⊎◌, ℕ, ◌<◌, nat_lt, ◌&&◌, if◌then◌else◌, List, [], ◌∷◌, ◌++◌, Option, Some, None, flat_map, map}
use Rattle.std.specs.List.{All, AllPairs, AllZip, Contains}
use Rattle.prefix_patterns.specs.Spelling.{prefix_text}
use Rattle.filter_verifier.specs.VerifiedView.{VerifiedView}
use Rattle.filter_verifier.specs.Bounds.{cost, peak}
use Rattle.netchange_core.specs.FilteredDistance.{filtered_distance}
use Rattle.netchange_core.specs.OpeningView.{OpeningView}
use Rattle.netchange_core.specs.declared.reply.Via.{Via}
use Rattle.netchange_core.specs.declared.reply.Via.TheVariants as via
use Rattle.operator_cmds.specs.declared.event.Direction.TheVariants.{Export, Import}
use Rattle.domain_reports.specs.Views as said
use Rattle.domain_reports.specs.declared.comparison.HarmReport.{HarmReport}
use Rattle.domain_reports.specs.declared.domain.RouteReport.{RouteReport}
use Rattle.domain_reports.specs.declared.failure.FailureReport.{FailureReport}
use Rattle.domain_reports.specs.declared.failure.Fails.{Fails}
use Rattle.domain_reports.specs.declared.failure.Fails.TheVariants as fails
use Rattle.domain_reports.specs.declared.link.LinkReport.{LinkReport}
use Rattle.domain_routes.specs.PlanView.{PlanView, is_linked, opening_of}
use Rattle.domain_routes.specs.Reach.{longest, phases_to_rest}
use Rattle.domain_routes.specs.declared.best.Best.{Best}
use Rattle.domain_cmds.specs.Comparing.{ComparisonView}
use Rattle.domain_cmds.specs.Failures.{AreFailures, all_links, all_nodes, lists_below}
use Rattle.domain_cmds.specs.Origins.{OriginView, OriginsView, used_in}
use Rattle.domain_cmds.specs.Rests.{AreAllRoutes}
use Rattle.domain_cmds.specs.Texts.{distances, route_of}
use Rattle.domain_cmds.specs.declared.comparing.Harm.{Harm}
use Rattle.domain_cmds.specs.declared.failure.Failing.{Failing}
use Rattle.domain_cmds.specs.declared.failure.Failing.TheVariants.{Link, Node}
use Rattle.domain_cmds.specs.declared.failure.FailureEffect.{FailureEffect}

-- ---- failures

abbrev pub fails_of : Failing → Fails
fails_of (Link u w) = fails.Link u w
fails_of (Node x) = fails.Node x

abbrev pub failure_report : FailureEffect → FailureReport
failure_report failure = record {
  what = fails_of failure.what;
  changed = failure.changed;
  lost = failure.lost;
  moved = failure.moved;
  rounds = failure.rounds;
  still = failure.still;
}

-- ---- links

-- a link, with the filters that both ends use
abbrev pub link_report : OriginsView → ℕ → ℕ → LinkReport
link_report origins u w = record {
  u = u;
  w = w;
  exports = (used_in origins.uses Export u w, used_in origins.uses Export w u);
  imports = (used_in origins.uses Import u w, used_in origins.uses Import w u);
}

abbrev pub link_report_at : PlanView → OriginsView → ℕ → ℕ → List LinkReport
link_report_at plan origins u w = if nat_lt u w && is_linked plan u w then link_report origins u w ∷ [] else []

abbrev pub link_reports_of : PlanView → OriginsView → ℕ → List LinkReport
link_reports_of plan origins u = lists_below plan.size (link_report_at plan origins u)

-- each link once, in the order of the failures of links
abbrev pub link_reports : PlanView → OriginsView → List LinkReport
link_reports plan origins = lists_below plan.size (link_reports_of plan origins)

-- ---- routes

abbrev pub hop_of : Via → Option ℕ
hop_of via.Local = None
hop_of (via.Node w) = Some w
hop_of via.Nowhere = None

abbrev pub route_report : Best → RouteReport
route_report route = record { dist = route.dist; hop = hop_of route.via }

-- the routes of a node, to each destination
abbrev pub table_of : ℕ → List (List Best) → ℕ → List RouteReport
table_of size all u = lists_below size (λ v. route_report (route_of size all u v) ∷ [])

abbrev pub tables_of : ℕ → List (List Best) → List (List RouteReport)
tables_of size all = lists_below size (λ u. table_of size all u ∷ [])

-- ---- filters; `o` is what they are shown of the domain

-- what each distance from a node comes to
abbrev pub distances_under : OpeningView → Option VerifiedView → ℕ → List ℕ
distances_under o filter v = lists_below o.size (λ dist. filtered_distance o filter v dist ∷ [])

-- what distances from these nodes come to
abbrev pub IsEffect : OpeningView → Option VerifiedView → said.EffectView → Type 0
IsEffect o filter effect = All (λ v. (v < o.size) × (effect.distances ≡ distances_under o filter v)) effect.nodes

-- no two of these are the same
abbrev pub AreDistinct : {X : Type 0} → List X → Type 0
AreDistinct xs = AllPairs (λ x y. x ≢ y) xs

-- what is said of all nodes, of each once: of those of which all distances come to the same at once
pub record AreEffects (o : OpeningView) (filter : Option VerifiedView) (effects : List said.EffectView) : Type 0 where
  pub right : All (IsEffect o filter) effects
  pub all : (v : ℕ) → v < o.size → Contains (flat_map (λ effect. effect.nodes) effects) v
  pub once : AreDistinct (flat_map (λ effect. effect.nodes) effects)
  pub apart : AreDistinct (map (λ effect. effect.distances) effects)

-- a node was added to the effect of these distances, or there is one more
abbrev pub AddsNode : List ℕ → ℕ → List said.EffectView → List said.EffectView → Type 0
AddsNode distances v old new = ((before behind : List said.EffectView) × (nodes : List ℕ)
    × All (λ effect. effect.distances ≢ distances) before
    × (old ≡ before ++ record { distances = distances; nodes = nodes } ∷ behind)
    × (new ≡ before ++ record { distances = distances; nodes = nodes ++ v ∷ [] } ∷ behind))
    ⊎ (All (λ effect. effect.distances ≢ distances) old × (new ≡ old ++ record { distances = distances; nodes = v ∷ [] } ∷ []))

pub record IsFilterReport (o : OpeningView) (origin : OriginView) (filter : said.FilterView) : Type 0 where
  pub name : filter.name ≡ origin.name
  pub line : filter.line ≡ origin.line
  pub text : filter.text ≡ origin.text
  pub listing : filter.listing ≡ origin.listing
  pub budget : filter.budget ≡ cost origin.filter.program.instrs 0
  pub depth : filter.depth ≡ peak origin.filter.program.instrs 0 0
  pub effects : AreEffects o (Some origin.filter) filter.effects

-- what is said of each, in the same order
abbrev pub AreFilterReports : OpeningView → List OriginView → List said.FilterView → Type 0
AreFilterReports o origins filters = AllZip (IsFilterReport o) origins filters

-- ---- a domain, and a comparison

-- this is said of a domain: its links and filters, its routes at rest, and what each failure changes
pub record IsSaid (plan : PlanView) (origins : OriginsView) (domain : said.DomainView) : Type 0 where
  pub routes : List (List Best)
  pub at_rest : AreAllRoutes plan routes
  pub by_link : List FailureEffect
  pub of_links : AreFailures plan routes (all_links plan) by_link
  pub by_node : List FailureEffect
  pub of_nodes : AreFailures plan routes (all_nodes plan) by_node
  pub size : domain.size ≡ plan.size
  pub prefixes : domain.prefixes ≡ map prefix_text plan.prefixes
  pub links : domain.links ≡ link_reports plan origins
  pub filters : AreFilterReports (opening_of plan) origins.all domain.filters
  pub tables : domain.tables ≡ tables_of plan.size routes
  pub longest : domain.longest ≡ longest plan.size (distances plan.size routes)
  pub phases : domain.phases ≡ phases_to_rest plan.size (distances plan.size routes)
  pub link_failures : domain.link_failures ≡ map failure_report by_link
  pub node_failures : domain.node_failures ≡ map failure_report by_node

abbrev pub harm_report : Harm → HarmReport
harm_report harm = record { what = fails_of harm.what; loses = harm.loses; keeps = harm.keeps }

-- this is said of a comparison
abbrev pub comparison_report : ComparisonView → said.ComparisonView
comparison_report found = record {
  size = found.size;
  lost = found.lost;
  gained = found.gained;
  changed = found.changed;
  failures = map harm_report found.harms;
}
