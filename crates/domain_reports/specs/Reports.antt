-- What is said of a domain, as values of JSON. (This project's own choice.) The members of an object stand in the order of their names.
use Rattle.std.specs.Prelude.{ℕ, List, [], ◌∷◌, Option, codes, map}
use Rattle.bstr.specs.Text.{lines_of, without_terminator}
use Rattle.serde_json.specs.Data.{Data, array, member, no_members, number, object, string, unsigned}
use Rattle.serde_json.specs.View.{items_of}
use Rattle.report_formats.specs.Lines.{json_line, readable}
use Rattle.report_formats.specs.Values.{number_or_null, text_or_null}
use Rattle.domain_reports.specs.Views.{ComparisonView, DomainView, EffectView, FilterView}
use Rattle.domain_reports.specs.declared.comparison.HarmReport.{HarmReport}
use Rattle.domain_reports.specs.declared.domain.RouteReport.{RouteReport}
use Rattle.domain_reports.specs.declared.failure.FailureReport.{FailureReport}
use Rattle.domain_reports.specs.declared.failure.Fails.{Fails}
use Rattle.domain_reports.specs.declared.failure.Fails.TheVariants.{Link, Node}
use Rattle.domain_reports.specs.declared.link.LinkReport.{LinkReport}

abbrev pub number_data : ℕ → Data
number_data n = number (unsigned n)

abbrev pub text_data : List ℕ → Data
text_data bytes = string (readable bytes)

-- what is said of each, in order
abbrev pub list_data : {X : Type 0} → (X → Data) → List X → Data
list_data said all = array (items_of (map said all))

abbrev pub numbers_data : List ℕ → Data
numbers_data numbers = list_data number_data numbers

abbrev pub pair_data : ℕ → ℕ → Data
pair_data u w = array (items_of (number_data u ∷ number_data w ∷ []))

-- ---- filters

abbrev pub effect_data : EffectView → Data
effect_data effect = object (member (codes "distances") (numbers_data effect.distances)
    (member (codes "nodes") (numbers_data effect.nodes) no_members))

-- the lines of a text, each without its end
abbrev pub lines_data : List ℕ → Data
lines_data text = list_data text_data (map without_terminator (lines_of text))

abbrev pub filter_data : FilterView → Data
filter_data filter = object (member (codes "budget") (number_data filter.budget)
    (member (codes "depth") (number_data filter.depth)
    (member (codes "effects") (list_data effect_data filter.effects)
    (member (codes "line") (number_data filter.line)
    (member (codes "listing") (lines_data filter.listing)
    (member (codes "name") (text_data filter.name)
    (member (codes "text") (text_or_null filter.text) no_members)))))))

-- ---- links

-- the filters of both ends, each by its place in the list of all
abbrev pub ends_data : Option ℕ → Option ℕ → Data
ends_data first second = array (items_of (number_or_null first ∷ number_or_null second ∷ []))

abbrev pub link_data : LinkReport → Data
link_data link = object (member (codes "exports") (ends_data link.exports.0 link.exports.1)
    (member (codes "imports") (ends_data link.imports.0 link.imports.1)
    (member (codes "link") (pair_data link.u link.w) no_members)))

-- ---- routes

-- how far, and through whom, if through anybody
abbrev pub route_data : RouteReport → Data
route_data route = array (items_of (number_data route.dist ∷ number_or_null route.hop ∷ []))

abbrev pub table_data : List RouteReport → Data
table_data table = list_data route_data table

abbrev pub reach_data : ℕ → ℕ → Data
reach_data longest phases = object (member (codes "longest") (number_data longest) (member (codes "phases") (number_data phases) no_members))

-- ---- failures

-- what fails stands among what it changes: a link with both ends, or a node
abbrev pub failure_data_by : Fails → FailureReport → Data
failure_data_by (Link u w) failure = object (member (codes "changed") (number_data failure.changed)
    (member (codes "link") (pair_data u w)
    (member (codes "lost") (number_data failure.lost)
    (member (codes "moved") (number_data failure.moved)
    (member (codes "rounds") (number_data failure.rounds)
    (member (codes "still") (number_data failure.still) no_members))))))
failure_data_by (Node x) failure = object (member (codes "changed") (number_data failure.changed)
    (member (codes "lost") (number_data failure.lost)
    (member (codes "moved") (number_data failure.moved)
    (member (codes "node") (number_data x)
    (member (codes "rounds") (number_data failure.rounds)
    (member (codes "still") (number_data failure.still) no_members))))))

abbrev pub failure_data : FailureReport → Data
failure_data failure = failure_data_by failure.what failure

abbrev pub failures_data : List FailureReport → List FailureReport → Data
failures_data links nodes = object (member (codes "links") (list_data failure_data links)
    (member (codes "nodes") (list_data failure_data nodes) no_members))

-- ---- a whole domain

abbrev pub domain_data : DomainView → Data
domain_data domain = object (member (codes "failures") (failures_data domain.link_failures domain.node_failures)
    (member (codes "filters") (list_data filter_data domain.filters)
    (member (codes "links") (list_data link_data domain.links)
    (member (codes "prefixes") (list_data text_data domain.prefixes)
    (member (codes "reach") (reach_data domain.longest domain.phases)
    (member (codes "size") (number_data domain.size)
    (member (codes "tables") (list_data table_data domain.tables) no_members)))))))

abbrev pub domain_line : DomainView → List ℕ
domain_line domain = json_line (domain_data domain)

-- ---- two domains that were compared

abbrev pub harm_data_by : Fails → HarmReport → Data
harm_data_by (Link u w) harm = object (member (codes "keeps") (number_data harm.keeps)
    (member (codes "link") (pair_data u w)
    (member (codes "loses") (number_data harm.loses) no_members)))
harm_data_by (Node x) harm = object (member (codes "keeps") (number_data harm.keeps)
    (member (codes "loses") (number_data harm.loses)
    (member (codes "node") (number_data x) no_members)))

abbrev pub harm_data : HarmReport → Data
harm_data harm = harm_data_by harm.what harm

abbrev pub pairs_data : List (ℕ × ℕ) → Data
pairs_data pairs = list_data (λ pair. pair_data pair.0 pair.1) pairs

abbrev pub comparison_data : ComparisonView → Data
comparison_data comparison = object (member (codes "changed") (pairs_data comparison.changed)
    (member (codes "failures") (list_data harm_data comparison.failures)
    (member (codes "gained") (pairs_data comparison.gained)
    (member (codes "lost") (pairs_data comparison.lost)
    (member (codes "size") (number_data comparison.size) no_members)))))

abbrev pub comparison_line : ComparisonView → List ℕ
comparison_line comparison = json_line (comparison_data comparison)
