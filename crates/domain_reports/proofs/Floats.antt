-- Nothing that is said of a domain has a float.
use Rattle.std.proofs.Common.{◌≡◌, ℕ, false, List, [], ◌∷◌, Option, Some, None, map, refl}
use Rattle.std.proofs.lemmas.Bool.{or_from}
use Rattle.bstr.specs.Text.{lines_of, without_terminator}
use Rattle.serde_json.specs.Data.{Data}
use Rattle.serde_json.specs.View.{items_of}
use Rattle.serde_json.specs.Written.{has_float, items_have_float}
use Rattle.report_formats.specs.Values.{number_or_null, text_or_null}
use Rattle.domain_reports.specs.Reports.{comparison_data, domain_data, effect_data, ends_data, failure_data, failure_data_by, failures_data, filter_data, harm_data, harm_data_by, link_data, list_data, number_data, numbers_data, pair_data, pairs_data, route_data, table_data, text_data}
use Rattle.domain_reports.specs.Views.{ComparisonView, DomainView, EffectView, FilterView}
use Rattle.domain_reports.specs.declared.comparison.HarmReport.{HarmReport}
use Rattle.domain_reports.specs.declared.domain.RouteReport.{RouteReport}
use Rattle.domain_reports.specs.declared.failure.FailureReport.{FailureReport}
use Rattle.domain_reports.specs.declared.failure.Fails.{Fails}
use Rattle.domain_reports.specs.declared.failure.Fails.TheVariants.{Link, Node}
use Rattle.domain_reports.specs.declared.link.LinkReport.{LinkReport}

-- a value without floats
abbrev pub HasNoFloat : Data → Type 0
HasNoFloat value = has_float value ≡ false

items : {X : Type 0} (said : X → Data) → ((x : X) → HasNoFloat (said x)) → (all : List X) → items_have_float (items_of (map said all)) ≡ false
items said each [] = refl
items said each (x ∷ all) = or_from (has_float (said x)) (items_have_float (items_of (map said all))) (each x) (items said each all)

list : {X : Type 0} (said : X → Data) → ((x : X) → HasNoFloat (said x)) → (all : List X) → HasNoFloat (list_data said all)
list said each all = items said each all

optional_number : (n : Option ℕ) → HasNoFloat (number_or_null n)
optional_number None = refl
optional_number (Some n) = refl

optional_text : (text : Option (List ℕ)) → HasNoFloat (text_or_null text)
optional_text None = refl
optional_text (Some text) = refl

numbers : (all : List ℕ) → HasNoFloat (numbers_data all)
numbers all = list number_data (λ n. refl) all

texts : (all : List (List ℕ)) → HasNoFloat (list_data text_data all)
texts all = list text_data (λ text. refl) all

pairs : (all : List (ℕ × ℕ)) → HasNoFloat (pairs_data all)
pairs all = list (λ pair. pair_data pair.0 pair.1) (λ pair. refl) all

effect : (e : EffectView) → HasNoFloat (effect_data e)
effect e = or_from _ _ (numbers e.distances) (or_from _ _ (numbers e.nodes) refl)

filter : (f : FilterView) → HasNoFloat (filter_data f)
filter f = or_from _ _ (list effect_data effect f.effects) (or_from _ _ (texts (map without_terminator (lines_of f.listing))) (or_from _ _ (optional_text f.text) refl))

ends : (first second : Option ℕ) → HasNoFloat (ends_data first second)
ends first second = or_from _ _ (optional_number first) (or_from _ _ (optional_number second) refl)

link : (l : LinkReport) → HasNoFloat (link_data l)
link l = or_from _ _ (ends l.exports.0 l.exports.1) (or_from _ _ (ends l.imports.0 l.imports.1) refl)

route : (r : RouteReport) → HasNoFloat (route_data r)
route r = or_from _ _ (optional_number r.hop) refl

table : (routes : List RouteReport) → HasNoFloat (table_data routes)
table routes = list route_data route routes

failure_by : (what : Fails) (f : FailureReport) → HasNoFloat (failure_data_by what f)
failure_by (Link u w) f = refl
failure_by (Node x) f = refl

failure : (f : FailureReport) → HasNoFloat (failure_data f)
failure f = failure_by f.what f

failures : (links nodes : List FailureReport) → HasNoFloat (failures_data links nodes)
failures links nodes = or_from _ _ (list failure_data failure links) (or_from _ _ (list failure_data failure nodes) refl)

harm_by : (what : Fails) (h : HarmReport) → HasNoFloat (harm_data_by what h)
harm_by (Link u w) h = refl
harm_by (Node x) h = refl

harm : (h : HarmReport) → HasNoFloat (harm_data h)
harm h = harm_by h.what h

pub domain_without_floats : (d : DomainView) → HasNoFloat (domain_data d)
domain_without_floats d =
    or_from _ _ (failures d.link_failures d.node_failures)
    (or_from _ _ (list filter_data filter d.filters)
    (or_from _ _ (list link_data link d.links)
    (or_from _ _ (texts d.prefixes)
    (or_from _ _ (list table_data table d.tables) refl))))

pub comparison_without_floats : (d : ComparisonView) → HasNoFloat (comparison_data d)
comparison_without_floats d =
    or_from _ _ (pairs d.changed)
    (or_from _ _ (list harm_data harm d.failures)
    (or_from _ _ (pairs d.gained)
    (or_from _ _ (pairs d.lost) refl)))
