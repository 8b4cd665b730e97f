-- The plan stays what it was, and all that is said is said of it.
use Rattle.std.proofs.Common.{◌≡◌, ℕ, List, All, Vec, Global, map, subst, subst₂, sym, ap, ap₂, ◌∙◌}
use Rattle.domain_reports.specs.Views.{filter_view}
use Rattle.domain_routes.specs.PlanView.{PlanView, opening_of}
use Rattle.domain_routes.specs.Reach.{longest, phases_to_rest}
use Rattle.domain_routes.specs.declared.best.Best.{Best}
use Rattle.prefix_patterns.specs.Spelling.{prefix_text}
use Rattle.domain_cmds.specs.Failures.{AreFailures, all_links, all_nodes}
use Rattle.domain_cmds.specs.Origins.{OriginView}
use Rattle.domain_cmds.specs.Said.{AreFilterReports, failure_report, link_reports, tables_of}
use Rattle.domain_cmds.specs.Texts.{distances}
use Rattle.domain_cmds.proofs.said.said_of.Goals as goal

abbrev items : Vec (List Best) Global → List (List Best)
items all = all.items

pub filter_reports-requires : goal.filter_reports-requires
filter_reports-requires c =
    let same : c.node_failures.new.domain ≡ c.args.domain.now =
    c.node_failures.ensures.same ∙ c.link_failures.ensures.same ∙ c.all_routes.ensures.same in
    record {
      fits = subst (λ (p : PlanView). All (λ (o : OriginView). o.filter.size ≡ p.size) c.args.origins.now.all)
          (sym (c.plan-3.ensures ∙ same)) c.requires.fits;
    }

pub returns-clause-said : goal.returns-clause-said
returns-clause-said c =
    let plan = c.args.domain.now in
    let origins = c.args.origins.now in
    let routes = c.in_ok-all.all.value.items in
    let second : c.all_routes.new.self ≡ plan = c.all_routes.ensures.same in
    let third : c.link_failures.new.domain ≡ plan = c.link_failures.ensures.same ∙ second in
    let same : c.node_failures.new.domain ≡ plan = c.node_failures.ensures.same ∙ third in
    let size : c.size-size.result ≡ plan.size = c.size-size.ensures.value ∙ ap (λ (p : PlanView). p.size) same in
    let farthest : ℕ → List (List Best) → ℕ = λ n all. longest n (distances n all) in
    let soonest : ℕ → List (List Best) → ℕ = λ n all. phases_to_rest n (distances n all) in
    record {
      routes = routes;
      at_rest = c.in_ok-all.ensures.all;
      by_link = c.in_ok-by_link.by_link.items;
      of_links = subst₂ (λ (p : PlanView) (l : List (List Best)). AreFailures p l (all_links p) c.in_ok-by_link.by_link.items) second
          (c.as_slice.ensures.value ∙ ap items c.deref.ensures) c.in_ok-by_link.ensures.ok;
      by_node = c.in_ok-by_node.by_node.items;
      of_nodes = subst₂ (λ (p : PlanView) (l : List (List Best)). AreFailures p l (all_nodes p) c.in_ok-by_node.by_node.items) third
          (c.as_slice-2.ensures.value ∙ ap items c.deref-2.ensures) c.in_ok-by_node.ensures.ok;
      size = size;
      prefixes = c.in_ok-prefix_texts.ensures ∙ ap (λ (p : PlanView). map prefix_text p.prefixes) (c.plan.ensures ∙ same);
      links = c.in_ok-link_reports.ensures ∙ ap (λ (p : PlanView). link_reports p origins) (c.plan-2.ensures ∙ same);
      filters = subst (λ (p : PlanView). AreFilterReports (opening_of p) origins.all (map filter_view c.in_ok-filter_reports.field-0.items))
          (c.plan-3.ensures ∙ same) c.in_ok-filter_reports.ensures;
      tables = c.in_ok-tables.ensures ∙ ap₂ tables_of size (c.as_slice-3.ensures.value ∙ ap items c.deref-3.ensures);
      longest = c.longest.ensures ∙ ap₂ farthest size (c.as_slice-4.ensures.value ∙ ap items c.deref-4.ensures);
      phases = c.phases_to_rest.ensures ∙ ap₂ soonest size (c.as_slice-5.ensures.value ∙ ap items c.deref-5.ensures);
      link_failures = c.in_ok-failure_reports.ensures ∙ ap (map failure_report) c.as_slice-6.ensures.value;
      node_failures = c.in_ok-failure_reports-2.ensures ∙ ap (map failure_report) c.as_slice-7.ensures.value;
    }
