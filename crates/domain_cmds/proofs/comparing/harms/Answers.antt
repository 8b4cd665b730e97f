-- What failures of links do, and then what those of nodes do.
use Rattle.std.proofs.Common.{List, [], subst, subst₂}
use Rattle.domain_routes.specs.PlanView.{PlanView}
use Rattle.domain_cmds.specs.Comparing.{AddsHarms, all_failing, all_links_of_either}
use Rattle.domain_cmds.specs.Failures.{all_nodes}
use Rattle.domain_cmds.specs.declared.comparing.Harm.{Harm}
use Rattle.domain_cmds.proofs.Harming.{adds_both, from_none}
use Rattle.domain_cmds.proofs.comparing.harms.Goals as goal

pub returns-clause-ok : goal.returns-clause-ok
returns-clause-ok c =
    let p = c.args.old.now in
    let q = c.args.new.now in
    let before = c.args.before.now in
    let after = c.args.after.now in
    let mid = c.push_link_harms.new.found.items in
    let all = c.push_node_harms.new.found.items in
    let same = c.push_link_harms.ensures.same in
    from_none p q before after (all_failing p q) all
    (adds_both p q before after (all_links_of_either p q) (all_nodes p) [] mid all
    (subst (λ (l : List Harm). AddsHarms p q before after (all_links_of_either p q) l mid) c.new-found.ensures.items c.in_ok-push_link_harms.ensures.ok)
    (subst₂ (λ (x y : PlanView). AddsHarms x y before after (all_nodes x) mid all) same.0 same.1 c.in_ok-push_node_harms.ensures.ok))
