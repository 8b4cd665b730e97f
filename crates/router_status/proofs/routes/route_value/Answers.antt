-- The members, each after those before it.
use Rattle.std.proofs.Common.{[], arith, nat_lt, rules, slice_index_or}
use Rattle.std.proofs.lemmas.Grind.{common_steps}
use Rattle.netchange_core.specs.Best.{best}
use Rattle.serde_json.specs.Data.{boolean, number, unsigned}
use Rattle.router_status.specs.Objects.{next_hop, number_or_null, prefix_data}
use Rattle.router_status.proofs.routes.route_value.Goals as goal

pub returns : goal.returns
returns c =
    let w = c.args.tables.now in
    let route = best w c.args.node in
    let distance = c.member.ensures _ (number (unsigned route.dist)) c.new.ensures (search rules) in
    let node = c.member-2.ensures _ (number (unsigned c.args.node)) distance (search rules) in
    let prefix = c.try_member.ensures _ (prefix_data (slice_index_or w.opening.prefixes c.args.node [])) node
    (grind (arith, common_steps, c.prefix_value.ensures)) in
    let reachable = c.member-3.ensures _ (boolean (nat_lt route.dist w.opening.size)) prefix (search rules) in
    let via = c.member-4.ensures _ (number_or_null (next_hop route.via)) reachable (search rules) in
    c.finish.ensures _ via
