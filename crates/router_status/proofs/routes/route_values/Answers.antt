-- One node more.
use Rattle.std.proofs.Common.{◌≡◌, ◌∙◌, ap, sym, List, ℕ}
use Rattle.serde_json.specs.Data.{Data}
use Rattle.serde_json.specs.View.{items_of}
use Rattle.router_status.specs.Objects.{below, route_data}
use Rattle.router_status.proofs.Growing.{none_below, one_more}
use Rattle.router_status.proofs.routes.route_values.Goals as goal

pub loop-node-init : goal.loop-node-init
loop-node-init c = none_below (route_data c.args.tables.now) c.new-values.result.items c.new-values.ensures.items

pub loop-node-preserved : goal.loop-node-preserved
loop-node-preserved c =
    one_more (route_data c.args.tables.now) c.loop-node.node c.loop-node.values.items c.push.new.self.items c.in_ok-route_value.field-0
    c.in_ok-push.ensures.items c.loop-node.invariant c.in_ok-route_value.ensures
