use Rattle.std.proofs.Common.{◌≡◌, map}
use Rattle.serde_json.specs.View.{view}
use Rattle.router_status.specs.Objects.{below, route_data}
use Rattle.router_status.proofs.routes.route_values.Given as goal

abbrev pub invariant-loop-node : goal.invariant-loop-node
invariant-loop-node l = map view l.values.items ≡ below l.node (route_data l.tables)
