-- Routes have no float.
use Rattle.std.proofs.Common.{◌∙◌, ap}
use Rattle.serde_json.specs.Data.{Data}
use Rattle.serde_json.specs.Written.{has_float}
use Rattle.router_status.proofs.Floats.{routes_not}
use Rattle.router_status.proofs.routes.push_routes_object.Goals as goal

pub push_line-requires : goal.push_line-requires
push_line-requires c = ap (λ (d : Data). has_float d) c.in_ok-value.ensures ∙ routes_not c.args.tables.now
