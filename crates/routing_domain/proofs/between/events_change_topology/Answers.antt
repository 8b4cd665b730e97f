use Rattle.routing_domain.proofs.Topologies.{cuts_topology, export_topology, import_topology, links_topology}
use Rattle.routing_domain.proofs.between.events_change_topology.Goals as goal

pub returns : goal.returns
returns c = record { link = λ d u w v o c. links_topology d u w v o c; cut = λ d u w v o from to linked. cuts_topology d u w v o from to linked; set_import = λ d u w v f o from to apart fits. import_topology d u w v f o from to apart fits; set_export = λ d u w v f o from to apart fits. export_topology d u w v f o from to apart fits }
