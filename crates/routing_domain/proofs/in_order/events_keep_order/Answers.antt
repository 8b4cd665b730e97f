use Rattle.routing_domain.proofs.Filters.{exporting_keeps_order, importing_keeps_order, looking_keeps_order}
use Rattle.routing_domain.proofs.in_order.events_keep_order.Goals as goal

pub returns : goal.returns
returns c = record { set_import = λ d u w f o short. importing_keeps_order d u w f o short; set_export = λ d u w f o short. exporting_keeps_order d u w f o short; show = λ d u v o. looking_keeps_order d u v o }
