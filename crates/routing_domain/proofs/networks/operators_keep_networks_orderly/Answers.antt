use Rattle.routing_domain.proofs.Filtering.{exporting_orderly, importing_orderly}
use Rattle.routing_domain.proofs.Restarting.{restarts_orderly}
use Rattle.routing_domain.proofs.networks.operators_keep_networks_orderly.Goals as goal

pub returns : goal.returns
returns c = record {
  set_import = λ n u w f o short. importing_orderly n u w f o short;
  set_export = λ n u w f o short. exporting_orderly n u w f o short;
  restart = λ n u o orderly short size me. restarts_orderly n u o orderly short size me;
}
