use Rattle.routing_domain.proofs.Ending.{run_keeps}
use Rattle.routing_domain.proofs.Topologies.{receives_kept, sends_kept}
use Rattle.routing_domain.specs.Steps.{receives, sends}
use Rattle.domain_routes.proofs.Following.{cuts_follow, kept_follows, links_follow, opened_follows}
use Rattle.domain_routes.proofs.FollowingFilters.{exports_follow, imports_follow}
use Rattle.domain_routes.proofs.laws.domains_follow_plans.Goals as goal

pub returns : goal.returns
returns c = record {
  opened = λ prefixes openings a same. opened_follows prefixes openings a same;
  link = λ d p u w o s plan can. links_follow d p u w o s plan can;
  cut = λ d p u w o s plan from to linked. cuts_follow d p u w o s plan from to linked;
  import = λ d p u w f o s plan from to apart fits. imports_follow d p u w f o s plan from to apart fits;
  export = λ d p u w f o s plan from to apart fits. exports_follow d p u w f o s plan from to apart fits;
  sends = λ d p u w max s. kept_follows d (sends d u w max) p (sends_kept d u w max) s;
  receives = λ d p u w m rest s. kept_follows d (receives d u w m rest) p (receives_kept d u w m rest) s;
  runs = λ k d e p s run. kept_follows d e p (run_keeps k d e run) s;
}
