-- Next hops at rest: whoever a route leads through is nearer, and a reached node without one is the destination.
use Rattle.std.proofs.Common.{◌≡◌, ℕ, ◌<◌, List, ◌∷◌, ◌++◌, subst, ap, ◌∙◌, arith, append_assoc, flat_map}
use Rattle.netchange_core.specs.declared.reply.Via.{Via}
use Rattle.netchange_core.specs.declared.reply.Via.TheVariants.{Node, Nowhere}
use Rattle.routing_domain.proofs.Alone.{leads_nearer}
use Rattle.domain_routes.specs.PlanView.{PlanView}
use Rattle.domain_routes.specs.Routes.{AreRoutes, route_at}
use Rattle.routing_domain.specs.Ways.{GoesVia}
use Rattle.domain_routes.specs.Topology.{topology}
use Rattle.domain_routes.specs.declared.best.Best.{Best}
use Rattle.domain_routes.proofs.Increasing.{never_nearer}
use Rattle.domain_cmds.specs.Texts.{route_in, step_text}

module _ (p : PlanView) (v : ℕ) (routes : List Best) (all : AreRoutes (topology p v) v routes) (u : ℕ) (short : u < p.size) where
  goes : (via : Via) → (route_in p.size routes u).via ≡ via → GoesVia (topology p v) v (λ x. (route_at p.size routes x).dist) u via
  goes via is = subst (GoesVia (topology p v) v (λ x. (route_at p.size routes x).dist) u) is (all.vias u short)

  -- the next hop is a node
  pub hop_member : (w : ℕ) → (route_in p.size routes u).via ≡ Node w → w < p.size
  hop_member w is = (goes (Node w) is).leads.member

  -- and it is nearer
  pub hop_nearer : (w : ℕ) → (route_in p.size routes u).via ≡ Node w → (route_in p.size routes w).dist < (route_in p.size routes u).dist
  hop_nearer w is =
      leads_nearer (topology p v) v (λ x. (route_at p.size routes x).dist) (never_nearer p v) all.rest u w short (goes (Node w) is).leads

  -- a reached node has a route
  pub is_somewhere : (route_in p.size routes u).dist < p.size → (route_in p.size routes u).via ≡ Nowhere → ⊥
  is_somewhere reached is = omega (arith, reached, (goes Nowhere is).1)

-- a node and those on the way from its next hop are the nodes on its way
pub one_more : (old mid new : List ℕ) (u : ℕ) (hops : List ℕ) → mid ≡ old ++ step_text u → new ≡ mid ++ flat_map step_text hops
    → new ≡ old ++ flat_map step_text (u ∷ hops)
one_more old mid new u hops first rest =
    rest ∙ ap (λ (l : List ℕ). l ++ flat_map step_text hops) first ∙ append_assoc old (step_text u) (flat_map step_text hops)
