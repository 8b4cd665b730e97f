-- After so many phases: distances, next hops, and the way to the destination.
use Rattle.std.proofs.Common.{◌≡◌, ⊎_elim, ℕ, ◌<◌, ◌≤◌, zero, suc, refl, subst, arith}
use Rattle.std.proofs.lemmas.Bool.{cases_eq}
use Rattle.std.specs.Prelude.{◌≢◌}
use Rattle.netchange_core.specs.Best.{best, distance}
use Rattle.netchange_core.specs.declared.reply.Via.{Via}
use Rattle.netchange_core.specs.declared.reply.Via.TheVariants.{Local, Node, Nowhere}
use Rattle.routing_domain.specs.Domain.{Domain, IsInOrder, KeepsLinksAndFilters, topology}
use Rattle.routing_domain.specs.Phases.{IsPhase, Phases}
use Rattle.routing_domain.specs.Rest.{IsRest, LeadsThrough}
use Rattle.routing_domain.specs.Ways.{Forwards, GoesVia}
use Rattle.routing_domain.proofs.Alone.{leads_nearer}
use Rattle.routing_domain.proofs.Emptied.{quiet_is_phase}
use Rattle.routing_domain.proofs.Increasing.{never_nearer}
use Rattle.routing_domain.proofs.Nearing.{IsRight, distance_right, goes_right}
use Rattle.routing_domain.proofs.Running.{ComesToRest, comes_to_rest}
use Rattle.routing_domain.proofs.Topologies.{kept_topology}
use Rattle.routing_domain.proofs.Turned.{AreTold, all_right_below_none, are_heard, phases_keep, phases_told}

-- what is known after so many phases
pub record IsPhased (j : ℕ) (d e : Domain) (v : ℕ) (a : ℕ → ℕ) : Type 0 where
  pub told : AreTold e v a j
  pub same : topology e v ≡ topology d v
  pub size : e.size ≡ d.size

pub phased : (j : ℕ) (d e : Domain) (v : ℕ) (a : ℕ → ℕ) → IsInOrder d → Phases j d e → v < d.size → IsRest (topology d v) v a → IsPhased j d e v a
phased j d e v a o p there r =
    let kept : KeepsLinksAndFilters d e = phases_keep j d e p in
    record {
      told = phases_told j d e v a 0 j (all_right_below_none d v a o there r) p (omega arith);
      same = kept_topology d e v kept;
      size = kept.size;
    }

right_after : (j : ℕ) (d e : Domain) (v : ℕ) (a : ℕ → ℕ) → IsPhased j d e v a → (u : ℕ) → u < d.size →
    IsRight (suc j) (a u) (a u) (distance (e.router u) v)
right_after j d e v a p u short =
    distance_right e p.told.order v p.told.there a p.told.rest j (are_heard e v a j p.told) u (omega (arith, short, p.size))

-- who is that near has its distance of rest, and who is farther is as far as that, and no nearer
pub distance_after : (j : ℕ) (d e : Domain) (v : ℕ) (a : ℕ → ℕ) → IsPhased j d e v a → (u : ℕ) → u < d.size → a u ≤ j → distance (e.router u) v ≡ a u
distance_after j d e v a p u short near =
    ⊎_elim
    (λ (is : distance (e.router u) v ≡ a u). is)
    (λ (past : (suc j ≤ a u) × (suc j ≤ distance (e.router u) v)). absurd (omega (arith, past.0, near)))
    (right_after j d e v a p u short)

pub farther_after : (j : ℕ) (d e : Domain) (v : ℕ) (a : ℕ → ℕ) → IsPhased j d e v a → (u : ℕ) → u < d.size → j < a u → j < distance (e.router u) v
farther_after j d e v a p u short far =
    ⊎_elim
    (λ (is : distance (e.router u) v ≡ a u). omega (arith, is, far))
    (λ (past : (suc j ≤ a u) × (suc j ≤ distance (e.router u) v)). omega (arith, past.1))
    (right_after j d e v a p u short)

pub goes_after : (j : ℕ) (d e : Domain) (v : ℕ) (a : ℕ → ℕ) → IsPhased j d e v a → (u : ℕ) → u < d.size → a u ≤ j →
    GoesVia (topology d v) v a u (best (e.router u) v).via
goes_after j d e v a p u short near =
    subst (λ m. GoesVia m v a u (best (e.router u) v).via) p.same
    (goes_right e p.told.order v p.told.there a p.told.rest j (are_heard e v a j p.told) u (omega (arith, short, p.size)) near)

-- a router's next hop, through which the route of rest leads
record Hop (d e : Domain) (v : ℕ) (a : ℕ → ℕ) (u : ℕ) : Type 0 where
  node : ℕ
  via : (best (e.router u) v).via ≡ Node node
  leads : LeadsThrough (topology d v) v a u node

hop : (d e : Domain) (v : ℕ) (a : ℕ → ℕ) (u : ℕ) → u ≢ v → a u < d.size → (via : Via) → (best (e.router u) v).via ≡ via → GoesVia (topology d v) v a u via →
    Hop d e v a u
hop d e v a u other reach Local is goes = absurd (other goes)
hop d e v a u other reach (Node w) is goes = record { node = w; via = is; leads = goes.leads }
hop d e v a u other reach Nowhere is goes = absurd (omega (arith, goes.1, reach))

-- the hops to the destination: no more than the distance
pub record Hops (e : Domain) (v : ℕ) (a : ℕ → ℕ) (u : ℕ) : Type 0 where
  pub count : ℕ
  pub few : count ≤ a u
  pub forwards : Forwards e v count u

within : (j : ℕ) (d e : Domain) (v : ℕ) (a : ℕ → ℕ) → IsInOrder d → IsRest (topology d v) v a → IsPhased j d e v a → (n u : ℕ) → u < d.size →
    a u < d.size → a u ≤ j → a u ≤ n → Hops e v a u
within j d e v a o r p zero u short reach near bound =
    ⊎_elim (λ (own : u ≡ v). record { count = 0; few = omega arith; forwards = own })
    (λ (other : u ≡ v → ⊥).
    absurd (omega (arith, bound, (hop d e v a u other reach (best (e.router u) v).via refl (goes_after j d e v a p u short near)).leads.one_more)))
    (cases_eq u v)
within j d e v a o r p (suc n) u short reach near bound =
    ⊎_elim (λ (own : u ≡ v). record { count = 0; few = omega arith; forwards = own })
    (λ (other : u ≡ v → ⊥).
    let h : Hop d e v a u = hop d e v a u other reach (best (e.router u) v).via refl (goes_after j d e v a p u short near) in
    let nearer : a h.node < a u = leads_nearer (topology d v) v a (never_nearer d o v) r u h.node short h.leads in
    let rest : Hops e v a h.node = within j d e v a o r p n h.node h.leads.member (omega (arith, nearer, reach)) (omega (arith, nearer, near)) (omega (arith, nearer, bound)) in
    record { count = suc rest.count; few = omega (arith, rest.few, nearer); forwards = (h.node, h.via, rest.forwards) })
    (cases_eq u v)

pub forwards_after : (j : ℕ) (d e : Domain) (v : ℕ) (a : ℕ → ℕ) → IsInOrder d → IsRest (topology d v) v a → IsPhased j d e v a → (u : ℕ) → u < d.size →
    a u < d.size → a u ≤ j → Hops e v a u
forwards_after j d e v a o r p u short reach near = within j d e v a o r p (a u) u short reach near (omega arith)

-- a phase can be had
pub record HasPhase (d : Domain) : Type 0 where
  pub end : Domain
  pub phase : IsPhase d end

pub has_phase : (d : Domain) → IsInOrder d → HasPhase d
has_phase d o =
    let r : ComesToRest d = comes_to_rest d o in
    record { end = r.end; phase = quiet_is_phase r.steps d r.end o r.runs r.quiet }
