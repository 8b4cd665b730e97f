-- In a quiet domain what each router hands to its next hop arrives.
use Rattle.std.proofs.Common.{◌≡◌, ⊎_elim, ℕ, ◌<◌, ◌≤◌, zero, suc, refl, arith}
use Rattle.std.specs.Prelude.{◌≢◌}
use Rattle.std.proofs.lemmas.Bool.{cases_eq}
use Rattle.netchange_core.specs.Best.{best, distance}
use Rattle.netchange_core.specs.declared.reply.Via.{Via}
use Rattle.netchange_core.specs.declared.reply.Via.TheVariants.{Local, Node, Nowhere}
use Rattle.routing_domain.specs.Domain.{Domain, IsInOrder, IsQuiet, topology}
use Rattle.routing_domain.specs.Rest.{LeadsThrough}
use Rattle.routing_domain.specs.Ways.{Forwards, GoesVia}
use Rattle.routing_domain.proofs.Alone.{leads_nearer}
use Rattle.routing_domain.proofs.Increasing.{never_nearer}
use Rattle.routing_domain.proofs.Quiet.{quiet_goes, quiet_rests}

-- a router's next hop, through which its route leads
record Hop (d : Domain) (v u : ℕ) : Type 0 where
  node : ℕ
  via : (best (d.router u) v).via ≡ Node node
  leads : LeadsThrough (topology d v) v (λ x. distance (d.router x) v) u node

hop : (d : Domain) (v u : ℕ) → u ≢ v → distance (d.router u) v < d.size → (via : Via) → (best (d.router u) v).via ≡ via →
    GoesVia (topology d v) v (λ x. distance (d.router x) v) u via → Hop d v u
hop d v u other reach Local is goes = absurd (other goes)
hop d v u other reach (Node w) is goes = record { node = w; via = is; leads = goes.leads }
hop d v u other reach Nowhere is goes = absurd (omega (arith, goes.1, reach))

-- the hops to the destination: no more than the distance
pub record Hops (d : Domain) (v u : ℕ) : Type 0 where
  pub count : ℕ
  pub few : count ≤ distance (d.router u) v
  pub forwards : Forwards d v count u

next : (d : Domain) → IsInOrder d → IsQuiet d → (v u : ℕ) → v < d.size → u < d.size → u ≢ v → distance (d.router u) v < d.size → Hop d v u
next d o q v u there short other reach = hop d v u other reach (best (d.router u) v).via refl (quiet_goes d o q v there u short)

at_the_end : (d : Domain) (v u : ℕ) → u ≡ v → Hops d v u
at_the_end d v u own = record { count = 0; few = omega arith; forwards = own }

within : (d : Domain) → IsInOrder d → IsQuiet d → (v : ℕ) → v < d.size → (n u : ℕ) → u < d.size → distance (d.router u) v < d.size →
    distance (d.router u) v ≤ n → Hops d v u
within d o q v there zero u short reach bound =
    ⊎_elim (λ (own : u ≡ v). at_the_end d v u own)
    (λ (other : u ≡ v → ⊥). absurd (omega (arith, bound, (next d o q v u there short other reach).leads.one_more)))
    (cases_eq u v)
within d o q v there (suc n) u short reach bound =
    ⊎_elim (λ (own : u ≡ v). at_the_end d v u own)
    (λ (other : u ≡ v → ⊥).
    let h : Hop d v u = next d o q v u there short other reach in
    let nearer : distance (d.router h.node) v < distance (d.router u) v =
    leads_nearer (topology d v) v (λ x. distance (d.router x) v) (never_nearer d o v) (quiet_rests d o q v there) u h.node short h.leads in
    let rest : Hops d v h.node = within d o q v there n h.node h.leads.member (omega (arith, nearer, reach)) (omega (arith, nearer, bound)) in
    record { count = suc rest.count; few = omega (arith, rest.few, nearer); forwards = (h.node, h.via, rest.forwards) })
    (cases_eq u v)

pub forwards : (d : Domain) → IsInOrder d → IsQuiet d → (v : ℕ) → v < d.size → (u : ℕ) → u < d.size → distance (d.router u) v < d.size → Hops d v u
forwards d o q v there u short reach = within d o q v there (distance (d.router u) v) u short reach (omega arith)
