-- Where a run ends quiet, it ends in the one rest of the topology that it began in.
use mathlib.Core.Logic.{inl, inr}
use Rattle.std.proofs.Common.{◌≡◌, ℕ, ◌<◌, zero, suc, sym, ap, subst, arith}
use Rattle.netchange_core.specs.Best.{best, distance}
use Rattle.routing_domain.specs.Domain.{Domain, IsInOrder, IsQuiet, KeepsLinksAndFilters, topology}
use Rattle.routing_domain.specs.Rest.{IsRest, Topology}
use Rattle.routing_domain.specs.Runs.{IsStep, Runs}
use Rattle.routing_domain.specs.Ways.{GoesVia}
use Rattle.routing_domain.proofs.Alone.{alone}
use Rattle.routing_domain.proofs.Dropping.{drop_keeps}
use Rattle.routing_domain.proofs.Forwarding.{Hops, forwards}
use Rattle.routing_domain.proofs.Increasing.{never_nearer}
use Rattle.routing_domain.proofs.Quiet.{quiet_goes, quiet_rests}
use Rattle.routing_domain.proofs.Running.{run_is_short}
use Rattle.routing_domain.proofs.Topologies.{kept_itself, kept_on, kept_topology, receives_kept, sends_kept}

pub step_keeps : (d e : Domain) → IsStep d e → KeepsLinksAndFilters d e
step_keeps d e (inl h) = subst (KeepsLinksAndFilters d) (sym h.after) (receives_kept d h.from h.to h.message h.rest)
step_keeps d e (inr (inl s)) = subst (KeepsLinksAndFilters d) (sym s.after) (sends_kept d s.from s.to s.max)
step_keeps d e (inr (inr x)) = drop_keeps d e x

pub run_keeps : (k : ℕ) (d e : Domain) → Runs k d e → KeepsLinksAndFilters d e
run_keeps zero d e run = subst (KeepsLinksAndFilters d) run (kept_itself d)
run_keeps (suc k) d e run = kept_on d run.0 e (step_keeps d run.0 run.1) (run_keeps k run.0 e run.2)

pub run_topology : (k : ℕ) (d e : Domain) (v : ℕ) → Runs k d e → topology e v ≡ topology d v
run_topology k d e v run = kept_topology d e v (run_keeps k d e run)

pub run_size : (k : ℕ) (d e : Domain) → Runs k d e → e.size ≡ d.size
run_size k d e run = (run_keeps k d e run).size

-- the end of a run, and what is known of it
pub record IsEnd (d e : Domain) (v : ℕ) : Type 0 where
  pub order : IsInOrder e
  pub same : topology e v ≡ topology d v
  pub size : e.size ≡ d.size

pub end_of : (k : ℕ) (d e : Domain) (v : ℕ) → IsInOrder d → Runs k d e → IsEnd d e v
end_of k d e v o run =
    let same : topology e v ≡ topology d v = run_topology k d e v run in
    record { order = (run_is_short k d e o run).0; same = same; size = ap (λ (m : Topology). m.size) same }

pub end_rests : (d e : Domain) (v : ℕ) → IsEnd d e v → IsQuiet e → v < d.size → IsRest (topology d v) v (λ u. distance (e.router u) v)
end_rests d e v end q there =
    subst (λ m. IsRest m v (λ u. distance (e.router u) v)) end.same (quiet_rests e end.order q v (omega (arith, there, end.size)))

pub end_is_one : (d e : Domain) (v : ℕ) → IsInOrder d → IsEnd d e v → IsQuiet e → v < d.size → (a : ℕ → ℕ) → IsRest (topology d v) v a →
    (u : ℕ) → u < d.size → distance (e.router u) v ≡ a u
end_is_one d e v o end q there a r u short =
    alone (topology d v) v (λ x. distance (e.router x) v) a (never_nearer d o v) (end_rests d e v end q there) r u short

pub end_goes : (d e : Domain) (v : ℕ) → IsEnd d e v → IsQuiet e → v < d.size → (u : ℕ) → u < d.size →
    GoesVia (topology d v) v (λ x. distance (e.router x) v) u (best (e.router u) v).via
end_goes d e v end q there u short =
    subst (λ m. GoesVia m v (λ x. distance (e.router x) v) u (best (e.router u) v).via) end.same
    (quiet_goes e end.order q v (omega (arith, there, end.size)) u (omega (arith, short, end.size)))

pub end_forwards : (d e : Domain) (v : ℕ) → IsEnd d e v → IsQuiet e → v < d.size → (u : ℕ) → u < d.size → distance (e.router u) v < d.size → Hops e v u
end_forwards d e v end q there u short reach =
    forwards e end.order q v (omega (arith, there, end.size)) u (omega (arith, short, end.size)) (omega (arith, reach, end.size))
