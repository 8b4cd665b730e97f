-- A domain of routers that were just opened is in order.
use Rattle.std.proofs.Common.{◌≡◌, ⊎_elim, ℕ, ◌<◌, true, false, List, [], replicate, refl, sym, ap, subst, ◌∙◌, arith}
use Rattle.std.specs.Prelude.{None, is_some}
use Rattle.std.proofs.lemmas.Bool.{cases_lt}
use Rattle.std.proofs.lemmas.List.{get_or-replicate, get_or_past, length-replicate}
use Rattle.std.proofs.lemmas.List.Elements.{All-nil}
use Rattle.std.proofs.lemmas.Option.{none-some}
use Rattle.netchange_core.specs.Calls.{newcomer, opened}
use Rattle.netchange_core.specs.Kept.{AreNeighbours, IsNeighbour}
use Rattle.netchange_core.specs.OpeningView.{OpeningView}
use Rattle.netchange_core.specs.World.{NeighbourView, is_up, neighbour_at, nobody}
use Rattle.netchange_core.proofs.Lists.{below_repeated}
use Rattle.routing_domain.specs.Domain.{AreOpenings, IsInOrder, IsQueued, IsWithin, opened_domain}

-- no neighbour has a session, nor does anything wait for one
abbrev pub IsIdle : NeighbourView → Type 0
IsIdle n = (n.session ≡ None) × (n.queue ≡ [])

pub idle_at : (o : OpeningView) (k : ℕ) → IsIdle (neighbour_at (opened o).neighbours k)
idle_at o k =
    ⊎_elim
    (λ near. subst IsIdle (sym (get_or-replicate o.size k (newcomer o) nobody near)) (refl, refl))
    (λ past. subst IsIdle (sym (get_or_past (replicate o.size (newcomer o)) k nobody (omega (arith, past, length-replicate o.size (newcomer o))))) (refl, refl))
    (cases_lt k o.size)

pub down_at : (o : OpeningView) (k : ℕ) → is_up (neighbour_at (opened o).neighbours k) ≡ false
down_at o k = ap is_some ((idle_at o k).0)

pub tables_of : (o : OpeningView) → AreNeighbours o.size (opened o).neighbours
tables_of o = record {
  one_a_node = length-replicate o.size (newcomer o);
  each = λ k d near.
      subst (IsNeighbour o.size) (sym (get_or-replicate o.size k (newcomer o) d (omega (arith, near, length-replicate o.size (newcomer o)))))
      (record { one_a_node = length-replicate o.size o.size; reachable = below_repeated o.size o.size; imports = tt; exports = tt });
}

pub queued_at : (size : ℕ) (o : OpeningView) (k : ℕ) → IsQueued size (neighbour_at (opened o).neighbours k)
queued_at size o k =
    let idle = idle_at o k in
    record { within = subst (λ ms. Rattle.std.proofs.Common.All (IsWithin size) ms) (sym (idle.1)) (All-nil (IsWithin size)); idle = λ _. idle.1 }

pub opened_in_order : (n : ℕ) (openings : ℕ → OpeningView) → AreOpenings n openings → IsInOrder (opened_domain n openings)
opened_in_order n openings a = record {
  size = a.size;
  me = a.me;
  tables = λ u short. subst (λ s. AreNeighbours s (opened (openings u)).neighbours) (a.size u short) (tables_of (openings u));
  sound = λ u short. record {
    opened = λ k s held. absurd (none-some s (sym ((idle_at (openings u) k).0) ∙ held));
    apart = λ j k s held same. absurd (none-some s (sym ((idle_at (openings u) k).0) ∙ held));
    queues = λ k near. queued_at n (openings u) k;
  };
  apart = λ u short. down_at (openings u) u;
  both_ways = λ u w from to linked. absurd (let h : true ≡ false = sym linked ∙ down_at (openings u) w in cc);
  within = λ u w from to. All-nil (IsWithin n);
  silent = λ u w from to down. refl;
  told = λ u w v from to below linked. absurd (let h : true ≡ false = sym linked ∙ down_at (openings u) w in cc);
}
