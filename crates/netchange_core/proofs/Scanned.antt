-- The nearest neighbour, found among those that are up, in the order of their sessions.
use Rattle.std.proofs.Common.{◌≡◌, ⊎_elim, inl, inr, ℕ, ◌+◌, ◌<◌, ◌≤◌, List, length, map, slice_index, slice_index_or, slice_set}
use Rattle.std.proofs.Common.{length-set, true, None, is_some, ap, sym, subst, ◌∙◌, arith, refl, get_or-set_other}
use Rattle.std.specs.List.{HoldsAt}
use Rattle.std.proofs.lemmas.Bool.{cases_Bool, cases_eq, cases_lt}
use Rattle.std.proofs.lemmas.List.{get_or-map, get_or_past, length-map}
use Rattle.netchange_core.specs.declared.best_route.BestRoute.{BestRoute}
use Rattle.netchange_core.specs.declared.reply.Via.{Via}
use Rattle.netchange_core.specs.declared.reply.Via.TheVariants.{Local, Node, Nowhere}
use Rattle.netchange_core.specs.declared.sessions.Present.{Present}
use Rattle.netchange_core.specs.Best.{neighbour_distance}
use Rattle.netchange_core.specs.Leading.{Leads, LeadsBy, LeadsListed, LeadsListedBy, ListsReachable}
use Rattle.netchange_core.specs.OpeningView.{OpeningView}
use Rattle.netchange_core.specs.Present.{AreListed, session_in, sessions_of}
use Rattle.netchange_core.specs.World.{NeighbourView, is_up, neighbour_at, nobody}
use Rattle.netchange_core.proofs.Holders.{some_none}
use Rattle.netchange_core.proofs.Presence.{session_at}

-- after the last one
whole_by : (size : ℕ) (ps : List Present) (xs : List ℕ) (d : ℕ) (v : Via) → ListsReachable size xs ps →
    LeadsListedBy size (length ps) ps xs d v → LeadsBy size (length xs) xs d v
whole_by size ps xs d Local are p = absurd p
whole_by size ps xs d (Node hop) are p = record {
  is_neighbour = p.is_neighbour;
  one_more = p.one_more;
  in_reach = p.in_reach;
  least = λ k short. reach k short (λ k. d ≤ slice_index xs k + 1) (λ far. omega (arith, p.in_reach)) p.least;
  first = λ k less.
      reach k (omega (arith, p.is_neighbour)) (λ k. k < hop → d < slice_index xs k + 1)
      (λ far _. omega (arith, p.in_reach)) p.first less;
}
  where
    reach : (k : ℕ) → k < length xs → (P : ℕ → Type 0) → (size ≤ slice_index xs k → P k) →
        ((i : ℕ) (p : Present) → i < length ps → P (slice_index_or ps i p).node) → P k
    reach k short P far near =
        ⊎_elim (λ (close : slice_index xs k < size).
        let here = are.listed k short close in
        let p : Present = record { session = 0; node = 0 } in
        subst P (here.2 p) (near here.0 p here.1))
        (λ (out : size ≤ slice_index xs k). far out) (cases_lt (slice_index xs k) size)
whole_by size ps xs d Nowhere are p = record {
  out_of_reach = p.out_of_reach;
  none = λ k short.
      ⊎_elim (λ (close : slice_index xs k < size).
      let here = are.listed k short close in
      let q : Present = record { session = 0; node = 0 } in
      subst (λ m. size ≤ slice_index xs m + 1) (here.2 q) (p.none here.0 q here.1))
      (λ (out : size ≤ slice_index xs k). omega arith) (cases_lt (slice_index xs k) size);
}

pub listed_leads : (size : ℕ) (ps : List Present) (xs : List ℕ) (r : BestRoute) → ListsReachable size xs ps →
    LeadsListed size (length ps) ps xs r → Leads size (length xs) xs r
listed_leads size ps xs r are p = whole_by size ps xs r.dist r.via are p

-- the list of the present sessions names each neighbour within reach
module _ (o : OpeningView) (v : ℕ) (ns : List NeighbourView) (ps : List Present) (are : AreListed (sessions_of ns) ps) where
  named_short : (i : ℕ) (p : Present) → i < length ps → (slice_index_or ps i p).node < length (map (neighbour_distance o v) ns)
  named_short i p h =
      let k = (slice_index_or ps i p).node in
      ⊎_elim (λ (short : k < length ns). omega (arith, length-map ns (neighbour_distance o v)))
      (λ (past : length ns ≤ k).
      absurd (some_none (session_in (sessions_of ns) k) (are.up i p h)
      (get_or_past (sessions_of ns) k None (omega (arith, length-map ns (λ n. n.session))))))
      (cases_lt k (length ns))

  pub up_is_listed : (k : ℕ) → is_up (neighbour_at ns k) ≡ true → (i : ℕ) × (i < length ps) × HoldsAt (λ p. p.node ≡ k) ps i
  up_is_listed k up = are.listed k (ap is_some (session_at ns k) ∙ up)

  pub lists_reachable : ListsReachable o.size (map (neighbour_distance o v) ns) ps
  lists_reachable = record {
    named = λ i p h. named_short i p h;
    listed = λ k short close.
        let below : k < length ns = omega (arith, length-map ns (neighbour_distance o v)) in
        let there = get_or-map (neighbour_distance o v) ns k nobody 0 below in
        elim (cases_Bool (is_up (neighbour_at ns k))) [
          | inl up ↦ up_is_listed k up
          | inr down ↦
              let out : neighbour_distance o v (neighbour_at ns k) ≡ o.size = rw down refl in
              absurd (omega (arith, there, out))
        ];
  }

-- also after a listed neighbour is at another distance
pub reachable_set : (size : ℕ) (xs : List ℕ) (ps : List Present) (hop near : ℕ) → ListsReachable size xs ps →
    ((i : ℕ) × (i < length ps) × HoldsAt (λ p. p.node ≡ hop) ps i) → ListsReachable size (slice_set xs hop near) ps
reachable_set size xs ps hop near are here = record {
  named = λ i p h. omega (arith, are.named i p h, length-set xs hop near);
  listed = λ k short close. elim (cases_eq k hop) [
    | inl same ↦ (here.0, here.1, λ p. here.2 p ∙ sym same)
    | inr other ↦
        are.listed k (omega (arith, length-set xs hop near)) (omega (arith, get_or-set_other xs hop k near 0 other))
  ];
}
