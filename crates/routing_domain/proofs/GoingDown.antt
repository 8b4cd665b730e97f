-- A network stays orderly when one end of a link goes down, and when one direction of it fails.
use Rattle.std.proofs.Common.{◌≡◌, ⊎_elim, ℕ, ◌<◌, true, false, [], slice_index, replicate, take, refl, sym, ap, subst, ◌∙◌, arith, All, Option}
use Rattle.std.specs.Prelude.{◌≢◌}
use Rattle.std.proofs.lemmas.Bool.{cases_eq}
use Rattle.std.proofs.lemmas.List.Elements.{All-nil, All-take}
use Rattle.netchange_core.specs.Next.{down, gone}
use Rattle.netchange_core.specs.World.{World, is_up, neighbour_at}
use Rattle.netchange_core.proofs.Change.{changed_at}
use Rattle.netchange_core.proofs.Holders.{holder_found, up_in}
use Rattle.routing_domain.specs.Domain.{Domain, IsMember, IsWithin, are_linked, neighbour}
use Rattle.routing_domain.specs.Events.{enters_in, in_session}
use Rattle.routing_domain.specs.Network.{IsDirection, IsOrderly, Network, fails, goes_down}
use Rattle.routing_domain.proofs.ComingUp.{back_is_other, direction_here, direction_other, unreached_at}
use Rattle.routing_domain.proofs.Cuts.{goes, leaver, leaver_down, leaver_keeps, leaver_member}
use Rattle.routing_domain.proofs.Keeping.{KeepsLink, keeps_itself}
use Rattle.routing_domain.proofs.OneEnd.{kept_direction, one_end_stays_orderly}
use Rattle.routing_domain.proofs.Places.{IsOther, flight_here, flight_other, router_here, router_other}
use Rattle.routing_domain.proofs.Seen.{told_seen}

-- two neighbours are two nodes
pub unlike_member : (size u w : ℕ) (r : World) → IsMember size u r → is_up (neighbour_at r.neighbours w) ≡ true → u ≢ w
unlike_member size u w r m linked same =
    let h : true ≡ false = sym (subst (λ x. is_up (neighbour_at r.neighbours x) ≡ true) (sym same) linked) ∙ m.apart in cc

-- Down in the present session is not refused
pub left_by : (size u w : ℕ) (r : World) → IsMember size u r → is_up (neighbour_at r.neighbours w) ≡ true →
    in_session r (neighbour_at r.neighbours w).session goes ≡ leaver r w
left_by size u w r m linked =
    let there = up_in (neighbour_at r.neighbours w) linked in
    ap (λ s. in_session r s goes) there.1
    ∙ ap (λ h. (down r h).world) (holder_found r.neighbours there.0 w m.sound.apart there.1)

pub goes_down_orderly : (n : Network) (u w : ℕ) → IsOrderly n → u < n.domain.size → w < n.domain.size → are_linked n.domain u w ≡ true →
    IsOrderly (goes_down n u w)
goes_down_orderly n u w o from to linked =
    one_end_stays_orderly n e.router e.flight m.carries u w o (record {
      from = from;
      apart = apart;
      others = λ x far. router_other d u (in_session r session goes) x far;
      member = subst (IsMember d.size u) (sym now) (leaver_member d.size u w r mine to (λ h. apart (sym h)));
      keeps = λ b short unlike. subst (λ x. KeepsLink d.size r x b) (sym now) (leaver_keeps d.size u w b r mine to short unlike);
      flights = λ a b i j. flight_other left w u [] a b j;
      carries = λ a b i j. direction_other n.carries w u false a b j;
      there = there;
      back = back;
    })
  where
    d : Domain
    d = n.domain

    m : Network
    m = goes_down n u w

    e : Domain
    e = m.domain

    r : World
    r = d.router u

    session : Option ℕ
    session = (neighbour d u w).session

    left : Domain
    left = enters_in d u session goes

    mine : IsMember d.size u r
    mine = o.members u from

    apart : u ≢ w
    apart = unlike_member d.size u w r mine linked

    now : e.router u ≡ leaver r w
    now = router_here d u (in_session r session goes) ∙ left_by d.size u w r mine linked

    other : e.router w ≡ d.router w
    other = router_other d u (in_session r session goes) w (λ h. apart (sym h))

    is_down : are_linked e u w ≡ false
    is_down = ap (λ x. is_up (neighbour_at x.neighbours w)) now ∙ leaver_down d.size u w r mine to

    flight_there : e.flight u w ≡ d.flight u w
    flight_there = flight_other left w u [] u w (back_is_other w u (λ h. apart (sym h)))

    there : IsDirection m u w
    there = record {
      within = subst (λ f. All (IsWithin d.size) f) (sym flight_there) (o.directions u w from to).within;
      unheard = λ quiet v below.
          ap (λ x. slice_index (neighbour_at x.neighbours u).advertised v) other
          ∙ (o.directions u w from to).unheard (sym (ap (λ x. is_up (neighbour_at x.neighbours u)) other) ∙ quiet) v below;
      told = λ up. absurd (let h : true ≡ false = sym up ∙ is_down in cc);
    }

    heard : (v : ℕ) → v < d.size → slice_index (neighbour e u w).advertised v ≡ d.size
    heard v below =
        ap (λ x. slice_index (neighbour_at x.neighbours w).advertised v) now
        ∙ told_seen (λ x. slice_index x.advertised v) r w (gone r.opening) w (λ _ _. refl)
        ∙ ap (λ x. slice_index x.advertised v)
        (changed_at w (gone r.opening) r.neighbours (omega (arith, to, mine.tables.one_a_node)))
        ∙ ap (λ s. slice_index (replicate s s) v) mine.size
        ∙ unreached_at d.size v below

    back : IsDirection m w u
    back = record {
      within = subst (λ f. All (IsWithin d.size) f) (sym (flight_here left w u [])) (All-nil (IsWithin d.size));
      unheard = λ _ v below. heard v below;
      told = λ up carried. absurd (let h : true ≡ false = sym carried ∙ direction_here n.carries w u false in cc);
    }

-- a direction that fails: its routers do not see it
pub fails_orderly : (n : Network) (u w kept : ℕ) → IsOrderly n → u < n.domain.size → w < n.domain.size → IsOrderly (fails n u w kept)
fails_orderly n u w kept o from to = record {
  members = o.members;
  directions = λ a b near there.
      ⊎_elim
      (λ (here : a ≡ u). ⊎_elim
      (λ (same : b ≡ w). subst (λ x. IsDirection m x b) (sym here) (subst (λ y. IsDirection m u y) (sym same) failed))
      (λ (unlike : b ≡ w → ⊥). elsewhere a b near there (record { other = λ p q. unlike q }))
      (cases_eq b w))
      (λ (far : a ≡ u → ⊥). elsewhere a b near there (record { other = λ p q. far p }))
      (cases_eq a u);
}
  where
    d : Domain
    d = n.domain

    m : Network
    m = fails n u w kept

    failed : IsDirection m u w
    failed = record {
      within = subst (λ f. All (IsWithin d.size) f) (sym (flight_here d u w (take kept (d.flight u w))))
          (All-take (IsWithin d.size) kept (d.flight u w) (o.directions u w from to).within);
      unheard = (o.directions u w from to).unheard;
      told = λ up carried. absurd (let h : true ≡ false = sym carried ∙ direction_here n.carries u w false in cc);
    }

    elsewhere : (a b : ℕ) → a < d.size → b < d.size → IsOther u w a b → IsDirection m a b
    elsewhere a b near there i = kept_direction n d.router m.domain.flight m.carries a b (record {
      here = keeps_itself d.size (d.router a) b;
      there = keeps_itself d.size (d.router b) a;
      flight = flight_other d u w (take kept (d.flight u w)) a b i;
      carries = direction_other n.carries u w false a b i;
    }) (o.directions a b near there)
