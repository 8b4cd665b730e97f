-- A network stays orderly when one end of a link comes up.
use Rattle.std.proofs.Common.{◌≡◌, ℕ, ◌<◌, Bool, true, false, cond, [], slice_index, replicate, sym, ap, subst, ◌∙◌, All, ◌++◌}
use Rattle.std.specs.Prelude.{◌≢◌}
use Rattle.std.proofs.lemmas.List.{get_or-replicate}
use Rattle.std.proofs.lemmas.List.Elements.{All-nil}
use Rattle.netchange_core.specs.Next.{next}
use Rattle.netchange_core.specs.declared.event.Event.TheVariants as event
use Rattle.netchange_core.specs.World.{World, is_up, neighbour_at}
use Rattle.routing_domain.specs.Domain.{Domain, IsMember, IsWithin, are_linked, last_told, neighbour}
use Rattle.routing_domain.specs.Events.{enters}
use Rattle.routing_domain.specs.Network.{CanComeUp, IsDirection, IsOrderly, Network, comes_up, with_direction}
use Rattle.routing_domain.proofs.Keeping.{KeepsLink}
use Rattle.routing_domain.proofs.Links.{joiner, joiner_at, joiner_keeps, joiner_member, joiner_tells, joiner_up, up_joins}
use Rattle.routing_domain.proofs.OneEnd.{one_end_stays_orderly}
use Rattle.routing_domain.proofs.Places.{IsOther, flight_here, flight_other, router_here, router_other}
use Rattle.routing_domain.proofs.Receives.{ToldBy}
use Rattle.routing_domain.proofs.Topologies.{pair_is, pair_not}

-- one direction set, and the others
pub direction_here : (carries : ℕ → ℕ → Bool) (u w : ℕ) (now : Bool) → with_direction carries u w now u w ≡ now
direction_here carries u w now = ap (λ b. cond b now (carries u w)) (pair_is u w)

pub direction_other : (carries : ℕ → ℕ → Bool) (u w : ℕ) (now : Bool) (a b : ℕ) → IsOther u w a b → with_direction carries u w now a b ≡ carries a b
direction_other carries u w now a b i = ap (λ c. cond c now (carries a b)) (pair_not u w a b i)

-- the two ways between two nodes are two
pub back_is_other : (u w : ℕ) → u ≢ w → IsOther u w w u
back_is_other u w apart = record { other = λ p q. apart q }

-- nothing is known of a node that is new
pub unreached_at : (size v : ℕ) → v < size → slice_index (replicate size size) v ≡ size
unreached_at size v below = get_or-replicate size v size 0 below

pub comes_up_orderly : (n : Network) (u w : ℕ) → IsOrderly n → CanComeUp n.domain u w → IsOrderly (comes_up n u w)
comes_up_orderly n u w o c =
    one_end_stays_orderly n e.router e.flight m.carries u w o (record {
      from = c.from;
      apart = c.apart;
      others = λ x far. router_other d u (next r (event.Up w)).world x far;
      member = subst (IsMember d.size u) (sym now) (joiner_member d.size u w r mine c.to (λ h. c.apart (sym h)));
      keeps = λ b short unlike. subst (λ x. KeepsLink d.size r x b) (sym now) (joiner_keeps d.size u w b r mine c.to c.unlinked unlike);
      flights = λ a b i j. flight_other (enters d u (event.Up w)) u w [] a b i;
      carries = λ a b i j. direction_other n.carries u w true a b i;
      there = there;
      back = back;
    })
  where
    d : Domain
    d = n.domain

    m : Network
    m = comes_up n u w

    e : Domain
    e = m.domain

    r : World
    r = d.router u

    mine : IsMember d.size u r
    mine = o.members u c.from

    now : e.router u ≡ joiner r w
    now = router_here d u (next r (event.Up w)).world
        ∙ ap (λ a. a.world) (up_joins d.size u w r mine c.to (λ h. c.apart (sym h)) c.unlinked c.left)

    other : e.router w ≡ d.router w
    other = router_other d u (next r (event.Up w)).world w (λ h. c.apart (sym h))

    up : are_linked e u w ≡ true
    up = ap (λ x. is_up (neighbour_at x.neighbours w)) now ∙ joiner_up d.size u w r mine c.to

    there : IsDirection m u w
    there = record {
      within = subst (λ f. All (IsWithin d.size) f) (sym (flight_here (enters d u (event.Up w)) u w [])) (All-nil (IsWithin d.size));
      unheard = λ down v below.
          ap (λ x. slice_index (neighbour_at x.neighbours u).advertised v) other
          ∙ (o.directions u w c.from c.to).unheard (sym (ap (λ x. is_up (neighbour_at x.neighbours u)) other) ∙ down) v below;
      told = λ linked carried v below.
          subst (λ f. ToldBy (e.router u) (e.router w) f u w v) (sym (flight_here (enters d u (event.Up w)) u w []))
          (subst (λ x. ToldBy x (e.router w) [] u w v) (sym now) (joiner_tells d.size u w v r (e.router w) mine c.to c.unlinked below));
    }

    -- as little is known of the other as before it came up
    heard : (v : ℕ) → v < d.size → slice_index (neighbour e u w).advertised v ≡ slice_index (neighbour d u w).advertised v
    heard v below =
        ap (λ x. slice_index (neighbour_at x.neighbours w).advertised v) now
        ∙ ap (λ x. slice_index x.advertised v) (joiner_at d.size u w r mine c.to)
        ∙ ap (λ s. slice_index (replicate s s) v) mine.size
        ∙ unreached_at d.size v below
        ∙ sym ((o.directions w u c.to c.from).unheard c.unlinked v below)

    flight_back : e.flight w u ≡ d.flight w u
    flight_back = flight_other (enters d u (event.Up w)) u w [] w u (back_is_other u w c.apart)

    back : IsDirection m w u
    back = record {
      within = subst (λ f. All (IsWithin d.size) f) (sym flight_back) (o.directions w u c.to c.from).within;
      unheard = λ down. absurd (let h : true ≡ false = sym up ∙ down in cc);
      told = λ linked carried v below.
          let was : are_linked d w u ≡ true = sym (ap (λ x. is_up (neighbour_at x.neighbours u)) other) ∙ linked in
          let said = (o.directions w u c.to c.from).told was (sym (direction_other n.carries u w true w u (back_is_other u w c.apart)) ∙ carried) v below in
          subst (λ f. ToldBy (e.router w) (e.router u) f w u v) (sym flight_back)
          (subst (λ x. ToldBy x (e.router u) (d.flight w u) w u v) (sym other)
          (ap (λ x. last_told v x (d.flight w u ++ (neighbour d w u).queue)) (heard v below) ∙ said));
    }
