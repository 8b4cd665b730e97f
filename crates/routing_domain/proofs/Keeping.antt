-- Order is kept where each link is: as it was, up anew, or gone.
use Rattle.std.proofs.Common.{◌≡◌, ◌⊎◌, ⊎_elim, inl, ℕ, ◌<◌, true, false, All, List, [], ◌++◌, slice_index, refl, sym, ap, subst, ◌∙◌}
use Rattle.std.specs.Prelude.{is_some}
use Rattle.std.proofs.lemmas.Bool.{cases_eq}
use Rattle.std.proofs.lemmas.List.Elements.{All-nil}
use Rattle.netchange_core.specs.declared.message.Message.{Message}
use Rattle.netchange_core.specs.Best.{distance}
use Rattle.netchange_core.specs.FilteredDistance.{filtered_distance}
use Rattle.netchange_core.specs.World.{World, is_up, neighbour_at}
use Rattle.routing_domain.specs.Domain.{Domain, IsInOrder, IsMember, IsWithin, are_linked, last_told}
use Rattle.routing_domain.specs.Steps.{with_router}
use Rattle.routing_domain.proofs.Receives.{ToldBy}
use Rattle.routing_domain.proofs.Places.{router_here, router_other}
use Rattle.routing_domain.proofs.Told.{last_told_both}

-- each router of a domain in order is a member
pub member_of : (d : Domain) (u : ℕ) → IsInOrder d → u < d.size → IsMember d.size u (d.router u)
member_of d u o short =
    record { size = o.size u short; me = o.me u short; tables = o.tables u short; sound = o.sound u short; apart = o.apart u short }

-- once these messages, queued for a neighbour, came in, it was told the distance as it is now
abbrev pub IsTold : World → ℕ → ℕ → ℕ → Type 0
IsTold r b v before =
    last_told v before (neighbour_at r.neighbours b).queue ≡ filtered_distance r.opening (neighbour_at r.neighbours b).exports v (distance r v)

-- from one world to another a router keeps its link with a neighbour: its session, what it was told, and that it tells
pub record KeepsLink (size : ℕ) (r s : World) (b : ℕ) : Type 0 where
  pub session : (neighbour_at s.neighbours b).session ≡ (neighbour_at r.neighbours b).session
  pub advertised : (neighbour_at s.neighbours b).advertised ≡ (neighbour_at r.neighbours b).advertised
  pub tells : is_up (neighbour_at r.neighbours b) ≡ true → (v before : ℕ) → v < size → IsTold r b v before → IsTold s b v before

pub keeps_itself : (size : ℕ) (r : World) (b : ℕ) → KeepsLink size r r b
keeps_itself size r b = record { session = refl; advertised = refl; tells = λ up v before there told. told }

-- from one domain to another a link is kept at both ends; or is up anew, and all is told; or is gone
pub record IsKept (d e : Domain) (a b : ℕ) : Type 0 where
  pub here : KeepsLink d.size (d.router a) (e.router a) b
  pub there : KeepsLink d.size (d.router b) (e.router b) a
  pub flight : e.flight a b ≡ d.flight a b

pub record IsFresh (d e : Domain) (a b : ℕ) : Type 0 where
  pub up : are_linked e a b ≡ true
  pub up_there : are_linked e b a ≡ true
  pub flight : e.flight a b ≡ []
  pub told : (v : ℕ) → v < d.size → ToldBy (e.router a) (e.router b) (e.flight a b) a b v

pub record IsGone (e : Domain) (a b : ℕ) : Type 0 where
  pub down : are_linked e a b ≡ false
  pub flight : e.flight a b ≡ []

abbrev pub IsAfter : Domain → Domain → ℕ → ℕ → Type 0
IsAfter d e a b = (IsKept d e a b) ⊎ ((IsFresh d e a b) ⊎ (IsGone e a b))

-- what is told over a link that is kept, to one who knows as much as before
pub kept_told : (size : ℕ) (ra sa rb sb : World) (flight : List Message) (a b v : ℕ) → is_up (neighbour_at ra.neighbours b) ≡ true → v < size →
    KeepsLink size ra sa b → (neighbour_at sb.neighbours a).advertised ≡ (neighbour_at rb.neighbours a).advertised →
    ToldBy ra rb flight a b v → ToldBy sa sb flight a b v
kept_told size ra sa rb sb flight a b v up below ka heard told =
    let advertised = slice_index (neighbour_at rb.neighbours a).advertised v in
    let before = last_told v advertised flight in
    ap (λ distances. last_told v (slice_index distances v) (flight ++ (neighbour_at sa.neighbours b).queue)) heard
    ∙ last_told_both v advertised flight (neighbour_at sa.neighbours b).queue
    ∙ ka.tells up v before below (sym (last_told_both v advertised flight (neighbour_at ra.neighbours b).queue) ∙ told)

-- a link that is kept is linked as it was
linked_as : (d e : Domain) (a b : ℕ) → KeepsLink d.size (d.router a) (e.router a) b → are_linked e a b ≡ are_linked d a b
linked_as d e a b k = ap is_some k.session

both_ways_after : (d e : Domain) (a b : ℕ) → IsInOrder d → a < d.size → b < d.size → IsAfter d e a b → are_linked e a b ≡ true → are_linked e b a ≡ true
both_ways_after d e a b o from to after linked =
    ⊎_elim
    (λ (kept : IsKept d e a b). linked_as d e b a kept.there ∙ o.both_ways a b from to (sym (linked_as d e a b kept.here) ∙ linked))
    (λ (rest : (IsFresh d e a b) ⊎ (IsGone e a b)). ⊎_elim (λ (fresh : IsFresh d e a b). fresh.up_there) (λ (gone : IsGone e a b). absurd (let h : true ≡ false = sym linked ∙ gone.down in cc)) rest)
    after

within_after : (d e : Domain) (a b : ℕ) → IsInOrder d → a < d.size → b < d.size → IsAfter d e a b → All (IsWithin d.size) (e.flight a b)
within_after d e a b o from to after =
    ⊎_elim
    (λ (kept : IsKept d e a b). subst (All (IsWithin d.size)) (sym kept.flight) (o.within a b from to))
    (λ (rest : (IsFresh d e a b) ⊎ (IsGone e a b)). ⊎_elim (λ (fresh : IsFresh d e a b). subst (All (IsWithin d.size)) (sym fresh.flight) (All-nil (IsWithin d.size)))
    (λ (gone : IsGone e a b). subst (All (IsWithin d.size)) (sym gone.flight) (All-nil (IsWithin d.size))) rest)
    after

silent_after : (d e : Domain) (a b : ℕ) → IsInOrder d → a < d.size → b < d.size → IsAfter d e a b → are_linked e a b ≡ false → e.flight a b ≡ []
silent_after d e a b o from to after down =
    ⊎_elim
    (λ (kept : IsKept d e a b). kept.flight ∙ o.silent a b from to (sym (linked_as d e a b kept.here) ∙ down))
    (λ (rest : (IsFresh d e a b) ⊎ (IsGone e a b)). ⊎_elim (λ (fresh : IsFresh d e a b). fresh.flight) (λ (gone : IsGone e a b). gone.flight) rest)
    after

told_after : (d e : Domain) (a b v : ℕ) → IsInOrder d → a < d.size → b < d.size → v < d.size → IsAfter d e a b → are_linked e a b ≡ true →
    ToldBy (e.router a) (e.router b) (e.flight a b) a b v
told_after d e a b v o from to below after linked =
    ⊎_elim
    (λ (kept : IsKept d e a b).
    let was : are_linked d a b ≡ true = sym (linked_as d e a b kept.here) ∙ linked in
    subst (λ f. ToldBy (e.router a) (e.router b) f a b v) (sym kept.flight)
    (kept_told d.size (d.router a) (e.router a) (d.router b) (e.router b) (d.flight a b) a b v was below kept.here kept.there.advertised (o.told a b v from to below was)))
    (λ (rest : (IsFresh d e a b) ⊎ (IsGone e a b)). ⊎_elim (λ (fresh : IsFresh d e a b). fresh.told v below) (λ (gone : IsGone e a b). absurd (let h : true ≡ false = sym linked ∙ gone.down in cc)) rest)
    after

-- and so the domain stays in order
pub links_keep_order : (d : Domain) (router : ℕ → World) (flight : ℕ → ℕ → List Message) → IsInOrder d →
    ((x : ℕ) → x < d.size → IsMember d.size x (router x)) →
    ((a b : ℕ) → a < d.size → b < d.size → IsAfter d (record { size = d.size; router = router; flight = flight }) a b) →
    IsInOrder (record { size = d.size; router = router; flight = flight })
links_keep_order d router flight o members after =
    let e : Domain = record { size = d.size; router = router; flight = flight } in
    record {
      size = λ x short. (members x short).size;
      me = λ x short. (members x short).me;
      tables = λ x short. (members x short).tables;
      sound = λ x short. (members x short).sound;
      apart = λ x short. (members x short).apart;
      both_ways = λ a b from to linked. both_ways_after d e a b o from to (after a b from to) linked;
      within = λ a b from to. within_after d e a b o from to (after a b from to);
      silent = λ a b from to down. silent_after d e a b o from to (after a b from to) down;
      told = λ a b v from to below linked. told_after d e a b v o from to below (after a b from to) linked;
    }

-- one router that keeps all its links
pub router_keeps_order : (d : Domain) (u : ℕ) (s : World) → IsInOrder d → IsMember d.size u s →
    ((b : ℕ) → b < d.size → KeepsLink d.size (d.router u) s b) → IsInOrder (with_router d u s)
router_keeps_order d u s o member keeps =
    links_keep_order d e.router d.flight o
    (λ x short. ⊎_elim
    (λ here. subst (λ y. IsMember d.size y (e.router y)) (sym here) (subst (IsMember d.size u) (sym (router_here d u s)) member))
    (λ other. subst (IsMember d.size x) (sym (router_other d u s x other)) (member_of d x o short)) (cases_eq x u))
    (λ a b from to. inl (record { here = kept a b to; there = kept b a from; flight = refl }))
  where
    e : Domain
    e = with_router d u s

    kept : (a b : ℕ) → b < d.size → KeepsLink d.size (d.router a) (e.router a) b
    kept a b to = ⊎_elim
        (λ here. subst (λ y. KeepsLink d.size (d.router y) (e.router y) b) (sym here)
        (subst (λ t. KeepsLink d.size (d.router u) t b) (sym (router_here d u s)) (keeps b to)))
        (λ other. subst (λ t. KeepsLink d.size (d.router a) t b) (sym (router_other d u s a other)) (keeps_itself d.size (d.router a) b))
        (cases_eq a u)
