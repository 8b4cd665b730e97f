-- What one router does keeps each direction of a link in order that it does not change.
use Rattle.std.proofs.Common.{◌≡◌, ⊎_elim, ℕ, ◌<◌, Bool, true, List, slice_index, sym, ap, subst, ◌∙◌, All}
use Rattle.std.specs.Prelude.{◌≢◌, is_some}
use Rattle.std.proofs.lemmas.Bool.{cases_eq}
use Rattle.netchange_core.specs.declared.message.Message.{Message}
use Rattle.netchange_core.specs.World.{World}
use Rattle.routing_domain.specs.Domain.{IsMember, IsWithin, are_linked}
use Rattle.routing_domain.specs.Network.{IsDirection, IsOrderly, Network}
use Rattle.routing_domain.proofs.Receives.{ToldBy}
use Rattle.routing_domain.proofs.Keeping.{KeepsLink, keeps_itself, kept_told}
use Rattle.routing_domain.proofs.Places.{IsOther}

-- a network of the same nodes
abbrev pub network_of : ℕ → (ℕ → World) → (ℕ → ℕ → List Message) → (ℕ → ℕ → Bool) → Network
network_of size router flight carries =
    record { domain = record { size = size; router = router; flight = flight }; carries = carries }

-- from one network to another a direction is kept: at the end that tells, at the one that is told, and between them
pub record IsDirectionKept (n m : Network) (a b : ℕ) : Type 0 where
  pub here : KeepsLink n.domain.size (n.domain.router a) (m.domain.router a) b
  pub there : KeepsLink n.domain.size (n.domain.router b) (m.domain.router b) a
  pub flight : m.domain.flight a b ≡ n.domain.flight a b
  pub carries : m.carries a b ≡ n.carries a b

pub kept_direction : (n : Network) (router : ℕ → World) (flight : ℕ → ℕ → List Message) (carries : ℕ → ℕ → Bool) (a b : ℕ) →
    IsDirectionKept n (network_of n.domain.size router flight carries) a b → IsDirection n a b →
    IsDirection (network_of n.domain.size router flight carries) a b
kept_direction n router flight carries a b k d = record {
  within = subst (λ f. All (IsWithin n.domain.size) f) (sym k.flight) d.within;
  unheard = λ down v below.
      ap (λ distances. slice_index distances v) k.there.advertised ∙ d.unheard (sym (ap is_some k.there.session) ∙ down) v below;
  told = λ linked carried v below.
      let was : are_linked n.domain a b ≡ true = sym (ap is_some k.here.session) ∙ linked in
      subst (λ f. ToldBy (router a) (router b) f a b v) (sym k.flight)
      (kept_told n.domain.size (n.domain.router a) (router a) (n.domain.router b) (router b) (n.domain.flight a b) a b v was below
      k.here k.there.advertised (d.told was (sym k.carries ∙ carried) v below));
}

-- one router changes, and what it has of one neighbour
pub record IsOneEnd (n m : Network) (u w : ℕ) : Type 0 where
  pub from : u < n.domain.size
  pub apart : u ≢ w
  pub others : (x : ℕ) → x ≢ u → m.domain.router x ≡ n.domain.router x
  pub member : IsMember n.domain.size u (m.domain.router u)
  pub keeps : (b : ℕ) → b < n.domain.size → b ≢ w → KeepsLink n.domain.size (n.domain.router u) (m.domain.router u) b
  pub flights : (a b : ℕ) → IsOther u w a b → IsOther w u a b → m.domain.flight a b ≡ n.domain.flight a b
  pub carries : (a b : ℕ) → IsOther u w a b → IsOther w u a b → m.carries a b ≡ n.carries a b
  pub there : IsDirection m u w
  pub back : IsDirection m w u

kept_end : (n m : Network) (u w : ℕ) → IsOneEnd n m u w → (a b : ℕ) → b < n.domain.size → IsOther u w a b →
    KeepsLink n.domain.size (n.domain.router a) (m.domain.router a) b
kept_end n m u w e a b to i =
    ⊎_elim
    (λ (here : a ≡ u). subst (λ x. KeepsLink n.domain.size (n.domain.router x) (m.domain.router x) b) (sym here) (e.keeps b to (i.other here)))
    (λ (far : a ≡ u → ⊥). subst (λ r. KeepsLink n.domain.size (n.domain.router a) r b) (sym (e.others a far)) (keeps_itself n.domain.size (n.domain.router a) b))
    (cases_eq a u)

pub one_end_stays_orderly : (n : Network) (router : ℕ → World) (flight : ℕ → ℕ → List Message) (carries : ℕ → ℕ → Bool) (u w : ℕ) → IsOrderly n →
    IsOneEnd n (network_of n.domain.size router flight carries) u w → IsOrderly (network_of n.domain.size router flight carries)
one_end_stays_orderly n router flight carries u w o e = record {
  members = λ x short. ⊎_elim (λ (here : x ≡ u). subst (λ y. IsMember n.domain.size y (router y)) (sym here) e.member)
      (λ (far : x ≡ u → ⊥). subst (IsMember n.domain.size x) (sym (e.others x far)) (o.members x short)) (cases_eq x u);
  directions = directions;
}
  where
    m : Network
    m = network_of n.domain.size router flight carries

    elsewhere : (a b : ℕ) → a < n.domain.size → b < n.domain.size → IsOther u w a b → IsOther w u a b → IsDirection m a b
    elsewhere a b from to i j = kept_direction n router flight carries a b (record {
      here = kept_end n m u w e a b to i;
      there = kept_end n m u w e b a from (record { other = λ p q. j.other q p });
      flight = e.flights a b i j;
      carries = e.carries a b i j;
    }) (o.directions a b from to)

    directions : (a b : ℕ) → a < n.domain.size → b < n.domain.size → IsDirection m a b
    directions a b from to =
        ⊎_elim
        (λ (here : a ≡ u). ⊎_elim
        (λ (there : b ≡ w). subst (λ x. IsDirection m x b) (sym here) (subst (λ y. IsDirection m u y) (sym there) e.there))
        (λ (unlike : b ≡ w → ⊥). elsewhere a b from to (record { other = λ p q. unlike q }) (record { other = λ p q. e.apart (sym here ∙ p) }))
        (cases_eq b w))
        (λ (far : a ≡ u → ⊥). ⊎_elim
        (λ (here : a ≡ w). ⊎_elim
        (λ (there : b ≡ u). subst (λ x. IsDirection m x b) (sym here) (subst (λ y. IsDirection m w y) (sym there) e.back))
        (λ (unlike : b ≡ u → ⊥). elsewhere a b from to (record { other = λ p q. far p }) (record { other = λ p q. unlike q }))
        (cases_eq b u))
        (λ (neither : a ≡ w → ⊥). elsewhere a b from to (record { other = λ p q. far p }) (record { other = λ p q. neither p }))
        (cases_eq a w))
        (cases_eq a u)
