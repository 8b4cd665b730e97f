-- What stands where in a domain, after one router or one link of it was replaced.
use Rattle.std.proofs.Common.{◌≡◌, ⊎_elim, ℕ, Bool, true, false, cond, nat_eq, List, refl, sym, ap, ◌∙◌, eq-eqb, ne_eqb}
use Rattle.std.proofs.lemmas.Bool.{cases_eq}
use Rattle.netchange_core.specs.declared.message.Message.{Message}
use Rattle.netchange_core.specs.World.{World}
use Rattle.routing_domain.specs.Domain.{Domain}
use Rattle.routing_domain.specs.Steps.{with_flight, with_router}

pub cond_same : {X : Type 0} (b : Bool) (x : X) → cond b x x ≡ x
cond_same true x = refl
cond_same false x = refl

pub router_here : (d : Domain) (u : ℕ) (r : World) → (with_router d u r).router u ≡ r
router_here d u r = ap (λ b. cond b r (d.router u)) (eq-eqb u u refl)

pub router_other : (d : Domain) (u : ℕ) (r : World) (x : ℕ) → (x ≡ u → ⊥) → (with_router d u r).router x ≡ d.router x
router_other d u r x other = ap (λ b. cond b r (d.router x)) (ne_eqb x u other)

-- a router that is replaced by itself
pub router_same : (d : Domain) (u : ℕ) → with_router d u (d.router u) ≡ d
router_same d u = λ i. record d { router = λ x. each x i }
  where
    each : (x : ℕ) → cond (nat_eq x u) (d.router u) (d.router x) ≡ d.router x
    each x = ⊎_elim
        (λ here. ap (λ b. cond b (d.router u) (d.router x)) (eq-eqb x u here) ∙ ap d.router (sym here))
        (λ other. ap (λ b. cond b (d.router u) (d.router x)) (ne_eqb x u other))
        (cases_eq x u)

pub flight_here : (d : Domain) (u w : ℕ) (ms : List Message) → (with_flight d u w ms).flight u w ≡ ms
flight_here d u w ms =
    ap (λ b. cond b (cond (nat_eq w w) ms (d.flight u w)) (d.flight u w)) (eq-eqb u u refl)
    ∙ ap (λ b. cond b ms (d.flight u w)) (eq-eqb w w refl)

pub flight_from_other : (d : Domain) (u w : ℕ) (ms : List Message) (a b : ℕ) → (a ≡ u → ⊥) → (with_flight d u w ms).flight a b ≡ d.flight a b
flight_from_other d u w ms a b other = ap (λ c. cond c (cond (nat_eq b w) ms (d.flight a b)) (d.flight a b)) (ne_eqb a u other)

pub flight_to_other : (d : Domain) (u w : ℕ) (ms : List Message) (a b : ℕ) → (b ≡ w → ⊥) → (with_flight d u w ms).flight a b ≡ d.flight a b
flight_to_other d u w ms a b other =
    ap (λ c. cond (nat_eq a u) (cond c ms (d.flight a b)) (d.flight a b)) (ne_eqb b w other)
    ∙ cond_same (nat_eq a u) (d.flight a b)

-- the one link or another
pub record IsOther (u w a b : ℕ) : Type 0 where
  pub other : a ≡ u → b ≡ w → ⊥

pub flight_other : (d : Domain) (u w : ℕ) (ms : List Message) (a b : ℕ) → IsOther u w a b → (with_flight d u w ms).flight a b ≡ d.flight a b
flight_other d u w ms a b o =
    ⊎_elim (λ from. flight_to_other d u w ms a b (o.other from)) (λ elsewhere. flight_from_other d u w ms a b elsewhere) (cases_eq a u)
