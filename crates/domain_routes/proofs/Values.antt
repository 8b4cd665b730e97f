-- What one node has for another after a change, as a value.
use Rattle.std.proofs.Common.{◌≡◌, ◌≢◌, ⊎_elim, inl, inr, ℕ, ◌<◌, ◌==◌, ◌&&◌, ◌||◌, if◌then◌else◌}
use Rattle.std.proofs.Common.{Bool, true, false, eq-eqb, ne_eqb, sym, ap, refl, ◌∙◌}
use Rattle.domain_routes.specs.Edits.{linking, put}
use Rattle.domain_routes.specs.PlanView.{IsPlan, PeerView, PlanView, is_linked, peer}
use Rattle.domain_routes.proofs.Linking.{AreEnds, IsLink, cases_ends, linked_here, linked_there}
use Rattle.domain_routes.proofs.Places.{cases_place, put_here, put_there}
use Rattle.std.proofs.lemmas.Bool.{cases_eq}

-- a test of two numbers
both_are : (u w x y : ℕ) → x ≡ u → y ≡ w → ((x == u) && (y == w)) ≡ true
both_are u w x y same there = rw (eq-eqb x u same, eq-eqb y w there) refl

not_both : (u w x y : ℕ) → (x ≡ u → y ≡ w → ⊥) → ((x == u) && (y == w)) ≡ false
not_both u w x y other =
    ⊎_elim
    (λ (same : x ≡ u). rw (eq-eqb x u same, ne_eqb y w (other same)) refl)
    (λ (apart : x ≢ u). rw (ne_eqb x u apart) refl)
    (cases_eq x u)

pub put_value : (p : PlanView) (u w : ℕ) (c : PeerView) → IsPlan p → u < p.size → w < p.size → (x y : ℕ) →
    peer (put u w c p) x y ≡ (if (x == u) && (y == w) then c else peer p x y)
put_value p u w c plan from to x y =
    ⊎_elim
    (λ (at : (x ≡ u) × (y ≡ w)). put_here p u w c plan.places from to x y (at.0) (at.1)
    ∙ ap (λ (b : Bool). if b then c else peer p x y) (sym (both_are u w x y (at.0) (at.1))))
    (λ (other : x ≡ u → y ≡ w → ⊥). put_there p u w c plan.places from x y other
    ∙ ap (λ (b : Bool). if b then c else peer p x y) (sym (not_both u w x y other)))
    (cases_place u w x y)

ends_are : (u w x y : ℕ) → AreEnds u w x y → (((x == u) && (y == w)) || ((x == w) && (y == u))) ≡ true
ends_are u w x y ends = ⊎_elim
    (λ one. rw (both_are u w x y (one.0) (one.1)) refl)
    (λ two. rw (both_are w u x y (two.0) (two.1)) (or_true ((x == u) && (y == w))))
    ends
  where
    or_true : (b : Bool) → (b || true) ≡ true
    or_true true = refl
    or_true false = refl

not_ends : (u w x y : ℕ) → (AreEnds u w x y → ⊥) → (((x == u) && (y == w)) || ((x == w) && (y == u))) ≡ false
not_ends u w x y other =
    rw (not_both u w x y (λ same there. other (inl (same, there))), not_both w u x y (λ same there. other (inr (same, there)))) refl

pub link_value : (p : PlanView) (u w : ℕ) (linked : Bool) → IsPlan p → u < p.size → w < p.size → u ≢ w → (x y : ℕ) →
    is_linked (linking linked u w p) x y ≡ (if ((x == u) && (y == w)) || ((x == w) && (y == u)) then linked else is_linked p x y)
link_value p u w linked plan from to apart x y =
    let l : IsLink p u w = record { plan = plan; from = from; to = to; apart = apart } in
    ⊎_elim
    (λ ends. linked_here p u w linked l x y ends ∙ ap (λ (b : Bool). if b then linked else is_linked p x y) (sym (ends_are u w x y ends)))
    (λ other. linked_there p u w linked l x y other ∙ ap (λ (b : Bool). if b then linked else is_linked p x y) (sym (not_ends u w x y other)))
    (cases_ends u w x y)
