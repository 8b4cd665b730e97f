-- A link, and a plan in which there is one more or less.
use Rattle.std.proofs.Common.{◌≡◌, ◌≢◌, ◌⊎◌, ⊎_elim, inl, inr, ℕ, ◌<◌, Bool, sym, ap, subst, refl, ◌∙◌}
use Rattle.netchange_core.specs.Kept.{FitsSize}
use Rattle.domain_routes.specs.Edits.{half_linking, linking}
use Rattle.domain_routes.specs.PlanView.{HasPlaces, IsPlan, PeerView, PlanView, is_linked, peer}
use Rattle.domain_routes.proofs.Places.{cases_place, put_here, put_places, put_same, put_there}

-- the two nodes of a link, in either order
abbrev pub AreEnds : ℕ → ℕ → ℕ → ℕ → Type 0
AreEnds u w x y = ((x ≡ u) × (y ≡ w)) ⊎ ((x ≡ w) × (y ≡ u))

-- two nodes that there are, and that are not one
pub record IsLink (p : PlanView) (u w : ℕ) : Type 0 where
  pub plan : IsPlan p
  pub from : u < p.size
  pub to : w < p.size
  pub apart : u ≢ w

pub cases_ends : (u w x y : ℕ) → AreEnds u w x y ⊎ (AreEnds u w x y → ⊥)
cases_ends u w x y =
    ⊎_elim
    (λ (one : (x ≡ u) × (y ≡ w)). inl (inl one))
    (λ (no : x ≡ u → y ≡ w → ⊥). ⊎_elim
    (λ (two : (x ≡ w) × (y ≡ u)). inl (inr two))
    (λ (nor : x ≡ w → y ≡ u → ⊥). inr (λ (ends : AreEnds u w x y). ⊎_elim (λ one. no (one.0) (one.1)) (λ two. nor (two.0) (two.1)) ends))
    (cases_place w u x y))
    (cases_place u w x y)

ends_back : (u w x y : ℕ) → AreEnds u w x y → AreEnds u w y x
ends_back u w x y ends =
    ⊎_elim (λ (one : (x ≡ u) × (y ≡ w)). inr (one.1, one.0)) (λ (two : (x ≡ w) × (y ≡ u)). inl (two.1, two.0)) ends

half_places : (p : PlanView) (u w : ℕ) (linked : Bool) → IsLink p u w → HasPlaces (half_linking linked u w p)
half_places p u w linked l = put_places p u w (record (peer p u w) { linked = linked }) l.plan.places l.from

-- between the two
pub linked_here : (p : PlanView) (u w : ℕ) (linked : Bool) → IsLink p u w → (x y : ℕ) → AreEnds u w x y →
    is_linked (linking linked u w p) x y ≡ linked
linked_here p u w linked l x y ends =
    let half : PlanView = half_linking linked u w p in
    ⊎_elim
    (λ (one : (x ≡ u) × (y ≡ w)).
    ap (λ (c : PeerView). c.linked)
    (put_there half w u (record (peer half w u) { linked = linked }) (half_places p u w linked l) l.to x y
    (λ same _. l.apart (sym (one.0) ∙ same))
    ∙ put_here p u w (record (peer p u w) { linked = linked }) l.plan.places l.from l.to x y (one.0) (one.1)))
    (λ (two : (x ≡ w) × (y ≡ u)).
    ap (λ (c : PeerView). c.linked)
    (put_here half w u (record (peer half w u) { linked = linked }) (half_places p u w linked l) l.to l.from x y (two.0) (two.1)))
    ends

-- and between no others
pub linked_there : (p : PlanView) (u w : ℕ) (linked : Bool) → IsLink p u w → (x y : ℕ) → (AreEnds u w x y → ⊥) →
    is_linked (linking linked u w p) x y ≡ is_linked p x y
linked_there p u w linked l x y other =
    let half : PlanView = half_linking linked u w p in
    ap (λ (c : PeerView). c.linked)
    (put_there half w u (record (peer half w u) { linked = linked }) (half_places p u w linked l) l.to x y (λ same there. other (inr (same, there)))
    ∙ put_there p u w (record (peer p u w) { linked = linked }) l.plan.places l.from x y (λ same there. other (inl (same, there))))

-- filters stay
pub linking_keeps : {A : Type 0} (f : PeerView → A) → ((c : PeerView) (b : Bool) → f (record c { linked = b }) ≡ f c) →
    (p : PlanView) (u w : ℕ) (linked : Bool) → IsLink p u w → (x y : ℕ) → f (peer (linking linked u w p) x y) ≡ f (peer p x y)
linking_keeps f same p u w linked l x y =
    let half : PlanView = half_linking linked u w p in
    put_same f half w u (record (peer half w u) { linked = linked }) (half_places p u w linked l) l.to l.from (same (peer half w u) linked) x y
    ∙ put_same f p u w (record (peer p u w) { linked = linked }) l.plan.places l.from l.to (same (peer p u w) linked) x y

-- it is a plan again
pub linking_plan : (p : PlanView) (u w : ℕ) (linked : Bool) → IsLink p u w → IsPlan (linking linked u w p)
linking_plan p u w linked l =
    let half : PlanView = half_linking linked u w p in
    record {
      size = l.plan.size;
      one_a_node = l.plan.one_a_node;
      places = put_places half w u (record (peer half w u) { linked = linked }) (half_places p u w linked l) l.to;
      apart = λ x. linked_there p u w linked l x x (λ ends. ⊎_elim
          (λ one. l.apart (sym (one.0) ∙ one.1)) (λ two. l.apart (sym (two.1) ∙ two.0)) ends)
          ∙ l.plan.apart x;
      both_ways = λ x y. ⊎_elim
          (λ ends. linked_here p u w linked l x y ends ∙ sym (linked_here p u w linked l y x (ends_back u w x y ends)))
          (λ other. linked_there p u w linked l x y other ∙ l.plan.both_ways x y
          ∙ sym (linked_there p u w linked l y x (λ ends. other (ends_back u w y x ends))))
          (cases_ends u w x y);
      imports = λ x y. subst (FitsSize p.size) (sym (linking_keeps (λ (c : PeerView). c.imports) (λ _ _. refl) p u w linked l x y)) (l.plan.imports x y);
      exports = λ x y. subst (FitsSize p.size) (sym (linking_keeps (λ (c : PeerView). c.exports) (λ _ _. refl) p u w linked l x y)) (l.plan.exports x y);
    }
