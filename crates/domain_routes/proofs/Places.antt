-- A plan in which the first node has something else for the second.
use Rattle.std.proofs.Common.{◌≡◌, ◌≢◌, ◌⊎◌, ⊎_elim, inl, inr, ℕ, ◌<◌, List, [], length, slice_index_or, slice_set}
use Rattle.std.proofs.Common.{get_or-set_same, get_or-set_other, length-set, sym, ap, subst, ◌∙◌, arith}
use Rattle.std.proofs.lemmas.Bool.{cases_eq}
use Rattle.domain_routes.specs.Edits.{put}
use Rattle.domain_routes.specs.PlanView.{HasPlaces, PeerView, PlanView, peer, stranger}

abbrev row : PlanView → ℕ → List PeerView
row p u = slice_index_or p.rows u []

row_here : (p : PlanView) (u w : ℕ) (c : PeerView) → HasPlaces p → u < p.size → row (put u w c p) u ≡ slice_set (row p u) w c
row_here p u w c h short = get_or-set_same p.rows u (slice_set (row p u) w c) [] (omega (arith, h.rows))

row_there : (p : PlanView) (u w : ℕ) (c : PeerView) (x : ℕ) → x ≢ u → row (put u w c p) x ≡ row p x
row_there p u w c x other = get_or-set_other p.rows u x (slice_set (row p u) w c) [] other

-- there
pub put_here : (p : PlanView) (u w : ℕ) (c : PeerView) → HasPlaces p → u < p.size → w < p.size → (x y : ℕ) → x ≡ u → y ≡ w →
    peer (put u w c p) x y ≡ c
put_here p u w c h short within x y same there =
    ap (λ n. peer (put u w c p) n y) same ∙ ap (λ n. peer (put u w c p) u n) there
    ∙ ap (λ (r : List PeerView). slice_index_or r w stranger) (row_here p u w c h short)
    ∙ get_or-set_same (row p u) w c stranger (omega (arith, h.places u short))

-- and nowhere else
pub put_there : (p : PlanView) (u w : ℕ) (c : PeerView) → HasPlaces p → u < p.size → (x y : ℕ) → (x ≡ u → y ≡ w → ⊥) →
    peer (put u w c p) x y ≡ peer p x y
put_there p u w c h short x y other =
    ⊎_elim
    (λ (same : x ≡ u).
    ap (λ n. peer (put u w c p) n y) same
    ∙ ap (λ (r : List PeerView). slice_index_or r y stranger) (row_here p u w c h short)
    ∙ get_or-set_other (row p u) w y c stranger (other same)
    ∙ ap (λ n. peer p n y) (sym same))
    (λ (apart : x ≢ u). ap (λ (r : List PeerView). slice_index_or r y stranger) (row_there p u w c x apart))
    (cases_eq x u)

pub put_places : (p : PlanView) (u w : ℕ) (c : PeerView) → HasPlaces p → u < p.size → HasPlaces (put u w c p)
put_places p u w c h short = record {
  rows = length-set p.rows u (slice_set (row p u) w c) ∙ h.rows;
  places = λ x within. ⊎_elim
      (λ (same : x ≡ u). ap (λ n. length (row (put u w c p) n)) same ∙ ap (λ (r : List PeerView). length r) (row_here p u w c h short)
      ∙ length-set (row p u) w c ∙ h.places u short)
      (λ (apart : x ≢ u). ap (λ (r : List PeerView). length r) (row_there p u w c x apart) ∙ h.places x within)
      (cases_eq x u);
}

-- this place, or another one
pub cases_place : (u w x y : ℕ) → ((x ≡ u) × (y ≡ w)) ⊎ (x ≡ u → y ≡ w → ⊥)
cases_place u w x y =
    ⊎_elim
    (λ (same : x ≡ u). ⊎_elim (λ (there : y ≡ w). inl (same, there)) (λ (apart : y ≢ w). inr (λ _ there. apart there)) (cases_eq y w))
    (λ (apart : x ≢ u). inr (λ same _. apart same))
    (cases_eq x u)

-- what holds of each place
pub put_each : (P : PeerView → Type 0) (p : PlanView) (u w : ℕ) (c : PeerView) → HasPlaces p → u < p.size → w < p.size → P c →
    ((x y : ℕ) → P (peer p x y)) → (x y : ℕ) → P (peer (put u w c p) x y)
put_each P p u w c h short within here each x y =
    ⊎_elim
    (λ (at : (x ≡ u) × (y ≡ w)). subst P (sym (put_here p u w c h short within x y (at.0) (at.1))) here)
    (λ (other : x ≡ u → y ≡ w → ⊥). subst P (sym (put_there p u w c h short x y other)) (each x y))
    (cases_place u w x y)

-- what is as it was there is as it was everywhere
pub put_same : {A : Type 0} (f : PeerView → A) (p : PlanView) (u w : ℕ) (c : PeerView) → HasPlaces p → u < p.size → w < p.size →
    f c ≡ f (peer p u w) → (x y : ℕ) → f (peer (put u w c p) x y) ≡ f (peer p x y)
put_same f p u w c h short within same x y =
    ⊎_elim
    (λ (at : (x ≡ u) × (y ≡ w)). ap f (put_here p u w c h short within x y (at.0) (at.1)) ∙ same
    ∙ ap (λ n. f (peer p n w)) (sym (at.0)) ∙ ap (λ n. f (peer p x n)) (sym (at.1)))
    (λ (other : x ≡ u → y ≡ w → ⊥). ap f (put_there p u w c h short x y other))
    (cases_place u w x y)
