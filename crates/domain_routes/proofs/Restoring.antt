-- A link that is cut and made again leaves a plan as it was.
use Rattle.std.proofs.Common.{◌≡◌, ⊎_elim, ℕ, ◌<◌, Bool, true, false, List, [], Option, length, slice_index_or, refl, sym, ap, ◌∙◌, arith}
use Rattle.std.proofs.lemmas.List.{ext_get_or}
use Rattle.filter_verifier.specs.VerifiedView.{VerifiedView}
use Rattle.domain_routes.specs.Edits.{linking}
use Rattle.domain_routes.specs.PlanView.{IsPlan, PeerView, PlanView, is_linked, peer, stranger}
use Rattle.domain_routes.proofs.Linking.{AreEnds, IsLink, cases_ends, linked_here, linked_there, linking_keeps, linking_plan}

abbrev peer_of : Bool → Option VerifiedView → Option VerifiedView → PeerView
peer_of linked imports exports = record { linked = linked; imports = imports; exports = exports }

peer_of_parts : (a b : PeerView) → a.linked ≡ b.linked → a.imports ≡ b.imports → a.exports ≡ b.exports → a ≡ b
peer_of_parts a b linked imports exports =
    ap (λ (l : Bool). peer_of l a.imports a.exports) linked
    ∙ ap (λ (f : Option VerifiedView). peer_of b.linked f a.exports) imports
    ∙ ap (λ (f : Option VerifiedView). peer_of b.linked b.imports f) exports

abbrev plan_of : ℕ → List (List Bool) → List (List PeerView) → PlanView
plan_of size prefixes rows = record { size = size; prefixes = prefixes; rows = rows }

plan_of_parts : (p q : PlanView) → q.size ≡ p.size → q.prefixes ≡ p.prefixes → q.rows ≡ p.rows → q ≡ p
plan_of_parts p q size prefixes rows =
    ap (λ (n : ℕ). plan_of n q.prefixes q.rows) size
    ∙ ap (λ (l : List (List Bool)). plan_of p.size l q.rows) prefixes
    ∙ ap (λ (r : List (List PeerView)). plan_of p.size p.prefixes r) rows

-- two plans that have the same between each two nodes are one
one_plan : (p q : PlanView) → IsPlan p → IsPlan q → q.size ≡ p.size → q.prefixes ≡ p.prefixes
    → ((u w : ℕ) → u < p.size → w < p.size → is_linked q u w ≡ is_linked p u w)
    → ((u w : ℕ) → (peer q u w).imports ≡ (peer p u w).imports) → ((u w : ℕ) → (peer q u w).exports ≡ (peer p u w).exports) → q ≡ p
one_plan p q is_p is_q size prefixes linked imports exports =
    plan_of_parts p q size prefixes
    (ext_get_or [] q.rows p.rows (is_q.places.rows ∙ size ∙ sym is_p.places.rows) (λ u less.
    let to_u : u < q.size = omega (arith, less, is_q.places.rows) in
    let of_u : u < p.size = omega (arith, to_u, size) in
    let long : length (slice_index_or q.rows u []) ≡ length (slice_index_or p.rows u []) =
    is_q.places.places u to_u ∙ size ∙ sym (is_p.places.places u of_u) in
    ext_get_or stranger (slice_index_or q.rows u []) (slice_index_or p.rows u []) long (λ w short.
    let of_w : w < p.size = omega (arith, short, is_q.places.places u to_u, size) in
    peer_of_parts (peer q u w) (peer p u w) (linked u w of_u of_w) (imports u w) (exports u w))))

module _ (p : PlanView) (u w : ℕ) (l : IsLink p u w) where
  abbrev apart : PlanView
  apart = linking false u w p

  again : IsLink apart u w
  again = record { plan = linking_plan p u w false l; from = l.from; to = l.to; apart = l.apart }

  -- a link leads both ways
  ends_linked : is_linked p u w ≡ true → (x y : ℕ) → AreEnds u w x y → is_linked p x y ≡ true
  ends_linked linked x y ends =
      ⊎_elim
      (λ (one : (x ≡ u) × (y ≡ w)). ap (λ n. is_linked p n y) (one.0) ∙ ap (λ n. is_linked p u n) (one.1) ∙ linked)
      (λ (two : (x ≡ w) × (y ≡ u)).
      ap (λ n. is_linked p n y) (two.0) ∙ ap (λ n. is_linked p w n) (two.1) ∙ l.plan.both_ways w u ∙ linked)
      ends

  back_linked : is_linked p u w ≡ true → (x y : ℕ) → is_linked (linking true u w apart) x y ≡ is_linked p x y
  back_linked linked x y =
      ⊎_elim
      (λ ends. linked_here apart u w true again x y ends ∙ sym (ends_linked linked x y ends))
      (λ other. linked_there apart u w true again x y other ∙ linked_there p u w false l x y other)
      (cases_ends u w x y)

  pub link_back : is_linked p u w ≡ true → linking true u w (linking false u w p) ≡ p
  link_back linked =
      one_plan p (linking true u w apart) l.plan (linking_plan apart u w true again) refl refl
      (λ x y _ _. back_linked linked x y)
      (λ x y. linking_keeps (λ (c : PeerView). c.imports) (λ _ _. refl) apart u w true again x y
      ∙ linking_keeps (λ (c : PeerView). c.imports) (λ _ _. refl) p u w false l x y)
      (λ x y. linking_keeps (λ (c : PeerView). c.exports) (λ _ _. refl) apart u w true again x y
      ∙ linking_keeps (λ (c : PeerView). c.exports) (λ _ _. refl) p u w false l x y)
