-- A plan in which a link is cut that there was not.
use Rattle.std.proofs.Common.{◌≡◌, ℕ, Bool, false, List, [], slice_index_or, slice_set, sym, ap, ◌∙◌}
use Rattle.std.proofs.lemmas.List.{set-get_or}
use Rattle.domain_routes.specs.Edits.{half_linking, linking}
use Rattle.domain_routes.specs.PlanView.{PeerView, PlanView, is_linked, peer, stranger}

half_same : (p : PlanView) (u w : ℕ) → is_linked p u w ≡ false → half_linking false u w p ≡ p
half_same p u w apart =
    let row : List PeerView = slice_index_or p.rows u [] in
    let cut : PeerView = record (peer p u w) { linked = false } in
    let same_peer : cut ≡ peer p u w = ap (λ (l : Bool). record (peer p u w) { linked = l }) (sym apart) in
    let same_row : slice_set row w cut ≡ row = ap (slice_set row w) same_peer ∙ set-get_or row w stranger in
    let same_rows : slice_set p.rows u (slice_set row w cut) ≡ p.rows = ap (slice_set p.rows u) same_row ∙ set-get_or p.rows u [] in
    ap (λ (rows : List (List PeerView)). record p { rows = rows }) same_rows

-- it is the plan that it was
pub cut_nothing : (p : PlanView) (u w : ℕ) → is_linked p u w ≡ false → is_linked p w u ≡ false → linking false u w p ≡ p
cut_nothing p u w apart back = ap (half_linking false w u) (half_same p u w apart) ∙ half_same p w u back
