-- One more column.
use Rattle.std.proofs.Common.{◌≡◌, ◌≢◌, ⊎_elim, ℕ, ◌+◌, ◌<◌, List, [], ◌∷◌, ◌++◌, length, slice_index_or, sym, subst, ap, ◌∙◌, arith}
use Rattle.std.proofs.Math.ListN.{get_or-append}
use Rattle.std.proofs.Math.Seq.{get_or-append_seam}
use Rattle.std.proofs.lemmas.Bool.{cases_eq}
use Rattle.domain_routes.specs.PlanView.{PlanView}
use Rattle.domain_routes.specs.Routes.{AreRoutes}
use Rattle.domain_routes.specs.Topology.{topology}
use Rattle.domain_routes.specs.declared.best.Best.{Best}

-- the columns so far, and one more
pub one_column_more : (p : PlanView) (old new : List (List Best)) (column : List Best) (n : ℕ) → length old ≡ n → new ≡ old ++ column ∷ []
    → ((x : ℕ) → x < n → AreRoutes (topology p x) x (slice_index_or old x [])) → AreRoutes (topology p n) n column
    → (x : ℕ) → x < n + 1 → AreRoutes (topology p x) x (slice_index_or new x [])
one_column_more p old new column n long is before here x short =
    subst (λ (all : List (List Best)). AreRoutes (topology p x) x (slice_index_or all x [])) (sym is)
    (⊎_elim
    (λ (same : x ≡ n).
    subst (AreRoutes (topology p x) x)
    (sym (ap (λ k. slice_index_or (old ++ column ∷ []) k []) (same ∙ sym long) ∙ get_or-append_seam old column [] []))
    (subst (λ k. AreRoutes (topology p k) k column) (sym same) here))
    (λ (other : x ≢ n).
    let less : x < n = omega (arith, short, other) in
    subst (AreRoutes (topology p x) x) (sym (get_or-append old (column ∷ []) [] x (omega (arith, less, long)))) (before x less))
    (cases_eq x n))
