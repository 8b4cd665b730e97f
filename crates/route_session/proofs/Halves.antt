-- Jobs in halves.
use Rattle.std.proofs.Common.{◌≡◌, subst, sym, ◌∙◌, ap, ℕ, ◌+◌, Bool, List, [], ◌∷◌, ◌++◌, ◌≤◌, length, take, drop, arith}
use Rattle.std.proofs.lemmas.List.{length-take-le, take-append-drop}
use Rattle.route_session.specs.declared.job.Finished.{Finished}
use Rattle.route_session.specs.declared.job.Job.{Job}
use Rattle.route_session.specs.Jobs.{AreFinished, IsFinished}
use Rattle.route_session.specs.LinkTrace.{LinkTrace}
use Rattle.slot_lock.specs.Passes.{RouterView}

module _ {L : Type 0} (told : L → LinkTrace) (may : ℕ → ℕ → Bool → Type 0) (turns : ℕ) (r : RouterView) where
  joined : (first next : ℕ) (xs xs' : List (Job L)) (ys ys' : List (Finished L)) → next ≡ first + length xs
      → AreFinished told may turns r first xs ys → AreFinished told may turns r next xs' ys'
      → AreFinished told may turns r first (xs ++ xs') (ys ++ ys')
  joined first next [] xs' [] ys' e h k = subst (λ n. AreFinished told may turns r n xs' ys') (omega (arith, e)) k
  joined first next [] xs' (y ∷ ys) ys' e h k = absurd h
  joined first next (x ∷ xs) xs' [] ys' e h k = absurd h
  joined first next (x ∷ xs) xs' (y ∷ ys) ys' e h k =
      (h.0, joined (first + 1) next xs xs' ys ys' (omega (arith, e)) h.1 k)

  -- what holds of both halves holds of the whole
  pub halves : (first next : ℕ) (xs front back : List (Job L)) (ys zs all : List (Finished L)) (n : ℕ) →
      front ≡ take n xs → back ≡ drop n xs → all ≡ ys ++ zs → n ≤ length xs → next ≡ first + n →
      AreFinished told may turns r first front ys → AreFinished told may turns r next back zs → AreFinished told may turns r first xs all
  halves first next xs front back ys zs all n cut rest whole within e h k =
      let count : length front ≡ n = ap length cut ∙ length-take-le n xs within in
      let parts : front ++ back ≡ xs = ap (λ l. l ++ back) cut ∙ ap (λ l. take n xs ++ l) rest ∙ take-append-drop n xs in
      subst (λ l. AreFinished told may turns r first l all) parts
      (subst (λ l. AreFinished told may turns r first (front ++ back) l) (sym whole) (joined first next front back ys zs (omega (arith, e, count)) h k))

  -- one job
  pub one_done : (number : ℕ) (x : Job L) (y : Finished L) → IsFinished told (may number) turns r x y
      → AreFinished told may turns r number (x ∷ []) (y ∷ [])
  one_done number x y h = (h, tt)
