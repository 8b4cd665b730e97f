-- The passes that come back.
use Rattle.std.proofs.Common.{ℕ, ◌+◌, Bool, List, [], ◌∷◌, Result, Ok, Err, IfOk}
use Rattle.std.specs.Prelude.{Vec}
use Rattle.std.proofs.lemmas.List.Elements.{All-nil, All-cons}
use Rattle.route_session.specs.declared.job.Finished.{Finished}
use Rattle.route_session.specs.declared.job.Job.{Job}
use Rattle.route_session.specs.Jobs.{AreBack, AreFinished}
use Rattle.route_session.specs.LinkTrace.{LinkTrace}
use Rattle.slot_lock.specs.Passes.{IsPassOf, RouterView}

module _ {L : Type 0} (told : L → LinkTrace) (may : ℕ → ℕ → Bool → Type 0) (turns : ℕ) (r : RouterView) where
  -- each job that was done gives back a pass of its router
  come_back : (first : ℕ) (jobs : List (Job L)) (finished : List (Finished L)) → AreFinished told may turns r first jobs finished
      → AreBack r finished
  come_back first [] [] h = All-nil (λ f. IsPassOf r f.pass)
  come_back first [] (f ∷ fs) h = absurd h
  come_back first (j ∷ js) [] h = absurd h
  come_back first (j ∷ js) (f ∷ fs) h = All-cons (λ f. IsPassOf r f.pass) f fs h.0.pass.of (come_back (first + 1) js fs h.1)

  pub come_back_if_ok : {Z E : Type 0} (first : ℕ) (jobs : List (Job L)) (result : Result (Vec (Finished L) Z) E)
      → IfOk result (λ v. AreFinished told may turns r first jobs v.items) → IfOk result (λ v. AreBack r v.items)
  come_back_if_ok first jobs (Ok v) h = come_back first jobs v.items h
  come_back_if_ok first jobs (Err e) h = tt
