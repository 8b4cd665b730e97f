-- Jobs: sessions that run at the same time, and what each comes to. (This project's own choice.)
use Rattle.std.specs.Prelude.{◌≡◌, ℕ, ◌+◌, ◌++◌, All, Bool, List, [], ◌∷◌, flat_map, sum_by}
use Rattle.route_history.specs.Beginning.{Begins}
use Rattle.route_session.specs.declared.job.Ending.{Ending}
use Rattle.route_session.specs.declared.job.Ending.TheVariants as ending
use Rattle.route_session.specs.declared.job.Finished.{Finished}
use Rattle.route_session.specs.declared.job.Job.{Job}
use Rattle.route_session.specs.declared.job.Role.{Role}
use Rattle.route_session.specs.declared.job.Role.TheVariants as role
use Rattle.route_session.specs.Calls.{StaysSound}
use Rattle.route_session.specs.Reads.{IsReadBy}
use Rattle.route_session.specs.LinkTrace.{LinkTrace, closed}
use Rattle.route_session.specs.Turns.{ReadsByTurns, TakesByTurns}
use Rattle.route_session.specs.Writes.{IsWrittenBy}
use Rattle.slot_lock.specs.Passes.{Fragment}
use Rattle.slot_lock.specs.Passes.{IsPassOf, RouterView}

-- each job has a pass of this router
abbrev pub AreFor : {L : Type 0} → RouterView → List (Job L) → Type 0
AreFor r jobs = All (λ j. IsPassOf r j.pass) jobs

-- each job that was done gives back a pass of this router
abbrev pub AreBack : {L : Type 0} → RouterView → List (Finished L) → Type 0
AreBack r finished = All (λ f. IsPassOf r f.pass) finished

abbrev pub shares_back : {L : Type 0} → Finished L → ℕ
shares_back f = f.pass.fragment.shares

abbrev pub failed_tries_back : {L : Type 0} → Finished L → ℕ
failed_tries_back f = f.pass.fragment.failed_tries

abbrev pub mine_back : {L : Type 0} → Finished L → List ℕ
mine_back f = f.pass.fragment.mine

-- a pass and those of jobs that were done, in one: the shares and the failed tries add up, the positions of the jobs' calls
-- follow the pass's own, in the order of the jobs, and what each of the passes had seen begins what the one has seen
pub record Gathered {L : Type 0} (old : Fragment) (finished : List (Finished L)) (new : Fragment) : Type 0 where
  pub shares : new.shares ≡ old.shares + sum_by shares_back finished
  pub failed_tries : new.failed_tries ≡ old.failed_tries + sum_by failed_tries_back finished
  pub mine : new.mine ≡ old.mine ++ flat_map mine_back finished
  pub begins : Begins old.seen new.seen
  pub each_begins : All (λ f. Begins f.pass.fragment.seen new.seen) finished

-- a reader ended as one, and a writer as one
abbrev pub Did : RouterView → Role → ℕ → Fragment → LinkTrace → Ending → Fragment → LinkTrace → Type 0
Did r role.Reader session old t (ending.Read end) new u = IsReadBy r session old t end new u
Did r role.Writer session old t (ending.Write end) new u = IsWrittenBy r session old t end new u
Did r _ session old t _ new u = ⊥

-- so its turns were used up; `may` says what the gate may answer at each of them
abbrev pub UsesTurns : (ℕ → Bool → Type 0) → ℕ → Fragment → LinkTrace → Ending → Fragment → LinkTrace → Type 0
UsesTurns may turns old t (ending.Read end) new u = ReadsByTurns may turns end.cause end.entered t u
UsesTurns may turns old t (ending.Write end) new u = TakesByTurns may turns end.cause old new

-- a job was done, with at most so many turns, and its link is closed
pub record IsFinished {L : Type 0} (told : L → LinkTrace) (may : ℕ → Bool → Type 0) (turns : ℕ) (r : RouterView) (j : Job L) (f : Finished L)
    : Type 0 where
  pub last : LinkTrace
  pub did : Did r j.role j.session j.pass.fragment (told j.link) f.ending f.pass.fragment last
  pub by_turns : UsesTurns may turns j.pass.fragment (told j.link) f.ending f.pass.fragment last
  pub link : told f.link ≡ closed last
  pub pass : StaysSound r j.pass f.pass

-- Each of these jobs was done. Their numbers, which the gate is told, go up from the first one's.
abbrev pub AreFinished : {L : Type 0} → (L → LinkTrace) → (ℕ → ℕ → Bool → Type 0) → ℕ → RouterView → ℕ → List (Job L) → List (Finished L) → Type 0
AreFinished told may turns r number [] [] = Unit {0}
AreFinished told may turns r number (j ∷ jobs) (f ∷ finished) =
    IsFinished told (may number) turns r j f × AreFinished told may turns r (number + 1) jobs finished
AreFinished told may turns r number [] (f ∷ finished) = ⊥
AreFinished told may turns r number (j ∷ jobs) [] = ⊥
