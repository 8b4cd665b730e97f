-- Answers one after another, each at the place of its route.
use Rattle.std.proofs.Common.{◌≡◌, ◌+◌, ◌<◌, ◌≤◌, ⊎_elim, ℕ, suc, zero, List, [], ◌∷◌, length, get_or, set, min, arith, refl, subst, sym, ◌∙◌}
use Rattle.std.proofs.Common.{get_or-set_other, get_or-set_same, length-set}
use Rattle.std.proofs.lemmas.Bool.{cases_eq}
use Rattle.filter_verifier.specs.VerifiedView.{VerifiedView}
use Rattle.filter_c.specs.Answers.{AreAnswers, IsAnswer}
use Rattle.filter_c.specs.declared.answer.Answer.{Answer}
use Rattle.filter_c.specs.declared.answer.CRoute.{CRoute}

-- an answer to the route at a place
abbrev pub Answers : VerifiedView → List CRoute → CRoute → ℕ → Answer → Type 0
Answers v routes r k a = IsAnswer v (get_or routes k r).address (get_or routes k r).length (get_or routes k r).metric a

-- the first routes are answered, and the answers behind are as they were
pub record AnswersTo (v : VerifiedView) (routes : List CRoute) (n : ℕ) (old new : List Answer) : Type 0 where
  pub room : length new ≡ length old
  pub answered : (k : ℕ) (r : CRoute) (a : Answer) → k < n → Answers v routes r k (get_or new k a)
  pub kept : (k : ℕ) (a : Answer) → n ≤ k → get_or new k a ≡ get_or old k a

-- an element, whatever stands for one that is not there
same_element : {X : Type 0} (xs : List X) (k : ℕ) (d e : X) → k < length xs → get_or xs k d ≡ get_or xs k e
same_element (x ∷ xs) zero d e h = refl
same_element (x ∷ xs) (suc k) d e h = same_element xs k d e (omega (arith, h))
same_element [] k d e h = absurd (omega (arith, h))

-- none is answered yet
pub none_answered : (v : VerifiedView) (routes : List CRoute) (old : List Answer) → AnswersTo v routes 0 old old
none_answered v routes old = record {
  room = refl;
  answered = λ k r a h. absurd (omega (arith, h));
  kept = λ k a h. refl;
}

-- one more is
pub one_more : (v : VerifiedView) (routes : List CRoute) (n : ℕ) (old new : List Answer) (d : CRoute) (x : Answer) → AnswersTo v routes n old new
    → n < length routes → n < length old → Answers v routes d n x → AnswersTo v routes (n + 1) old (set new n x)
one_more v routes n old new d x so_far short room is =
    let there : n < length new = omega (arith, so_far.room) in record {
      room = length-set new n x ∙ so_far.room;
      answered = λ k r a h. ⊎_elim
          (λ (same : k ≡ n). subst (λ j. Answers v routes r j (get_or (set new n x) j a)) (sym same)
          (subst (Answers v routes r n) (sym (get_or-set_same new n x a there))
          (subst (λ (route : CRoute). IsAnswer v route.address route.length route.metric x) (same_element routes n d r short) is)))
          (λ (other : k ≡ n → ⊥). subst (Answers v routes r k) (sym (get_or-set_other new n k x a other)) (so_far.answered k r a (omega arith)))
          (cases_eq k n);
      kept = λ k a h. get_or-set_other new n k x a (λ (same : k ≡ n). omega arith) ∙ so_far.kept k a (omega arith);
    }

-- all for whose answers there is room
pub all_answered : (v : VerifiedView) (routes : List CRoute) (n : ℕ) (old new : List Answer) → AnswersTo v routes n old new
    → n ≡ min (length routes) (length old) → AreAnswers v routes old new
all_answered v routes n old new so_far whole = record {
  room = so_far.room;
  answered = λ k r a in_routes in_old. so_far.answered k r a (omega (arith, whole, in_routes, in_old));
  kept = λ k a h. so_far.kept k a (omega (arith, whole, h));
}
