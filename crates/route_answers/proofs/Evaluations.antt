-- What the answers of the evaluator to all lines, or to the first of them, make.
use Rattle.std.proofs.Common.{◌≡◌, ℕ, List, [], ◌∷◌, ◌++◌, map, Option, Some, None, Result, Ok, Err}
use Rattle.std.proofs.Common.{Bool, true, false, refl, sym, ap, subst, ◌∙◌, arith, MatchBool}
use Rattle.filter_code.specs.RouteView.{RouteView}
use Rattle.filter_code.specs.CodeView.{CodeView}
use Rattle.line_protocol.specs.Answers.{Answer, is_end, is_over, refusals, text_of}
use Rattle.line_protocol.specs.Runs.{Runs, RunsFront}
use Rattle.route_answers.specs.Eval.{Line, all_answers, answer_of, answers_after, code_answer, code_in, line_answers, route_answer}
use Rattle.route_answers.specs.Steps.{AnswersLine, TakesCode}
use Rattle.route_answers.specs.RouteLine.{route_in}
use Rattle.filter_source.specs.declared.refusal.Refusal.{Refusal}
use Rattle.route_answers.specs.declared.line_fault.LineFault.{LineFault}

-- the answer to a route ends nothing
answer_goes_on : (p : CodeView) (n : ℕ) (r : Result RouteView LineFault) → is_end (answer_of p n r).reply ≡ false
answer_goes_on p n (Ok route) = refl
answer_goes_on p n (Err found) = refl

-- after the code, all lines are answered as routes
pub running : (p : CodeView) (s : Option CodeView) → s ≡ Some p → (lines : List Line) (given : List Answer) (after : Option CodeView)
    → Runs AnswersLine s lines given after → (given ≡ map (route_answer p) lines) × (after ≡ Some p)
running p s e [] [] after r = (refl, r ∙ e)
running p s e [] (a ∷ more) after r = absurd r
running p s e (l ∷ ls) [] after r = absurd r
running p s e (l ∷ ls) (a ∷ more) after r =
    let P : Option CodeView → Type 0 = λ c. AnswersLine c l.0 l.1 a r.0 in
    let here : (a ≡ route_answer p l) × (r.0 ≡ Some p) = subst P e r.1 in
    let goes : is_end a.reply ≡ false = ap (λ (x : Answer). is_end x.reply) here.0 ∙ answer_goes_on p l.0 (route_in None l.1) in
    let Q : Bool → Type 0 = λ b. MatchBool b ((more ≡ []) × (after ≡ r.0)) (Runs AnswersLine r.0 ls more after) in
    let rest : (more ≡ map (route_answer p) ls) × (after ≡ Some p) = running p r.0 here.1 ls more after (subst Q goes r.2) in
    (ap (λ (x : Answer). x ∷ more) here.0 ∙ ap (λ (xs : List Answer). route_answer p l ∷ xs) rest.0, rest.1)

-- the answers to the first lines after the code are the first answers
pub running_front : (p : CodeView) (s : Option CodeView) → s ≡ Some p → (lines : List Line) (given : List Answer) (after : Option CodeView)
    → RunsFront AnswersLine s lines given after → (others : List Answer) × (map (route_answer p) lines ≡ given ++ others)
running_front p s e lines [] after r = (map (route_answer p) lines, refl)
running_front p s e [] (a ∷ more) after r = absurd r
running_front p s e (l ∷ ls) (a ∷ more) after r =
    let P : Option CodeView → Type 0 = λ c. AnswersLine c l.0 l.1 a r.0 in
    let here : (a ≡ route_answer p l) × (r.0 ≡ Some p) = subst P e r.1 in
    let goes : is_end a.reply ≡ false = ap (λ (x : Answer). is_end x.reply) here.0 ∙ answer_goes_on p l.0 (route_in None l.1) in
    let Q : Bool → Type 0 = λ b. MatchBool b ((more ≡ []) × (after ≡ r.0)) (RunsFront AnswersLine r.0 ls more after) in
    let rest : (others : List Answer) × (map (route_answer p) ls ≡ more ++ others) =
    running_front p r.0 here.1 ls more after (subst Q goes r.2) in
    (rest.0, ap (λ (xs : List Answer). route_answer p l ∷ xs) rest.1 ∙ ap (λ (x : Answer). x ∷ (more ++ rest.0)) (sym here.0))

-- What the answers of a whole run make.
pub record Makes (lines : List Line) (given : List Answer) (after : Option CodeView) : Type 0 where
  pub text : text_of given ≡ text_of (line_answers lines)
  pub count : refusals given ≡ refusals (line_answers lines)
  pub over : is_over given ≡ is_over (line_answers lines)
  -- where no code came and nothing was refused, there was no line
  pub silent : after ≡ None → refusals given ≡ 0 → lines ≡ []

-- the answer to the line of the code, and those after it
behind_code : (l : Line) (ls : List Line) (a : Answer) (more : List Answer) (mid after : Option CodeView) (read : Result CodeView Refusal)
    → code_in l.1 ≡ read → TakesCode l.0 read a mid
    → MatchBool (is_end a.reply) ((more ≡ []) × (after ≡ mid)) (Runs AnswersLine mid ls more after) → Makes (l ∷ ls) (a ∷ more) after
behind_code l ls a more mid after (Ok p) e taken r =
    let goes : is_end a.reply ≡ false = ap (λ (x : Answer). is_end x.reply) taken.0 in
    let Q : Bool → Type 0 = λ b. MatchBool b ((more ≡ []) × (after ≡ mid)) (Runs AnswersLine mid ls more after) in
    let rest : (more ≡ map (route_answer p) ls) × (after ≡ Some p) = running p mid taken.1 ls more after (subst Q goes r) in
    let all : line_answers (l ∷ ls) ≡ map (route_answer p) ls = ap (λ x. answers_after l.0 x ls) e in
    record {
      text = ap (λ (x : Answer). text_of (x ∷ more)) taken.0 ∙ ap text_of (rest.0 ∙ sym all);
      count = ap (λ (x : Answer). refusals (x ∷ more)) taken.0 ∙ ap refusals (rest.0 ∙ sym all);
      over = ap (λ (x : Answer). is_over (x ∷ more)) taken.0 ∙ ap is_over (rest.0 ∙ sym all);
      silent = λ none zero. cc (rest.1, none);
    }
behind_code l ls a more mid after (Err found) e taken r =
    let ends : is_end a.reply ≡ true = ap (λ (x : Answer). is_end x.reply) taken.0 in
    let Q : Bool → Type 0 = λ b. MatchBool b ((more ≡ []) × (after ≡ mid)) (Runs AnswersLine mid ls more after) in
    let rest : (more ≡ []) × (after ≡ mid) = subst Q ends r in
    let all : line_answers (l ∷ ls) ≡ answers_after l.0 (Err found) ls = ap (λ x. answers_after l.0 x ls) e in
    let same : a ∷ more ≡ line_answers (l ∷ ls) = ap (λ (x : Answer). x ∷ more) taken.0
    ∙ ap (λ (xs : List Answer). code_answer l.0 found ∷ xs) rest.0 ∙ sym all in
    let one : refusals (a ∷ more) ≡ 1 = ap refusals (same ∙ all) in
    record {
      text = ap text_of same;
      count = ap refusals same;
      over = ap is_over same;
      silent = λ none none_refused. absurd (omega (arith, one, none_refused));
    }

-- A whole run of the evaluator.
pub whole_run : (s : Option CodeView) → s ≡ None → (lines : List Line) (given : List Answer) (after : Option CodeView)
    → Runs AnswersLine s lines given after → Makes lines given after
whole_run s e [] [] after r = record { text = refl; count = refl; over = refl; silent = λ none zero. refl }
whole_run s e [] (a ∷ more) after r = absurd r
whole_run s e (l ∷ ls) [] after r = absurd r
whole_run s e (l ∷ ls) (a ∷ more) after r =
    let P : Option CodeView → Type 0 = λ c. AnswersLine c l.0 l.1 a r.0 in
    behind_code l ls a more r.0 after (code_in l.1) refl (subst P e r.1) r.2

-- The answers to the first lines of a run are, but for the silent one to the line of the code, the first answers.
pub record Begins (lines : List Line) (given : List Answer) : Type 0 where
  pub front : List Answer
  pub others : List Answer
  pub first : all_answers lines ≡ front ++ others
  pub text : text_of given ≡ text_of front

front_behind_code : (l : Line) (ls : List Line) (a : Answer) (more : List Answer) (mid after : Option CodeView)
    → (read : Result CodeView Refusal) → code_in l.1 ≡ read → TakesCode l.0 read a mid
    → MatchBool (is_end a.reply) ((more ≡ []) × (after ≡ mid)) (RunsFront AnswersLine mid ls more after) → Begins (l ∷ ls) (a ∷ more)
front_behind_code l ls a more mid after (Ok p) e taken r =
    let goes : is_end a.reply ≡ false = ap (λ (x : Answer). is_end x.reply) taken.0 in
    let Q : Bool → Type 0 = λ b. MatchBool b ((more ≡ []) × (after ≡ mid)) (RunsFront AnswersLine mid ls more after) in
    let rest : (others : List Answer) × (map (route_answer p) ls ≡ more ++ others) =
    running_front p mid taken.1 ls more after (subst Q goes r) in
    let all : all_answers (l ∷ ls) ≡ map (route_answer p) ls = ap (λ x. answers_after l.0 x ls) e in
    record { front = more; others = rest.0; first = all ∙ rest.1; text = ap (λ (x : Answer). text_of (x ∷ more)) taken.0 }
front_behind_code l ls a more mid after (Err found) e taken r =
    let ends : is_end a.reply ≡ true = ap (λ (x : Answer). is_end x.reply) taken.0 in
    let Q : Bool → Type 0 = λ b. MatchBool b ((more ≡ []) × (after ≡ mid)) (RunsFront AnswersLine mid ls more after) in
    let rest : (more ≡ []) × (after ≡ mid) = subst Q ends r in
    let all : all_answers (l ∷ ls) ≡ answers_after l.0 (Err found) ls = ap (λ x. answers_after l.0 x ls) e in
    let same : a ∷ more ≡ answers_after l.0 (Err found) ls = ap (λ (x : Answer). x ∷ more) taken.0
    ∙ ap (λ (xs : List Answer). code_answer l.0 found ∷ xs) rest.0 in
    record { front = answers_after l.0 (Err found) ls; others = []; first = all; text = ap text_of same }

-- The first lines of a run of the evaluator.
pub front_run : (s : Option CodeView) → s ≡ None → (lines : List Line) (given : List Answer) (after : Option CodeView)
    → RunsFront AnswersLine s lines given after → Begins lines given
front_run s e lines [] after r = record { front = []; others = all_answers lines; first = refl; text = refl }
front_run s e [] (a ∷ more) after r = absurd r
front_run s e (l ∷ ls) (a ∷ more) after r =
    let P : Option CodeView → Type 0 = λ c. AnswersLine c l.0 l.1 a r.0 in
    front_behind_code l ls a more r.0 after (code_in l.1) refl (subst P e r.1) r.2
