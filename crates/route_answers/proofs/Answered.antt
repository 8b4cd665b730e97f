-- How a run of a service ends that answers each line by a function of the line, whatever it keeps of the lines before.
use Rattle.std.proofs.Common.{◌≡◌, ◌≤◌, ℕ, List, [], ◌∷◌, ◌++◌, length, map, Option, Some, Result, Ok}
use Rattle.std.proofs.Common.{Err, Bool, false, MatchBool, refl, sym, ap, subst, ◌∙◌, append_assoc}
use Rattle.std.specs.Prelude.{⊤}
use Rattle.std.specs.Io.KnownBytes.{Appends, Consumes}
use Rattle.std.proofs.lemmas.List.{append-nil}
use Rattle.filter_code.specs.RouteView.{RouteView}
use Rattle.filter_verifier.specs.VerifiedView.{VerifiedView}
use Rattle.line_protocol.specs.Answers.{Answer, is_end, is_over, refusals, text_of}
use Rattle.line_protocol.specs.Lines.{numbered}
use Rattle.line_protocol.specs.Runs.{Finishes, Reaches, Runs, RunsFront, Stops}
use Rattle.line_protocol.specs.declared.faults.StreamFault.{StreamFault}
use Rattle.line_protocol.specs.declared.faults.StreamFault.TheVariants.{Read, Write, Memory, TooLong}
use Rattle.route_answers.specs.Eval.{Line, answer_of}
use Rattle.route_answers.specs.RouteLine.{route_in}
use Rattle.route_answers.specs.declared.line_fault.LineFault.{LineFault}
use Rattle.route_answers.specs.Filtering.{AnswersEach, AnswersFirst, ReachesTo, code_answer, routes_limit}

-- `answers` is what the service is said to do, `answer_to` the function, and `Has lines s` says what the service keeps of lines that it
-- answered
module _ (S : Type 0) (answers : S → ℕ → List ℕ → Answer → S → Type 0) (answer_to : Line → Answer) (Has : List Line → S → Type 0)
    (goes_on : (line : Line) → is_end (answer_to line).reply ≡ false)
    (keeps : (before : List Line) (s mid : S) (line : Line) (answer : Answer) → Has before s → answers s line.0 line.1 answer mid
    → (answer ≡ answer_to line) × Has (before ++ line ∷ []) mid) where
  none_is_over : (lines : List Line) → is_over (map answer_to lines) ≡ false
  none_is_over [] = refl
  none_is_over (l ∷ ls) = rw (goes_on l) (none_is_over ls)

  -- all lines are answered so
  all_answered : (before : List Line) (s : S) → Has before s → (lines : List Line) (given : List Answer) (after : S)
      → Runs answers s lines given after → (given ≡ map answer_to lines) × Has (before ++ lines) after
  all_answered before s h [] [] after r = (refl, rw append-nil (subst (Has before) (sym r) h))
  all_answered before s h [] (a ∷ more) after r = absurd r
  all_answered before s h (l ∷ ls) [] after r = absurd r
  all_answered before s h (l ∷ ls) (a ∷ more) after r =
      let now = keeps before s r.0 l a h r.1 in
      let goes : is_end a.reply ≡ false = ap (λ (x : Answer). is_end x.reply) now.0 ∙ goes_on l in
      let Q : Bool → Type 0 = λ b. MatchBool b ((more ≡ []) × (after ≡ r.0)) (Runs answers r.0 ls more after) in
      let rest = all_answered (before ++ l ∷ []) r.0 now.1 ls more after (subst Q goes r.2) in (
        ap (λ (x : Answer). x ∷ more) now.0 ∙ ap (λ (xs : List Answer). answer_to l ∷ xs) rest.0,
        subst (λ (all : List Line). Has all after) (append_assoc before (l ∷ []) ls) rest.1,
      )

  -- the first lines are
  first_answered : (before : List Line) (s : S) → Has before s → (lines : List Line) (given : List Answer) (after : S)
      → RunsFront answers s lines given after → (others : List Answer) × (map answer_to lines ≡ given ++ others)
  first_answered before s h lines [] after r = (map answer_to lines, refl)
  first_answered before s h [] (a ∷ more) after r = absurd r
  first_answered before s h (l ∷ ls) (a ∷ more) after r =
      let now = keeps before s r.0 l a h r.1 in
      let goes : is_end a.reply ≡ false = ap (λ (x : Answer). is_end x.reply) now.0 ∙ goes_on l in
      let Q : Bool → Type 0 = λ b. MatchBool b ((more ≡ []) × (after ≡ r.0)) (RunsFront answers r.0 ls more after) in
      let rest = first_answered (before ++ l ∷ []) r.0 now.1 ls more after (subst Q goes r.2) in
      (rest.0, ap (λ (xs : List Answer). answer_to l ∷ xs) rest.1 ∙ ap (λ (x : Answer). x ∷ (more ++ rest.0)) (sym now.0))

  -- a run of the service answers each line, and keeps what it does of all of them
  pub ends_well : (s after : S) → Has [] s → (input : List ℕ) (left held holds : Option (List ℕ)) (n : ℕ)
      → Finishes answers routes_limit s after input left held holds n
      → AnswersEach answer_to input left held holds n × Has (numbered input) after
  ends_well s after h input left held holds n f =
      let all = all_answered [] s h (numbered input) f.given after f.run in
      let to_end = f.to_end (ap is_over all.0 ∙ none_is_over (numbered input)) in
      let P : Option (List ℕ) → Type 0 = λ o. Consumes (Some input) o f.read in
      let whole : input ≡ f.read ++ [] = subst P to_end f.consumed in (
        record {
          written = subst (λ (g : List Answer). Appends held holds (text_of g)) all.0 f.written;
          counted = f.counted ∙ ap refusals all.0;
          to_end = to_end;
          within = subst (λ (x : List ℕ). length x ≤ routes_limit) (sym (whole ∙ append-nil f.read)) f.within;
        },
        all.1,
      )

  reach_to : (fault : StreamFault) (s now : S) → Has [] s → (read : List ℕ) (given : List Answer) (after : S)
      → Reaches answers (λ _ _. ⊤) routes_limit fault s now read given after → ReachesTo answer_to fault read given
  reach_to Read s now h read given after r = (all_answered [] s h _ given after r.1).0
  reach_to Write s now h read given after r = tt
  reach_to Memory s now h read given after r = tt
  reach_to TooLong s now h read given after r = (r.0, (all_answered [] s h _ given after r.2).0)

  -- a fault ends it behind the first lines
  pub breaks_off : (fault : StreamFault) (s now : S) → Has [] s → (input : List ℕ) (left held holds : Option (List ℕ))
      → Stops answers (λ _ _. ⊤) routes_limit fault s now input left held holds → AnswersFirst answer_to fault input left held holds
  breaks_off fault s now h input left held holds f =
      let first = first_answered [] s h (numbered input) f.given f.after f.run in
      record {
        given = f.given;
        others = first.0;
        first = first.1;
        written = f.written;
        read = f.read;
        consumed = f.consumed;
        reach = reach_to fault s now h f.read f.given f.after f.reach;
      }

-- a service that answers by verified code, which it keeps
abbrev pub answer_by : VerifiedView → Line → Answer
answer_by v line = code_answer v.program v.size line

abbrev pub answers : VerifiedView → ℕ → List ℕ → Answer → VerifiedView → Type 0
answers before number line answer after = (after ≡ before) × (answer ≡ answer_by before (number, line))

-- no answer ends the run
goes_on : (v : VerifiedView) (n : ℕ) (r : Result RouteView LineFault) → is_end (answer_of v.program n r).reply ≡ false
goes_on v n (Ok route) = refl
goes_on v n (Err found) = refl

module _ (v : VerifiedView) where
  Keeps : List Line → VerifiedView → Type 0
  Keeps lines s = s ≡ v

  line_goes_on : (line : Line) → is_end (answer_by v line).reply ≡ false
  line_goes_on line = goes_on v line.0 (route_in (Some v.size) line.1)

  keeps : (before : List Line) (s mid : VerifiedView) (line : Line) (answer : Answer) → Keeps before s → answers s line.0 line.1 answer mid
      → (answer ≡ answer_by v line) × Keeps (before ++ line ∷ []) mid
  unfolding Keeps
  keeps before s mid line answer h a = (a.1 ∙ ap (λ (w : VerifiedView). answer_by w line) h, a.0 ∙ h)

  pub code_ends_well : (after : VerifiedView) (input : List ℕ) (left held holds : Option (List ℕ)) (n : ℕ)
      → Finishes answers routes_limit v after input left held holds n → AnswersEach (answer_by v) input left held holds n
  unfolding Keeps
  code_ends_well after input left held holds n f =
      (ends_well VerifiedView answers (answer_by v) Keeps line_goes_on keeps v after refl input left held holds n f).0

  pub code_breaks_off : (fault : StreamFault) (now : VerifiedView) (input : List ℕ) (left held holds : Option (List ℕ))
      → Stops answers (λ _ _. ⊤) routes_limit fault v now input left held holds → AnswersFirst (answer_by v) fault input left held holds
  unfolding Keeps
  code_breaks_off fault now = breaks_off VerifiedView answers (answer_by v) Keeps line_goes_on keeps fault v now refl

-- two ways to answer lines that agree
module _ (f g : Line → Answer) (same : (line : Line) → f line ≡ g line) where
  pub same_answers : (lines : List Line) → map f lines ≡ map g lines
  same_answers [] = refl
  same_answers (l ∷ ls) = ap (λ (x : Answer). x ∷ map f ls) (same l) ∙ ap (λ (xs : List Answer). g l ∷ xs) (same_answers ls)

  pub each_alike : (input : List ℕ) (left held holds : Option (List ℕ)) (n : ℕ) → AnswersEach f input left held holds n
      → AnswersEach g input left held holds n
  each_alike input left held holds n h = record {
    written = subst (λ (a : List Answer). Appends held holds (text_of a)) (same_answers (numbered input)) h.written;
    counted = h.counted ∙ ap refusals (same_answers (numbered input));
    to_end = h.to_end;
    within = h.within;
  }

  reach_alike : (fault : StreamFault) (read : List ℕ) (given : List Answer) → ReachesTo f fault read given → ReachesTo g fault read given
  reach_alike Read read given h = h ∙ same_answers _
  reach_alike Write read given h = tt
  reach_alike Memory read given h = tt
  reach_alike TooLong read given h = (h.0, h.1 ∙ same_answers _)

  pub first_alike : (fault : StreamFault) (input : List ℕ) (left held holds : Option (List ℕ)) → AnswersFirst f fault input left held holds
      → AnswersFirst g fault input left held holds
  first_alike fault input left held holds h = record {
    given = h.given;
    others = h.others;
    first = sym (same_answers (numbered input)) ∙ h.first;
    written = h.written;
    read = h.read;
    consumed = h.consumed;
    reach = reach_alike fault h.read h.given h.reach;
  }
