-- How a run of `eval` ends, from how the lines were answered.
use Rattle.std.proofs.Common.{◌≡◌, ℕ, ◌≤◌, List, [], ◌∷◌, ◌++◌, length, Option, Some, None, IfSome, Result, Ok}
use Rattle.std.proofs.Common.{Err, IfOk, IfErr, is_some, false, true, refl, sym, ap, subst, ◌∙◌, append_assoc}
use Rattle.std.specs.Prelude.{⊤}
use Rattle.std.proofs.lemmas.List.{append-nil}
use Rattle.std.specs.Io.KnownBytes.{Appends, Consumes}
use Rattle.filter_code.specs.CodeView.{CodeView}
use Rattle.line_protocol.specs.Answers.{Answer, is_over, refusals, text_of}
use Rattle.line_protocol.specs.Lines.{numbered}
use Rattle.line_protocol.specs.Runs.{Finishes, IsWritten, Reaches, Runs, Stops}
use Rattle.line_protocol.specs.declared.faults.StreamFault.{StreamFault}
use Rattle.line_protocol.specs.declared.faults.StreamFault.TheVariants.{Read, Write, Memory, TooLong}
use Rattle.route_answers.proofs.Evaluations.{Begins, Makes, front_run, whole_run}
use Rattle.route_answers.specs.Eval.{Line, all_answers, eval_answers, line_answers, no_code}
use Rattle.filter_reports.specs.Cuts.{IsCut}
use Rattle.route_answers.specs.Evaluation.{Breaks, Evaluates, ReachesTo}
use Rattle.route_answers.specs.Steps.{AnswersLine}
use Rattle.line_protocol.specs.Limits.{input_limit}

-- what grew twice grew by both
pub append_twice : (a b c : Option (List ℕ)) (x y : List ℕ) → Appends a b x → Appends b c y → Appends a c (x ++ y)
append_twice None b c x y p q = tt
append_twice (Some xs) None c x y p q = absurd p
append_twice (Some xs) (Some ys) None x y p q = absurd q
append_twice (Some xs) (Some ys) (Some zs) x y p q = q ∙ ap (λ (w : List ℕ). w ++ y) p ∙ append_assoc xs x y

-- the answers to some lines are those after the line of the code
some_lines : (lines : List Line) → (lines ≡ [] → ⊥) → all_answers lines ≡ line_answers lines
some_lines [] none = absurd (none refl)
some_lines (l ∷ ls) some = refl

-- the answers to an input of which no line is answered
pub no_lines : (input : List ℕ) → numbered input ≡ [] → eval_answers input ≡ no_code ∷ []
no_lines input e = ap all_answers e

-- what is written of that one refusal
no_code_text : text_of (no_code ∷ []) ≡ no_code.text
no_code_text = append-nil no_code.text

-- A run in which a line was answered ends as the run of its lines does.
pub ends_well : (s after : Option CodeView) (input : List ℕ) (left held holds : Option (List ℕ)) (n : ℕ) → s ≡ None
    → ((n ≡ 0) → (after ≡ None) → ⊥) → Finishes AnswersLine input_limit s after input left held holds n → Evaluates input left held holds n
ends_well s after input left held holds n e some f =
    let makes : Makes (numbered input) f.given after = whole_run s e (numbered input) f.given after f.run in
    let P : List Line → Type 0 = λ lines. Runs AnswersLine s lines f.given after in
    let lines : numbered input ≡ [] → ⊥ = λ none.
    let nothing : (f.given ≡ []) × (after ≡ s) = no_answers s f.given after (subst P none f.run) in
    some (f.counted ∙ ap refusals nothing.0) (nothing.1 ∙ e)
    in
    let all : eval_answers input ≡ line_answers (numbered input) = some_lines (numbered input) lines in
    record {
      written = subst (λ (t : List ℕ). Appends held holds t) (makes.text ∙ sym (ap text_of all)) f.written;
      counted = f.counted ∙ makes.count ∙ sym (ap refusals all);
      read = f.read;
      consumed = f.consumed;
      within = f.within;
      to_end = λ goes. f.to_end (makes.over ∙ sym (ap is_over all) ∙ goes);
    }
  where
    no_answers : (s : Option CodeView) (given : List Answer) (after : Option CodeView) → Runs AnswersLine s [] given after → (given ≡ []) × (after ≡ s)
    no_answers s [] after r = (refl, r)
    no_answers s (a ∷ more) after r = absurd r

-- Where no code came and nothing was refused, no line was answered, and nothing was written.
pub record IsSilent (input : List ℕ) (left held holds : Option (List ℕ)) : Type 0 where
  pub none : numbered input ≡ []
  pub written : Appends held holds []
  pub read : List ℕ
  pub consumed : Consumes (Some input) left read
  pub within : length read ≤ input_limit
  pub to_end : left ≡ Some []

pub silent_run : (s after : Option CodeView) (input : List ℕ) (left held holds : Option (List ℕ)) (n : ℕ) → s ≡ None → (n ≡ 0)
    → (after ≡ None) → Finishes AnswersLine input_limit s after input left held holds n → IsSilent input left held holds
silent_run s after input left held holds n e zero none f =
    let makes : Makes (numbered input) f.given after = whole_run s e (numbered input) f.given after f.run in
    let lines : numbered input ≡ [] = makes.silent none (sym f.counted ∙ zero) in
    let text : text_of f.given ≡ [] = makes.text ∙ ap (λ (ls : List Line). text_of (line_answers ls)) lines in
    record {
      none = lines;
      written = subst (λ (t : List ℕ). Appends held holds t) text f.written;
      read = f.read;
      consumed = f.consumed;
      within = f.within;
      to_end = f.to_end (makes.over ∙ ap (λ (ls : List Line). is_over (line_answers ls)) lines);
    }

-- An input of which no line is answered ends with the one refusal.
pub ends_empty : (input : List ℕ) (left held mid holds : Option (List ℕ)) → IsSilent input left held mid
    → Appends mid holds no_code.text → Evaluates input left held holds 1
ends_empty input left held mid holds s w =
    let all : eval_answers input ≡ no_code ∷ [] = no_lines input s.none in
    record {
      written = subst (λ (t : List ℕ). Appends held holds t) (sym (ap text_of all ∙ no_code_text))
          (append_twice held mid holds [] no_code.text s.written w);
      counted = sym (ap refusals all);
      read = s.read;
      consumed = s.consumed;
      within = s.within;
      to_end = λ goes. s.to_end;
    }

-- A fault ends a run as it ends the answers to its lines.
pub breaks_off : (fault : StreamFault) (s now : Option CodeView) (input : List ℕ) (left held holds : Option (List ℕ)) → s ≡ None
    → Stops AnswersLine (λ _ _. ⊤) input_limit fault s now input left held holds → Breaks fault input left held holds
breaks_off fault s now input left held holds e f =
    let begins : Begins (numbered input) f.given = front_run s e (numbered input) f.given f.after f.run in
    record {
      given = begins.front;
      others = begins.others;
      first = begins.first;
      written = subst (λ (t : List ℕ). IsWritten fault held holds t) begins.text f.written;
      read = f.read;
      consumed = f.consumed;
      reach = reach_to fault s now f.read f.given f.after begins.front e begins.text f.reach;
    }
  where
    reach_to : (fault : StreamFault) (s now : Option CodeView) (read : List ℕ) (given : List Answer) (after : Option CodeView) (front : List Answer)
        → s ≡ None → text_of given ≡ text_of front → Reaches AnswersLine (λ _ _. ⊤) input_limit fault s now read given after → ReachesTo fault read front
    reach_to Read s now read given after front e text r = sym text ∙ (whole_run s e _ given after r.1).text
    reach_to Write s now read given after front e text r = tt
    reach_to Memory s now read given after front e text r = tt
    reach_to TooLong s now read given after front e text r = (r.0, sym text ∙ (whole_run s e _ given after r.2).text)

-- A fault at that one refusal ends the run with none of it or with a front of it.
pub breaks_at_refusal : (fault : StreamFault) (input : List ℕ) (left held mid holds : Option (List ℕ)) → IsSilent input left held mid
    → IsCut fault mid holds no_code.text → Breaks fault input left held holds
breaks_at_refusal Read input left held mid holds s w = absurd w
breaks_at_refusal TooLong input left held mid holds s w = absurd w
breaks_at_refusal Memory input left held mid holds s w = record {
  given = [];
  others = no_code ∷ [];
  first = no_lines input s.none;
  written = append_twice held mid holds [] [] s.written w;
  read = s.read;
  consumed = s.consumed;
  reach = tt;
}
breaks_at_refusal Write input left held mid holds s w = record {
  given = no_code ∷ [];
  others = [];
  first = no_lines input s.none;
  written = (w.0, w.1, no_code_text ∙ w.2, append_twice held mid holds [] w.0 s.written w.3);
  read = s.read;
  consumed = s.consumed;
  reach = tt;
}

-- Of bytes that are known, more follows.
pub if_known : {P Q : List ℕ → Type 0} (known : Option (List ℕ)) → ((input : List ℕ) → P input → Q input) → IfSome known P
    → IfSome known Q
if_known None f h = h
if_known (Some input) f h = f input h

-- Of an answer, or of an error, more follows.
pub if_answered : {A E : Type 0} {P Q : A → Type 0} (r : Result A E) → ((x : A) → P x → Q x) → IfOk r P → IfOk r Q
if_answered (Ok x) f h = f x h
if_answered (Err e) f h = h

pub if_refused : {A E : Type 0} {P Q : E → Type 0} (r : Result A E) → ((e : E) → P e → Q e) → IfErr r P → IfErr r Q
if_refused (Ok x) f h = h
if_refused (Err e) f h = f e h

-- an evaluator has a code or none
pub no_code_is_none : (o : Option CodeView) → is_some o ≡ false → o ≡ None
no_code_is_none None e = refl
no_code_is_none (Some p) e = cc

pub some_code_is_some : (o : Option CodeView) → is_some o ≡ true → o ≡ None → ⊥
some_code_is_some None e none = cc
some_code_is_some (Some p) e none = cc
