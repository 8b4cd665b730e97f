-- How a run ends, and what is saved by then, follows from how each line was answered.
use Rattle.std.proofs.Common.{◌≡◌, ℕ, Bool, true, false, List, [], ◌∷◌, ◌++◌, Option, Result, Ok, Err, IfOk, IfErr}
use Rattle.std.proofs.Common.{refl, sym, ap, subst, ◌∙◌, append_assoc, append-nil, inr}
use Rattle.std.specs.Prelude.{MatchBool, MatchResult, ⊤}
use Rattle.std.proofs.KnownBytes.{Appends-nil, Appends-trans}
use Rattle.std.specs.Io.KnownBytes.{Appends}
use Rattle.line_protocol.specs.Answers.{Answer, is_end}
use Rattle.line_protocol.specs.Lines.{numbered}
use Rattle.line_protocol.specs.Limits.{input_limit}
use Rattle.line_protocol.specs.Runs.{Finishes, Reaches, Runs, RunsFront, Stops}
use Rattle.line_protocol.specs.declared.faults.StreamFault.{StreamFault}
use Rattle.line_protocol.specs.declared.faults.StreamFault.TheVariants.{Read, Write, Memory, TooLong}
use Rattle.operator_cmds.specs.Stages.{StageView, Empty, Setting, Open}
use Rattle.router_script.specs.Faults.{stream_of}
use Rattle.router_script.specs.Naming.{PreparedView, fresh_with}
use Rattle.router_script.specs.News.{closing}
use Rattle.router_script.specs.Running.{IsSaved, IsSavedInPart, IsSavedUntil}
use Rattle.router_script.specs.Saved.{AnswersSaved, SavedView, SavesMore, saved_text, whole_text}
use Rattle.router_script.specs.Stopping.{AnswersStopping}
use Rattle.router_script.specs.declared.fault.SavingFault.{SavingFault}
use Rattle.router_script.specs.declared.filter_naming.NamedFilter.{NamedFilter}

either : (b : Bool) {P Q R : Type 0} → (P → R) → (Q → R) → MatchBool b P Q → R
either true f g h = f h
either false f g h = g h

both : (b : Bool) (P Q P' Q' : Type 0) → (P → P') → (Q → Q') → MatchBool b P Q → MatchBool b P' Q'
both true P Q P' Q' f g h = f h
both false P Q P' Q' f g h = g h

whole : (s : SavedView) (lines : List (ℕ × List ℕ)) (given : List Answer) (after : SavedView) → Runs AnswersSaved s lines given after
    → Runs (AnswersStopping s.stops) s.script lines given after.script
whole s [] [] after h = ap (λ (v : SavedView). v.script) h
whole s [] (a ∷ more) after h = absurd h
whole s (l ∷ ls) [] after h = absurd h
whole s (l ∷ ls) (a ∷ more) after (mid, (told, saved, still, same), rest) = (
  mid.script,
  told,
  both (is_end a.reply) _ _ _ _ (λ p. (p.0, ap (λ (v : SavedView). v.script) p.1))
      (λ q. subst (λ (b : Bool). Runs (AnswersStopping b) mid.script ls more after.script) same (whole mid ls more after q)) rest,
)

front : (s : SavedView) (lines : List (ℕ × List ℕ)) (given : List Answer) (after : SavedView)
    → RunsFront AnswersSaved s lines given after → RunsFront (AnswersStopping s.stops) s.script lines given after.script
front s lines [] after h = ap (λ (v : SavedView). v.script) h
front s [] (a ∷ more) after h = absurd h
front s (l ∷ ls) (a ∷ more) after (mid, (told, saved, still, same), rest) = (
  mid.script,
  told,
  both (is_end a.reply) _ _ _ _ (λ p. (p.0, ap (λ (v : SavedView). v.script) p.1))
      (λ q. subst (λ (b : Bool). RunsFront (AnswersStopping b) mid.script ls more after.script) same (front mid ls more after q)) rest,
)

nothing : (s : SavedView) → SavesMore s s
nothing s = ([], sym (append-nil (saved_text s.script.script.stage)), λ on. Appends-nil s.holds)

together : (a b c : SavedView) → b.saves ≡ a.saves → SavesMore a b → SavesMore b c → SavesMore a c
together a b c still (x, first, p) (y, second, q) = (
  x ++ y,
  second ∙ ap (λ t. t ++ y) first ∙ append_assoc (saved_text a.script.script.stage) x y,
  λ on. Appends-trans _ _ _ x y (p on) (q (still ∙ on)),
)

-- after any lines the saver has got what they added
saves : (s : SavedView) (lines : List (ℕ × List ℕ)) (given : List Answer) (after : SavedView) → Runs AnswersSaved s lines given after
    → SavesMore s after
saves s [] [] after h = subst (SavesMore s) (sym h) (nothing s)
saves s [] (a ∷ more) after h = absurd h
saves s (l ∷ ls) [] after h = absurd h
saves s (l ∷ ls) (a ∷ more) after (mid, (told, saved, still, same), rest) =
    together s mid after still saved
    (either (is_end a.reply) (λ p. subst (SavesMore mid) (sym p.1) (nothing mid)) (λ q. saves mid ls more after q) rest)

-- whether the history is saved does not change
still_saves : (s : SavedView) (lines : List (ℕ × List ℕ)) (given : List Answer) (after : SavedView) → Runs AnswersSaved s lines given after
    → after.saves ≡ s.saves
still_saves s [] [] after h = ap (λ (v : SavedView). v.saves) h
still_saves s [] (a ∷ more) after h = absurd h
still_saves s (l ∷ ls) [] after h = absurd h
still_saves s (l ∷ ls) (a ∷ more) after (mid, (told, saved, still, same), rest) =
    either (is_end a.reply) (λ p. ap (λ (v : SavedView). v.saves) p.1) (λ q. still_saves mid ls more after q) rest ∙ still

-- a fresh script has no text, so what was added is the whole text
all_saved : (filters : List NamedFilter) (s after : SavedView) → s.script ≡ fresh_with filters → SavesMore s after
    → s.saves ≡ true → Appends s.holds after.holds (saved_text after.script.script.stage)
all_saved filters s after e (more, text, p) on =
    subst (Appends s.holds after.holds) (sym (text ∙ ap (λ (v : PreparedView). saved_text v.script.stage ++ more) e)) (p on)

-- the whole text is what was saved line by line, and what the end adds
whole_is : (stage : StageView) → whole_text stage ≡ saved_text stage ++ closing stage
whole_is Empty = refl
whole_is (Setting opening limit) = refl
whole_is (Open journal) = sym (append-nil (saved_text (Open journal)))

pub ends : (filters : List NamedFilter) (s after : SavedView) (input : List ℕ) (left held holds keeps : Option (List ℕ)) (n : ℕ)
    → s.script ≡ fresh_with filters → (after.saves ≡ true → Appends after.holds keeps (closing after.script.script.stage))
    → Finishes AnswersSaved input_limit s after input left held holds n
    → IsSaved s.saves s.stops filters input left held holds n s.holds keeps after.script.unfit
ends filters s after input left held holds keeps n e closed f =
    let stage = after.script.script.stage in
    let seen : Finishes (AnswersStopping s.stops) input_limit s.script after.script input left held holds n =
    record {
      given = f.given;
      run = whole s (numbered input) f.given after f.run;
      written = f.written;
      counted = f.counted;
      read = f.read;
      consumed = f.consumed;
      within = f.within;
      to_end = f.to_end;
    } in
    record {
      after = after.script;
      finishes = subst (λ (v : PreparedView). Finishes (AnswersStopping s.stops) input_limit v after.script input left held holds n) e seen;
      saved = λ on. subst (Appends s.holds keeps) (sym (whole_is stage))
          (Appends-trans _ _ _ (saved_text stage) (closing stage) (all_saved filters s after e (saves s (numbered input) f.given after f.run) on)
          (closed (still_saves s (numbered input) f.given after f.run ∙ on)));
      unfit_is = refl;
    }

-- lines that are all answered are lines of which the first are
as_front : (stops : Bool) (s : PreparedView) (lines : List (ℕ × List ℕ)) (given : List Answer) (after : PreparedView)
    → Runs (AnswersStopping stops) s lines given after → RunsFront (AnswersStopping stops) s lines given after
as_front stops s [] [] after h = h
as_front stops s [] (a ∷ more) after h = absurd h
as_front stops s (l ∷ ls) [] after h = absurd h
as_front stops s (l ∷ ls) (a ∷ more) after (mid, told, rest) =
    (mid, told, both (is_end a.reply) _ _ _ _ (λ p. p) (λ q. as_front stops mid ls more after q) rest)

-- every line is answered, and what the end adds was not saved
pub cut_end : (filters : List NamedFilter) (s after : SavedView) (input : List ℕ) (left held holds keeps : Option (List ℕ)) (n : ℕ)
    → s.script ≡ fresh_with filters → Finishes AnswersSaved input_limit s after input left held holds n
    → IsSavedInPart Memory s.saves s.stops filters input left held holds s.holds keeps
cut_end filters s after input left held holds keeps n e f =
    let seen : Stops (AnswersStopping s.stops) (λ _ _. ⊤) input_limit Memory s.script after.script input left held holds =
    record {
      given = f.given;
      after = after.script;
      run = as_front s.stops s.script (numbered input) f.given after.script (whole s (numbered input) f.given after f.run);
      written = f.written;
      read = f.read;
      consumed = f.consumed;
      reach = inr tt;
    } in
    record {
      after = after.script;
      broken_off = subst (λ (v : PreparedView). Stops (AnswersStopping s.stops) (λ _ _. ⊤) input_limit Memory v after.script input left held holds) e seen;
      saved = λ on. tt;
    }

reaches : (fault : StreamFault) (s now : SavedView) (read : List ℕ) (given : List Answer) (after : SavedView)
    → Reaches AnswersSaved (λ _ _. ⊤) input_limit fault s now read given after
    → Reaches (AnswersStopping s.stops) (λ _ _. ⊤) input_limit fault s.script now.script read given after.script
reaches Read s now read given after h = (ap (λ (v : SavedView). v.script) h.0, whole s _ given after h.1)
reaches Write s now read given after h = inr tt
reaches Memory s now read given after h = inr tt
reaches TooLong s now read given after h = (h.0, ap (λ (v : SavedView). v.script) h.1, whole s _ given after h.2)

until : (fault : StreamFault) (filters : List NamedFilter) (s now : SavedView) (read : List ℕ) (given : List Answer) (after : SavedView)
    → s.script ≡ fresh_with filters → Reaches AnswersSaved (λ _ _. ⊤) input_limit fault s now read given after
    → s.saves ≡ true → IsSavedUntil fault s.holds now.holds (saved_text now.script.script.stage)
until Read filters s now read given after e h on =
    all_saved filters s now e (subst (SavesMore s) (sym h.0) (saves s _ given after h.1)) on
until Write filters s now read given after e h on = tt
until Memory filters s now read given after e h on = tt
until TooLong filters s now read given after e h on =
    all_saved filters s now e (subst (SavesMore s) (sym h.1) (saves s _ given after h.2)) on

pub breaks : (fault : StreamFault) (filters : List NamedFilter) (s now : SavedView) (input : List ℕ) (left held holds : Option (List ℕ))
    → s.script ≡ fresh_with filters → Stops AnswersSaved (λ _ _. ⊤) input_limit fault s now input left held holds
    → IsSavedInPart fault s.saves s.stops filters input left held holds s.holds now.holds
breaks fault filters s now input left held holds e f =
    let seen : Stops (AnswersStopping s.stops) (λ _ _. ⊤) input_limit fault s.script now.script input left held holds =
    record {
      given = f.given;
      after = f.after.script;
      run = front s (numbered input) f.given f.after f.run;
      written = f.written;
      read = f.read;
      consumed = f.consumed;
      reach = reaches fault s now f.read f.given f.after f.reach;
    } in
    record {
      after = now.script;
      broken_off = subst (λ (v : PreparedView). Stops (AnswersStopping s.stops) (λ _ _. ⊤) input_limit fault v now.script input left held holds) e seen;
      saved = until fault filters s now f.read f.given f.after e f.reach;
    }

pub ok_at : (P : ℕ → Type 0) (ended : Result ℕ StreamFault) (n : ℕ) → ended ≡ Ok n → IfOk ended P → P n
ok_at P ended n same h = subst (λ (r : Result ℕ StreamFault). IfOk r P) same h

-- The fault that is told is the one that ended the lines, or it came when these had ended.
pub by_end : (Q : StreamFault → Type 0) (Same : Type 0) (ended : Result ℕ StreamFault) (fault : SavingFault)
    → MatchResult ended (λ n. stream_of fault ≡ Memory) (λ first. (stream_of fault ≡ first) × Same)
    → IfOk ended (λ n. Q Memory) → (Same → IfErr ended Q) → Q (stream_of fault)
by_end Q Same (Ok n) fault h at_end in_lines = subst Q (sym h) at_end
by_end Q Same (Err first) fault h at_end in_lines = subst Q (sym h.0) (in_lines h.1)
