-- What a line asks of an operator whose router's files are read again.
use Rattle.std.proofs.Common.{◌≡◌, ℕ, Bool, List, Option, Result, IfOk, refl, subst, inl, inr}
use Rattle.line_protocol.specs.Answers.{Answer}
use Rattle.line_protocol.specs.declared.answers.LineReply.{LineReply}
use Rattle.operator_cmds.specs.CommandView.{Load}
use Rattle.operator_cmds.specs.Replies.{Adds, Answers}
use Rattle.operator_cmds.proofs.Answering.{added, answers}
use Rattle.router_operator.specs.OperatorView.{Names, OperatorView}
use Rattle.router_operator.specs.Operators.{AsScript}
use Rattle.router_operator.specs.Reloading.{AnswersAsked, AnswersLine, AnswersReading, AnswersReload, RefusesInWords, ReloadsLinks, read_in, refused_in_words, reload_in}
use Rattle.router_operator.specs.declared.configuration.NamedUse.{NamedUse}

-- what is wrong is told in words
in_words : {E : Type 0} (before after : OperatorView) (number : ℕ) (why : List ℕ) (r : Result LineReply E) (old new : List ℕ) → after ≡ before
    → IfOk r (Adds (refused_in_words number why) old new) → IfOk r (Answers (λ answer. RefusesInWords before number answer after) old new)
in_words before after number why r old new same h =
    added r (refused_in_words number why) (λ answer. RefusesInWords before number answer after) old new (λ answer e. (why, e, same)) h

module _ {E : Type 0} (reads : ℕ → List ℕ → List ℕ → Type 0) (before after : OperatorView) (number : ℕ) (name file : List ℕ)
    (r : Result LineReply E) (old new : List ℕ) where
  -- the text of a file is loaded
  pub reading_loads : (size : ℕ) (text : List ℕ) → size ≡ before.router.opening.size → reads size file text
      → IfOk r (Answers (λ answer. AsScript before number (Load name text) answer after) old new)
      → IfOk r (Answers (λ answer. AnswersReading reads before number name file answer after) old new)
  reading_loads size text is read h =
      answers r (λ answer. AsScript before number (Load name text) answer after)
      (λ answer. AnswersReading reads before number name file answer after) old new
      (λ answer loads. inl (text, subst (λ (n : ℕ). reads n file text) is read, loads)) h

  -- or it is not
  pub reading_stops : (why : List ℕ) → after ≡ before → IfOk r (Adds (refused_in_words number why) old new)
      → IfOk r (Answers (λ answer. AnswersReading reads before number name file answer after) old new)
  reading_stops why same h =
      answers r (λ answer. RefusesInWords before number answer after) (λ answer. AnswersReading reads before number name file answer after)
      old new (λ answer refuses. inr refuses) (in_words before after number why r old new same h)

module _ {E : Type 0} (says : Names → List NamedUse → Type 0) (checks : Bool) (before after : OperatorView) (number : ℕ)
    (r : Result LineReply E) (old new : List ℕ) where
  -- a configuration is put in force
  pub reload_says : (names : Names) (uses : List NamedUse) → says names uses
      → IfOk r (Answers (λ answer. ReloadsLinks checks before number names uses answer after) old new)
      → IfOk r (Answers (λ answer. AnswersReload says checks before number answer after) old new)
  reload_says names uses said h =
      answers r (λ answer. ReloadsLinks checks before number names uses answer after)
      (λ answer. AnswersReload says checks before number answer after) old new
      (λ answer reloads. inl (names, uses, said, reloads)) h

  -- or it is not
  pub reload_refuses : (why : List ℕ) → after ≡ before → IfOk r (Adds (refused_in_words number why) old new)
      → IfOk r (Answers (λ answer. AnswersReload says checks before number answer after) old new)
  reload_refuses why same h =
      answers r (λ answer. RefusesInWords before number answer after) (λ answer. AnswersReload says checks before number answer after)
      old new (λ answer refuses. inr refuses) (in_words before after number why r old new same h)

-- the answer to what a line asks for is the answer to the line
pub as_reread : {E : Type 0} (reads : ℕ → List ℕ → List ℕ → Type 0) (says : Names → List NamedUse → Type 0) (before after : OperatorView) (number : ℕ)
    (line : List ℕ) (r : Result LineReply E) (old new : List ℕ) (read : Option (List ℕ × List ℕ)) (reload : Option Bool)
    → read ≡ read_in line → reload ≡ reload_in line
    → IfOk r (Answers (λ answer. AnswersAsked reads says before number line read reload answer after) old new)
    → IfOk r (Answers (λ answer. AnswersLine reads says before number line answer after) old new)
as_reread reads says before after number line r old new read reload is_read is_reload h =
    subst
    (λ (asked : Option (List ℕ × List ℕ)).
    IfOk r (Answers (λ answer. AnswersAsked reads says before number line asked (reload_in line) answer after) old new))
    is_read
    (subst (λ (asked : Option Bool). IfOk r (Answers (λ answer. AnswersAsked reads says before number line read asked answer after) old new))
    is_reload h)
