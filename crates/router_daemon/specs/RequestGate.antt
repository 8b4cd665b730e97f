-- What a service behind a gate answers. (This project's own choice.)
use Rattle.std.specs.Prelude.{◌≡◌, ◌⊎◌, ℕ, List, []}
use Rattle.line_protocol.specs.Answers.{Answer}
use Rattle.line_protocol.specs.declared.answers.LineReply.TheVariants.{Ended}

-- a line is answered as by the service itself; or the router ends, nothing is answered, and the service stays as it is
abbrev pub AnswersLine : {S : Type 0} → (S → ℕ → List ℕ → Answer → S → Type 0) → S → ℕ → List ℕ → Answer → S → Type 0
AnswersLine answers before number line answer after =
    answers before number line answer after ⊎ ((answer ≡ record { text = []; reply = Ended }) × (after ≡ before))
