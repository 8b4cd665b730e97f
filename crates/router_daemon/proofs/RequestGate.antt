-- A service behind a gate answers as it does itself, or not at all.
use Rattle.std.proofs.Common.{◌≡◌, ◌∙◌, ℕ, List, [], ◌++◌, Result, Ok, Err, IfOk, append-nil, sym, inl, inr, refl}
use Rattle.line_protocol.specs.Answers.{Answer}
use Rattle.line_protocol.specs.declared.answers.LineReply.{LineReply}
use Rattle.line_protocol.specs.declared.answers.LineReply.TheVariants.{Ended}
use Rattle.router_daemon.specs.RequestGate.{AnswersLine}

module _ {S : Type 0} (answers : S → ℕ → List ℕ → Answer → S → Type 0) (before after : S) (number : ℕ) (line old new : List ℕ) where
  pub as_itself : {E : Type 0} (r : Result LineReply E)
      → IfOk r (λ reply. (text : List ℕ) × (new ≡ old ++ text) × answers before number line (record { text = text; reply = reply }) after)
      → IfOk r (λ reply. (text : List ℕ) × (new ≡ old ++ text) × AnswersLine answers before number line (record { text = text; reply = reply }) after)
  as_itself (Ok reply) h = (h.0, h.1, inl h.2)
  as_itself (Err why) h = tt

  pub as_over : after ≡ before → new ≡ old
      → (text : List ℕ) × (new ≡ old ++ text) × AnswersLine answers before number line (record { text = text; reply = Ended }) after
  as_over same e = ([], e ∙ sym (append-nil old), inr (refl, same))
