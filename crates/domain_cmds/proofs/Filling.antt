-- Filters of names that fit domains of a size.
use Rattle.std.proofs.Common.{◌≡◌, ℕ, Bool, true, false, List, Option, Some, Result, Ok, Err, IfOk, IfSome, if◌then◌else◌, inl, inr, subst, sym}
use Rattle.std.specs.Prelude.{OnErr}
use Rattle.std.specs.Str.{bytes_eq}
use Rattle.filter_code.specs.CodeView.{CodeView}
use Rattle.filter_source.specs.declared.refusal.Refusal.{Refusal}
use Rattle.filter_verifier.specs.VerifiedView.{VerifiedView}
use Rattle.line_protocol.specs.Answers.{Answer}
use Rattle.line_protocol.specs.declared.answers.LineReply.{LineReply}
use Rattle.operator_cmds.specs.Replies.{Answers}
use Rattle.operator_cmds.specs.Script.{AnswersSource}
use Rattle.domain_cmds.specs.State.{Named, filter_named}

-- all filters that have a name fit domains of this size
abbrev pub AllFit : ℕ → (List ℕ → Option VerifiedView) → Type 0
AllFit size filters = (name : List ℕ) → IfSome (filters name) (λ f. f.size ≡ size)

module _ (Gives : CodeView → Type 0) (Lacks : Refusal → Type 0) (size number : ℕ) (name : List ℕ) (m n : Named)
    (before : AllFit size (filter_named m)) where
  -- one more that fits, or none
  pub answered_fit : (answer : Answer) → AnswersSource Gives Lacks size number name (filter_named m) answer (filter_named n)
      → AllFit size (filter_named n)
  answered_fit answer (inl (filter, good, (told, gets))) other =
      subst (λ (o : Option VerifiedView). IfSome o (λ f. f.size ≡ size)) (sym (gets other)) (split (bytes_eq name other))
    where
      split : (b : Bool) → IfSome (if b then Some filter else filter_named m other) (λ f. f.size ≡ size)
      split true = good.size_is
      split false = before other
  answered_fit answer (inr (why, bad, (told, same))) other =
      subst (λ (o : Option VerifiedView). IfSome o (λ f. f.size ≡ size)) (sym (same other)) (before other)

  -- whatever becomes of a source, all filters still fit
  pub still_fit : {E : Type 0} (done : Result LineReply E) (old new : List ℕ)
      → IfOk done (Answers (λ answer. AnswersSource Gives Lacks size number name (filter_named m) answer (filter_named n)) old new)
      → OnErr done (n ≡ m) → AllFit size (filter_named n)
  still_fit (Ok reply) old new h left = answered_fit (record { text = h.0; reply = reply }) h.2
  still_fit (Err e) old new h left = subst (λ (es : Named). AllFit size (filter_named es)) (sym left) before
