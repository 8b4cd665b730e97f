-- An event that a journal entered, and the answer to it.
use Rattle.std.proofs.Common.{◌≡◌, ℕ, ◌+◌, ◌≤◌, ◌==◌, Bool, false, List, [], ◌∷◌, ◌++◌, length}
use Rattle.std.proofs.Common.{Result, IfOk, sym, subst, ap, ◌∙◌, length-append, arith}
use Rattle.std.specs.Prelude.{MatchBool, codes}
use Rattle.std.proofs.lemmas.Bool.Decides.{nat_tests}
use Rattle.line_protocol.specs.Answers.{Answer}
use Rattle.line_protocol.specs.declared.answers.LineReply.{LineReply}
use Rattle.netchange_core.specs.Calls.{opened}
use Rattle.netchange_core.specs.Next.{next}
use Rattle.netchange_core.specs.OpeningView.{OpeningView}
use Rattle.netchange_core.specs.World.{World}
use Rattle.netchange_core.specs.declared.event.Event.{Event}
use Rattle.netchange_core.specs.declared.reply.Reply.{Reply}
use Rattle.route_history.specs.Calls.{IsEntered, entry}
use Rattle.route_history.specs.History.{IsLegal, IsLegalFrom, world_after}
use Rattle.route_history.specs.JournalView.{JournalView}
use Rattle.route_history.specs.declared.entry.Entry.{Entry}
use Rattle.operator_cmds.specs.Replies.{Adds, Answers, refused, reply_answer}
use Rattle.operator_cmds.specs.Script.{AnswersIn, entered, told_of}
use Rattle.operator_cmds.proofs.Answering.{added}

-- the last reply of a legal history is the world's
pub last_reply : (w : World) (es : List Entry) (e : Entry) → IsLegalFrom w (es ++ e ∷ []) → (next (world_after w es) e.event).reply ≡ e.reply
last_reply w [] e h = h.0
last_reply w (x ∷ xs) e h = last_reply (next w x.event).world xs e h.1

journal_is : (j : JournalView) (opening : OpeningView) (limit : ℕ) (es : List Entry) → j.opening ≡ opening → j.limit ≡ limit
    → j.entries ≡ es → j ≡ record { opening = opening; limit = limit; entries = es }
journal_is j opening limit es p q r =
    let by_opening : OpeningView → JournalView = λ o. record { opening = o; limit = j.limit; entries = j.entries } in
    let by_limit : ℕ → JournalView = λ l. record { opening = opening; limit = l; entries = j.entries } in
    let by_entries : List Entry → JournalView = λ all. record { opening = opening; limit = limit; entries = all } in
    ap by_opening p ∙ ap by_limit q ∙ ap by_entries r

not_full : (count limit : ℕ) → count + 1 ≤ limit → (count == limit) ≡ false
not_full count limit h = grind (arith, nat_tests)

module _ (old new : JournalView) (event : Event) (at : ℕ) (reply : Reply)
    (same : (new.opening ≡ old.opening) × (new.limit ≡ old.limit)) (is : IsEntered old new event at reply)
    (legal : IsLegal new.opening new.entries × (length new.entries ≤ new.limit)) where
  room : length old.entries + 1 ≤ old.limit
  room =
      let all = length-append old.entries (entry event reply ∷ []) in
      let count = ap length is.entries in
      let few = legal.1 in
      let limit = same.1 in
      omega (arith, all, count, few, limit)

  told : told_of old event ≡ reply
  told =
      let at_old : IsLegal old.opening new.entries = subst (λ o. IsLegal o new.entries) same.0 legal.0 in
      last_reply (opened old.opening) old.entries (entry event reply) (subst (λ es. IsLegal old.opening es) is.entries at_old)

  answered_in : (answer : Answer) → answer ≡ reply_answer at reply → AnswersIn old event answer new
  answered_in answer e =
      let count = length old.entries in
      let reply_is = told in
      let first : answer ≡ reply_answer count (told_of old event) =
      e ∙ ap (λ (n : ℕ). reply_answer n reply) is.position ∙ ap (λ (r : Reply). reply_answer count r) (sym reply_is) in
      let entries : new.entries ≡ old.entries ++ entry event (told_of old event) ∷ [] =
      is.entries ∙ ap (λ (r : Reply). old.entries ++ entry event r ∷ []) (sym reply_is) in
      let second : new ≡ entered old event (told_of old event) =
      journal_is new old.opening old.limit (old.entries ++ entry event (told_of old event) ∷ []) same.0 same.1 entries in
      subst
      (λ (b : Bool). MatchBool b ((answer ≡ refused (codes "J1") count) × (new ≡ old))
      ((answer ≡ reply_answer count (told_of old event)) × (new ≡ entered old event (told_of old event))))
      (sym (not_full count old.limit room)) (first, second)

  pub answered : {E : Type 0} (r : Result LineReply E) (before after : List ℕ) → IfOk r (Adds (reply_answer at reply) before after)
      → IfOk r (Answers (λ answer. AnswersIn old event answer new) before after)
  answered r before after = added r (reply_answer at reply) (λ answer. AnswersIn old event answer new) before after answered_in
