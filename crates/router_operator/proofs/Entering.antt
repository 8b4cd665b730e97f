-- An event that the router entered or did not, and what is answered.
use Rattle.std.proofs.Common.{◌≡◌, ℕ, Bool, Option, Result, Ok, Err, IfOk, IfErr, List, [], ◌∷◌, ◌++◌, length}
use Rattle.std.proofs.Common.{refl, sym, subst, ap, ◌∙◌, append_assoc, append-nil, inl, inr}
use Rattle.std.specs.Prelude.{codes}
use Rattle.line_protocol.specs.Answers.{Answer}
use Rattle.netchange_core.specs.Calls.{opened}
use Rattle.netchange_core.specs.Next.{next}
use Rattle.netchange_core.specs.World.{World}
use Rattle.netchange_core.specs.declared.event.Event.{Event}
use Rattle.netchange_core.specs.declared.reply.Reply.{Reply}
use Rattle.operator_cmds.specs.Replies.{refused, reply_answer}
use Rattle.operator_cmds.specs.Script.{told_of}
use Rattle.operator_cmds.proofs.Entering.{last_reply}
use Rattle.route_history.specs.Beginning.{Begins}
use Rattle.route_history.specs.Calls.{entry}
use Rattle.route_history.specs.History.{IsLegal, IsLegalFrom}
use Rattle.route_history.specs.declared.entry.Entry.{Entry}
use Rattle.route_history.specs.declared.fault.CallFault.{CallFault}
use Rattle.route_history.specs.declared.fault.CallFault.TheVariants as call_fault
use Rattle.slot_lock.specs.Calls.{Answered, IsAtLimit, Refused, pass_with_failed_tries}
use Rattle.slot_lock.specs.Passes.{PassView, RouterView}
use Rattle.slot_lock.specs.declared.answer.Answer.{Answer as CallAnswer}
use Rattle.router_operator.specs.Looking.{AnswersCall}
use Rattle.router_operator.specs.OperatorView.{IsAt, Names, OperatorView, journal_with}
use Rattle.router_operator.specs.Operators.{AnswersEvent, BreaksOff, Enters, OnlyPass}
use Rattle.router_operator.specs.Telling.{IsNotified, exported_by}

-- what stands before the last entry of a legal history is legal
legal_front : (w : World) (es more : List Entry) → IsLegalFrom w (es ++ more) → IsLegalFrom w es
legal_front w [] more h = tt
legal_front w (x ∷ xs) more h = (h.0, legal_front (next w x.event).world xs more h.1)

-- what begins a list begins the longer one
pub begins_more : {A : Type 0} (xs ys more zs : List A) → Begins xs ys → zs ≡ ys ++ more → Begins xs zs
begins_more xs ys more zs b e = record {
  rest = b.rest ++ more;
  is = e ∙ ap (λ l. l ++ more) b.is ∙ append_assoc xs b.rest more;
}

pub begins_same : {A : Type 0} (xs ys : List A) → ys ≡ xs → Begins xs ys
begins_same xs ys e = record { rest = []; is = e ∙ sym (append-nil xs) }

pub begins_then : {A : Type 0} (xs ys zs : List A) → Begins xs ys → Begins ys zs → Begins xs zs
begins_then xs ys zs b c = begins_more xs ys c.rest zs b c.is

-- the pass alone is another, and has as many shares
pub keeps_shares : (before : OperatorView) (pass : PassView) → pass.fragment.shares ≡ before.pass.fragment.shares
    → OnlyPass before (record before { pass = pass })
keeps_shares before pass e = record { rest = refl; shares = e }

module _ (before : OperatorView) (happened : Event) (a : CallAnswer) (pass : PassView)
    (shares : pass.fragment.shares ≡ before.pass.fragment.shares) (h : Answered before.router before.pass happened a pass) where
  legal : IsLegal before.router.opening (h.log ++ entry happened a.reply ∷ [])
  legal = subst (λ (es : List Entry). IsLegal before.router.opening es) h.seen h.legal

  reply_is : told_of (journal_with before.router h.log) happened ≡ a.reply
  reply_is = last_reply (opened before.router.opening) h.log (entry happened a.reply) legal

  enters : (answer : Answer) → answer ≡ reply_answer a.at a.reply → Enters before h.log happened answer (record before { pass = pass })
  enters answer e =
      record {
        answers = e ∙ ap (λ (n : ℕ). reply_answer n a.reply) h.position ∙ ap (λ (r : Reply). reply_answer (length h.log) r) (sym reply_is);
        seen = ap (λ (es : List Entry). journal_with before.router es)
            (h.seen ∙ ap (λ (r : Reply). h.log ++ entry happened r ∷ []) (sym reply_is));
        mine = h.mine ∙ ap (λ (n : ℕ). before.pass.fragment.mine ++ n ∷ []) h.position;
      }

  pub entered_event : (answer : Answer) → answer ≡ reply_answer a.at a.reply → AnswersEvent before happened answer (record before { pass = pass })
  entered_event answer e = record {
    log = h.log;
    found = record { begins = h.begins; legal = legal_front (opened before.router.opening) h.log (entry happened a.reply ∷ []) legal };
    does = inl (enters answer e);
    only = keeps_shares before pass shares;
  }

  pub entered_breaks : BreaksOff before (record before { pass = pass })
  entered_breaks = record {
    only = keeps_shares before pass shares;
    begins = begins_more before.pass.fragment.seen h.log (entry happened a.reply ∷ []) pass.fragment.seen h.begins h.seen;
    mine = inr (a.at, h.mine);
  }

module _ (before : OperatorView) (happened : Event) (pass : PassView) (shares : pass.fragment.shares ≡ before.pass.fragment.shares)
    (h : IsAtLimit before.router before.pass pass) where
  pub full_event : (answer : Answer) → answer ≡ refused (codes "J1") before.router.limit
      → AnswersEvent before happened answer (record before { pass = pass })
  full_event answer e = record {
    log = pass.fragment.seen;
    found = record { begins = h.begins; legal = h.legal };
    does = inr (record {
      full = h.full;
      whole = h.whole;
      answers = e;
      seen = refl;
      mine = h.mine;
    });
    only = keeps_shares before pass shares;
  }

  pub full_breaks : BreaksOff before (record before { pass = pass })
  full_breaks = record { only = keeps_shares before pass shares; begins = h.begins; mine = inl h.mine }

-- a call that was refused memory
pub failed_tries_break : (before : OperatorView) (pass : PassView) (n : ℕ) → pass ≡ pass_with_failed_tries n before.pass
    → BreaksOff before (record before { pass = pass })
failed_tries_break before pass n e = record {
  only = keeps_shares before pass (ap (λ (p : PassView). p.fragment.shares) e);
  begins = begins_same before.pass.fragment.seen pass.fragment.seen (ap (λ (p : PassView). p.fragment.seen) e);
  mine = inl (ap (λ (p : PassView). p.fragment.mine) e);
}

-- nothing changed
pub same_breaks : (before after : OperatorView) → after ≡ before → BreaksOff before after
same_breaks before after e =
    subst (λ (o : OperatorView). BreaksOff before o) (sym e)
    (record {
      only = keeps_shares before before.pass refl;
      begins = begins_same before.pass.fragment.seen before.pass.fragment.seen refl;
      mine = inl refl;
    })

-- what became of a call, and the answer to it
module _ (before : OperatorView) (happened : Event) (pass : PassView) (shares : pass.fragment.shares ≡ before.pass.fragment.shares) where
  by_call : (r : Result CallAnswer CallFault) → IfOk r (λ a. Answered before.router before.pass happened a pass)
      → IfErr r (λ f. Refused f before.router before.pass pass) → (answer : Answer) → AnswersCall before.router.limit r answer
      → AnswersEvent before happened answer (record before { pass = pass })
  by_call (Ok a) good bad answer h = entered_event before happened a pass shares good answer h
  by_call (Err call_fault.Full) good bad answer h = full_event before happened pass shares bad answer h
  by_call (Err call_fault.Memory) good bad answer h = absurd h

  breaks_call : (r : Result CallAnswer CallFault) → IfOk r (λ a. Answered before.router before.pass happened a pass)
      → IfErr r (λ f. Refused f before.router before.pass pass) → BreaksOff before (record before { pass = pass })
  breaks_call (Ok a) good bad = entered_breaks before happened a pass shares good
  breaks_call (Err call_fault.Full) good bad = full_breaks before happened pass shares bad
  breaks_call (Err call_fault.Memory) good bad = failed_tries_break before pass bad.0 bad.1

-- who listens was told of what was entered
told_by : (is_notified : Option ℕ → CallAnswer → Type 0) (r : RouterView) (old new : PassView) (happened : Event) (called : Result CallAnswer CallFault) →
    IfOk called (λ a. Answered r old happened a new) → IfErr called (λ f. Refused f r old new) →
    IfOk called (λ a. is_notified (exported_by happened) a) → IsNotified is_notified r old happened new
told_by is_notified r old new happened (Ok a) good bad notified = inr (a, good, notified)
told_by is_notified r old new happened (Err call_fault.Full) good bad notified = inl bad.mine
told_by is_notified r old new happened (Err call_fault.Memory) good bad notified = inl (ap (λ (p : PassView). p.fragment.mine) bad.1)

-- the same of an operator whose fields are these; `old` is how they were
module _ (old : OperatorView) (router : RouterView) (was pass : PassView) (names : Names) (links : List ℕ) (quit : Bool) (size limit : ℕ)
    (is : record { router = router; pass = was; names = names; links = links; has_quit = quit } ≡ old) (at : IsAt router was size limit)
    (happened : Event) (r : Result CallAnswer CallFault) (shares : pass.fragment.shares ≡ was.fragment.shares)
    (good : IfOk r (λ a. Answered router was happened a pass)) (bad : IfErr r (λ f. Refused f router was pass)) where
  abbrev start : OperatorView
  start = record { router = router; pass = was; names = names; links = links; has_quit = quit }

  pub call_answers : (answer : Answer) → AnswersCall limit r answer → AnswersEvent old happened answer (record start { pass = pass })
  call_answers answer h =
      subst (λ (o : OperatorView). AnswersEvent o happened answer (record start { pass = pass })) is
      (by_call start happened pass shares r good bad answer (subst (λ (n : ℕ). AnswersCall n r answer) at.room h))

  pub call_breaks : BreaksOff old (record start { pass = pass })
  call_breaks = subst (λ (o : OperatorView). BreaksOff o (record start { pass = pass })) is (breaks_call start happened pass shares r good bad)

  pub call_told : (is_notified : Option ℕ → CallAnswer → Type 0) (exported : Option ℕ) → exported ≡ exported_by happened →
      IfOk r (λ a. is_notified exported a) → IsNotified is_notified old.router old.pass happened pass
  call_told is_notified exported by notified =
      subst (λ (o : OperatorView). IsNotified is_notified o.router o.pass happened pass) is
      (told_by is_notified router was pass happened r good bad (subst (λ node. IfOk r (λ a. is_notified node a)) by notified))
