-- A look, and an event after it.
use Rattle.std.proofs.Common.{◌≡◌, ℕ, Option, List, Result, IfOk, subst, ap, ◌∙◌, inl, inr}
use Rattle.line_protocol.specs.Answers.{Answer}
use Rattle.line_protocol.specs.declared.answers.LineReply.{LineReply}
use Rattle.netchange_core.specs.declared.event.Event.TheVariants as event
use Rattle.operator_cmds.specs.Replies.{Adds, Answers}
use Rattle.operator_cmds.specs.Stages.{Open, session_in, session_number}
use Rattle.route_history.specs.JournalView.{JournalView}
use Rattle.slot_lock.specs.Calls.{Observed}
use Rattle.slot_lock.specs.Passes.{PassView}
use Rattle.router_operator.specs.Looking.{query_answer}
use Rattle.router_operator.specs.OperatorView.{OperatorView, journal_seen}
use Rattle.router_operator.specs.Operators.{AnswersDown, AnswersEvent, AnswersLook, AnswersStatus, BreaksOff, GrowsByOne, Looks, SeesMore}
use Rattle.operator_cmds.proofs.Answering.{added, answers}
use Rattle.router_operator.specs.declared.looking.Query.TheVariants as query
use Rattle.router_operator.specs.declared.looking.StatusQuery.{StatusQuery}
use Rattle.router_status.specs.Status.{status_view}
use Rattle.router_operator.proofs.Entering.{begins_then, keeps_shares, same_breaks}

module _ {Seer : Type 0} (sees : Seer → ℕ → JournalView → Seer → Type 0) (before : OperatorView) (pass : PassView) (old new : Seer)
    (shares : pass.fragment.shares ≡ before.pass.fragment.shares) (h : Observed sees before.router before.pass old new pass) where
  pub seen : Looks before (record before { pass = pass })
  seen = record {
    found = record { begins = h.begins; legal = h.legal };
    room = h.room;
    on = h.on;
    mine = h.mine;
    only = keeps_shares before pass shares;
  }

  pub seen_breaks : BreaksOff before (record before { pass = pass })
  seen_breaks = record { only = keeps_shares before pass shares; begins = h.begins; mine = inl h.mine }

-- a look that was refused memory breaks off
pub look_breaks : (before after : OperatorView) → Looks before after → BreaksOff before after
look_breaks before after looks = record { only = looks.only; begins = looks.found.begins; mine = inl looks.mine }

-- and so does a line that saw more, or nothing
pub more_breaks : (before after : OperatorView) → SeesMore before after → BreaksOff before after
more_breaks before after (inl same) = same_breaks before after same
more_breaks before after (inr looks) = look_breaks before after looks

-- the answer to a look was added, unless memory was refused
pub looked : {E : Type 0} (look : ℕ → JournalView → Answer) (before after : OperatorView) (r : Result LineReply E) (old new : List ℕ)
    → Looks before after → IfOk r (Adds (look after.pass.fragment.forgot (journal_seen after)) old new)
    → IfOk r (Answers (λ answer. AnswersLook look before answer after) old new)
looked look before after r old new looks h =
    added r (look after.pass.fragment.forgot (journal_seen after)) (λ answer. AnswersLook look before answer after) old new (λ answer e. (looks, e)) h

-- what the router is about was looked at, beside what was known of it
pub status_looked : {E : Type 0} (known : StatusQuery) (number : ℕ) (before after : OperatorView) (r : Result LineReply E) (old new : List ℕ)
    → IfOk r (Answers (λ answer. AnswersLook (query_answer (query.Status known) number) before answer after) old new)
    → IfOk r (Answers (λ answer. AnswersStatus before known.form answer after) old new)
status_looked known number before after r old new h =
    answers r (λ answer. AnswersLook (query_answer (query.Status known) number) before answer after) (λ answer. AnswersStatus before known.form answer after)
    old new (λ answer looks. (status_view known.status, looks)) h

-- a look for the session, and then its Down
pub downs : (node : ℕ) (session : Option ℕ) (before mid after : OperatorView) (answer : Answer) → Looks before mid
    → session ≡ session_in (Open (journal_seen mid)) node → AnswersEvent mid (event.Down (session_number session)) answer after
    → AnswersDown node before answer after
downs node session before mid after answer looks is h =
    (mid, looks, subst (λ (s : Option ℕ). AnswersEvent mid (event.Down (session_number s)) answer after) is h)

-- what broke off after a look
pub breaks_after : (before mid after : OperatorView) → Looks before mid → BreaksOff mid after → BreaksOff before after
breaks_after before mid after looks breaks = record {
  only = record {
    rest = breaks.only.rest ∙ ap (λ (o : OperatorView). record o { pass = after.pass }) looks.only.rest;
    shares = breaks.only.shares ∙ looks.only.shares;
  };
  begins = begins_then before.pass.fragment.seen mid.pass.fragment.seen after.pass.fragment.seen looks.found.begins breaks.begins;
  mine = subst (λ (xs : List ℕ). GrowsByOne xs after.pass.fragment.mine) looks.mine breaks.mine;
}
