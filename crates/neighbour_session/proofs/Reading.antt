-- A reader that has turns again and again.
use Rattle.std.proofs.Common.{◌≡◌, ◌∙◌, sym, ap, subst, refl, ℕ, List, [], ◌++◌, append_assoc, append-nil, length}
use Rattle.std.specs.Prelude.{All, Bool, Option, true, false}
use Rattle.std.proofs.lemmas.List.Elements.{All-nil}
use Rattle.std.specs.List.{AllZip}
use Rattle.netchange_core.specs.declared.message.Message.{Message}
use Rattle.route_history.specs.declared.entry.Entry.{Entry}
use Rattle.route_session.specs.declared.ends.Cause.{Cause}
use Rattle.route_session.specs.declared.ends.Cause.TheVariants as cause
use Rattle.route_session.specs.declared.ends.ReadEnd.{ReadEnd}
use Rattle.route_session.specs.Calls.{Gained, IsCauseAt, IsCauseIn, IsFresh}
use Rattle.route_session.specs.Reads.{IsReadBy, LosesBy, Receives}
use Rattle.route_session.specs.LinkTrace.{LinkTrace, grown}
use Rattle.message_streams.specs.Views.{ReaderView}
use Rattle.slot_lock.specs.Passes.{Fragment, PassView, RouterView}
use Rattle.neighbour_session.specs.Links.{ReadsLines}
use Rattle.neighbour_session.specs.Reading.{IsReaderOver, IsReaderStopped, ReadsOut, told_by}
use Rattle.neighbour_session.specs.Waiting.{ReadsFor}
use Rattle.neighbour_session.specs.declared.ends.SessionEnd.{SessionEnd}
use Rattle.neighbour_session.specs.declared.ends.SessionEnd.TheVariants as end
use Rattle.neighbour_session.proofs.Gaining.{cause_after, gained_both, gained_none, grown_both, grown_none, told_after, zip_both}

-- each message that the link handed out was entered, and the reader has not ended
pub record HasRead (session : ℕ) (old : Fragment) (t : LinkTrace) (new : Fragment) (u : LinkTrace) : Type 0 where
  pub calls : List Entry
  pub messages : List Message
  pub gained : Gained old calls new
  pub received : AllZip (Receives session) calls messages
  pub handed : u.handed ≡ grown t.handed messages
  pub given : u.given ≡ t.given
  pub is_closed : u.closed ≡ t.closed
  pub fresh : All IsFresh calls
  pub ended : u.ended ≡ t.ended
  pub failures : u.failures ≡ t.failures

pub read_none : (session : ℕ) (p : Fragment) (t : LinkTrace) → HasRead session p t p t
read_none session p t = record {
  calls = [];
  messages = [];
  gained = gained_none p;
  received = tt;
  handed = grown_none t.handed;
  given = refl;
  is_closed = refl;
  fresh = All-nil IsFresh;
  ended = refl;
  failures = refl;
}

-- and what comes last: the whole of it is as one reader's
pub read_last : (r : RouterView) (session : ℕ) (old : Fragment) (t : LinkTrace) (mid : Fragment) (m : LinkTrace) (last : ReadEnd) (new : Fragment) (u : LinkTrace)
    (h : HasRead session old t mid m) (k : IsReadBy r session mid m last new u) →
    IsReadBy r session old t (record { cause = last.cause; entered = length (h.calls ++ k.calls); lost = last.lost }) new u
read_last r session old t mid m last new u h k = record {
  calls = h.calls ++ k.calls;
  lost = k.lost;
  reads = record {
    gained = gained_both old h.calls mid k.calls new h.gained k.reads.gained;
    messages = h.messages ++ k.reads.messages;
    received = zip_both (Receives session) h.calls h.messages k.calls k.reads.messages h.received k.reads.received;
    handed = k.reads.handed ∙ ap (λ o. grown o (k.reads.messages ++ k.lost)) h.handed
        ∙ grown_both t.handed h.messages (k.reads.messages ++ k.lost)
        ∙ ap (grown t.handed) (sym (append_assoc h.messages k.reads.messages k.lost));
    given = k.reads.given ∙ h.given;
    is_closed = k.reads.is_closed ∙ h.is_closed;
  };
  entered = refl;
  loses = k.loses;
  in_history = cause_after last.cause r h.calls k.calls new h.fresh k.in_history;
  at_link = told_after last.cause t m u h.ended h.failures k.at_link;
}

-- one that used up its turns has lost nothing
pub read_on : (r : RouterView) (session : ℕ) (old : Fragment) (t : LinkTrace) (last : ReadEnd) (new : Fragment) (u : LinkTrace) → last.cause ≡ cause.Turns →
    IsReadBy r session old t last new u → HasRead session old t new u
read_on r session old t last new u turns k =
    let none : k.lost ≡ [] = (subst (λ c. LosesBy c last.lost k.lost) turns k.loses).none in
    let same : IsCauseAt cause.Turns t u = subst (λ c. IsCauseAt c t u) turns k.at_link in
    record {
      calls = k.calls;
      messages = k.reads.messages;
      gained = k.reads.gained;
      received = k.reads.received;
      handed = k.reads.handed ∙ ap (λ (l : List Message). grown t.handed (k.reads.messages ++ l)) none
          ∙ ap (grown t.handed) (append-nil k.reads.messages);
      given = k.reads.given;
      is_closed = k.reads.is_closed;
      fresh = subst (λ c. IsCauseIn c r k.calls new) turns k.in_history;
      ended = same.0;
      failures = same.1;
    }

pub reads_on : (r : RouterView) (session : ℕ) (old : Fragment) (t : LinkTrace) (mid : Fragment) (m : LinkTrace) (last : ReadEnd) (new : Fragment) (u : LinkTrace) →
    HasRead session old t mid m → last.cause ≡ cause.Turns → IsReadBy r session mid m last new u → HasRead session old t new u
reads_on r session old t mid m last new u h turns k =
    read_on r session old t (record { cause = last.cause; entered = length (h.calls ++ k.calls); lost = last.lost }) new u turns
    (read_last r session old t mid m last new u h k)

-- a reader that ended by itself, or because the session is not there
stopped_over : (waits : Bool) (may : Bool → Type 0) (c : Cause) (over : Option SessionEnd) (why : SessionEnd) → IsReaderStopped waits c over why →
    (waits ≡ true → c ≡ cause.Full → may false) → IsReaderOver waits may c over why
stopped_over waits may cause.Turns over why h absent = absurd h
stopped_over waits may cause.LinkEnded over why h absent = h
stopped_over waits may cause.LinkFault over why h absent = h
stopped_over waits may cause.Stale over why h absent = h
stopped_over waits may cause.Full over why h absent = (h, λ w. absent w refl)
stopped_over waits may cause.Memory over why h absent = h

stopped : (waits : Bool) (may : Bool → Type 0) (r : RouterView) (session : ℕ) (old : PassView) (input : ReaderView) (mid : PassView) (m : LinkTrace)
    (last : ReadEnd) (why : SessionEnd) (new : PassView) (u : LinkTrace) (over : Option SessionEnd) (left : ReaderView) →
    HasRead session old.fragment (told_by input) mid.fragment m →
    IsReadBy r session mid.fragment m last new.fragment u → ReadsLines input u.handed over left → IsReaderStopped waits last.cause over why →
    (waits ≡ true → last.cause ≡ cause.Full → may false) → ReadsOut waits may r session old input why new left
stopped waits may r session old input mid m last why new u over left h k lines stops absent = record {
  end = record { cause = last.cause; entered = length (h.calls ++ k.calls); lost = last.lost };
  last = u;
  read = read_last r session old.fragment (told_by input) mid.fragment m last new.fragment u h k;
  over = over;
  lines = lines;
  because = stopped_over waits may last.cause over why stops absent;
}

pub reads_stopped : (waits : Bool) (may : Bool → Type 0) (r : RouterView) (session : ℕ) (old : PassView) (input : ReaderView) (mid : PassView)
    (m : LinkTrace) (c : Cause) (why : SessionEnd) (new : PassView) (u : LinkTrace) (over : Option SessionEnd) (left : ReaderView) →
    HasRead session old.fragment (told_by input) mid.fragment m → ReadsFor c r session mid.fragment m new.fragment u →
    ReadsLines input u.handed over left → IsReaderStopped waits c over why → (waits ≡ true → c ≡ cause.Full → may false) →
    ReadsOut waits may r session old input why new left
reads_stopped waits may r session old input mid m c why new u over left h k lines stops absent =
    stopped waits may r session old input mid m (record { cause = c; entered = k.0; lost = k.1 }) why new u over left h k.2 lines stops absent

pub reads_absent : (waits : Bool) (may : Bool → Type 0) (r : RouterView) (session : ℕ) (old : PassView) (input : ReaderView) (mid : PassView)
    (m : LinkTrace) (c : Cause) (new : PassView) (u : LinkTrace) (over : Option SessionEnd) (left : ReaderView) → HasRead session old.fragment (told_by input) mid.fragment m →
    ReadsFor c r session mid.fragment m new.fragment u → ReadsLines input u.handed over left → c ≡ cause.Turns → may false →
    ReadsOut waits may r session old input end.Closed new left
reads_absent waits may r session old input mid m c new u over left h k lines turns absent = record {
  end = record { cause = c; entered = length (h.calls ++ k.2.calls); lost = k.1 };
  last = u;
  read = read_last r session old.fragment (told_by input) mid.fragment m (record { cause = c; entered = k.0; lost = k.1 }) new.fragment u h k.2;
  over = over;
  lines = lines;
  because = subst (λ x. IsReaderOver waits may x over end.Closed) (sym turns) (refl, absent);
}
