-- A reader on its way, and where it ends.
use Rattle.std.proofs.Common.{◌≡◌, ◌∙◌, sym, ap, subst, refl, ℕ, ◌+◌, Option, Some, None, List}
use Rattle.std.proofs.Common.{[], ◌∷◌, ◌++◌, append-nil, length, length-append, Ok, Err, arith}
use Rattle.std.specs.Prelude.{All}
use Rattle.std.proofs.lemmas.List.Elements.{All-nil}
use Rattle.netchange_core.specs.declared.message.Message.{Message}
use Rattle.route_history.specs.declared.entry.Entry.{Entry}
use Rattle.route_history.specs.declared.fault.CallFault.{CallFault}
use Rattle.route_history.specs.declared.fault.CallFault.TheVariants as fault
use Rattle.route_history.specs.Calls.{entry}
use Rattle.route_session.specs.declared.ends.Cause.{Cause}
use Rattle.route_session.specs.declared.ends.Cause.TheVariants as cause
use Rattle.route_session.specs.declared.ends.ReadEnd.{ReadEnd}
use Rattle.route_session.specs.declared.link.Got.TheVariants as got
use Rattle.route_session.specs.declared.link.LinkFault.{LinkFault}
use Rattle.route_session.specs.Calls.{IsFresh, StaysSound, receive, stale}
use Rattle.route_session.specs.Links.{Received}
use Rattle.route_session.specs.Reads.{IsReadBy, Reads, Receives}
use Rattle.route_session.specs.LinkTrace.{Rose, LinkTrace, ended_now, grown}
use Rattle.route_session.proofs.Gaining.{IsCalled, fresh_more, gained_none, gained_one, gained_refused, sound_one, zip_more}
use Rattle.route_session.proofs.LinkTrace.{grown_none, grown_more}
use Rattle.slot_lock.specs.declared.answer.Answer.{Answer}
use Rattle.slot_lock.specs.Passes.{Fragment}
use Rattle.slot_lock.specs.Calls.{Answered, Refused}
use Rattle.slot_lock.specs.Passes.{IsPassOf, PassView, RouterView}

-- so many messages were entered so far, and none was lost
pub record IsReading (r : RouterView) (session : ℕ) (old : PassView) (t : LinkTrace) (n : ℕ) (new : PassView) (u : LinkTrace) : Type 0 where
  pub calls : List Entry
  pub reads : Reads session old.fragment t calls [] new.fragment u
  pub entered : length calls ≡ n
  pub fresh : All IsFresh calls
  pub ended : u.ended ≡ t.ended
  pub failures : u.failures ≡ t.failures
  pub sound : StaysSound r old new

pub begins_reading : (r : RouterView) (session : ℕ) (p : PassView) (t : LinkTrace) → IsPassOf r p → IsReading r session p t 0 p t
begins_reading r session p t of = record {
  calls = [];
  reads = record {
    gained = gained_none p.fragment;
    messages = [];
    received = tt;
    handed = grown_none t.handed;
    given = refl;
    is_closed = refl;
  };
  entered = refl;
  fresh = All-nil IsFresh;
  ended = refl;
  failures = refl;
  sound = record { of = of; own = λ x. x; legal = λ x. x };
}

-- the link told something else than messages
told_else : (session : ℕ) (old : Fragment) (t u v : LinkTrace) (calls : List Entry) (p : Fragment) →
    v.handed ≡ u.handed → v.given ≡ u.given → v.closed ≡ u.closed → Reads session old t calls [] p u → Reads session old t calls [] p v
told_else session old t u v calls p handed given is_closed i = record {
  gained = i.gained;
  messages = i.messages;
  received = i.received;
  handed = handed ∙ i.handed;
  given = given ∙ i.given;
  is_closed = is_closed ∙ i.is_closed;
}

pub reads_nothing : (r : RouterView) (session : ℕ) (old : PassView) (t : LinkTrace) (n : ℕ) (p : PassView) (u v : LinkTrace) →
    IsReading r session old t n p u → Received u (Ok got.Nothing) v → IsReading r session old t n p v
reads_nothing r session old t n p u v i g = record {
  calls = i.calls;
  reads = told_else session old.fragment t u v i.calls p.fragment
      (ap (λ (w : LinkTrace). w.handed) g.1) (ap (λ (w : LinkTrace). w.given) g.1) (ap (λ (w : LinkTrace). w.closed) g.1) i.reads;
  entered = i.entered;
  fresh = i.fresh;
  ended = ap (λ (w : LinkTrace). w.ended) g.1 ∙ i.ended;
  failures = ap (λ (w : LinkTrace). w.failures) g.1 ∙ i.failures;
  sound = i.sound;
}

-- the link handed out a message
handed_on : (t u v : LinkTrace) (ms : List Message) (m : Message) → u.handed ≡ grown t.handed (ms ++ []) →
    v.handed ≡ grown u.handed (m ∷ []) → v.handed ≡ grown t.handed (ms ++ m ∷ [])
handed_on t u v ms m a b =
    b ∙ ap (λ h. grown h (m ∷ [])) a ∙ grown_more t.handed (ms ++ []) (m ∷ [])
    ∙ ap (λ (l : List Message). grown t.handed (l ++ m ∷ [])) (append-nil ms)

-- a message was entered
entered_one : (r : RouterView) (session : ℕ) (old : PassView) (t : LinkTrace) (n : ℕ) (p q : PassView) (u v : LinkTrace) (m : Message) (a : Answer)
    (i : IsReading r session old t n p u) → Received u (Ok (got.Message m)) v → Answered r p (receive session m) a q → IsCalled r p q →
    Reads session old.fragment t (i.calls ++ entry (receive session m) a.reply ∷ []) [] q.fragment v
entered_one r session old t n p q u v m a i g h k = record {
  gained = gained_one r old.fragment i.calls p q (receive session m) a i.reads.gained h k;
  messages = i.reads.messages ++ m ∷ [];
  received = zip_more (Receives session) i.calls i.reads.messages (entry (receive session m) a.reply) m i.reads.received refl;
  handed = handed_on t u v i.reads.messages m i.reads.handed (ap (λ (w : LinkTrace). w.handed) g.1)
      ∙ ap (λ (l : List Message). grown t.handed l) (sym (append-nil (i.reads.messages ++ m ∷ [])));
  given = ap (λ (w : LinkTrace). w.given) g.1 ∙ i.reads.given;
  is_closed = ap (λ (w : LinkTrace). w.closed) g.1 ∙ i.reads.is_closed;
}

one_more : (es : List Entry) (e : Entry) (n : ℕ) → length es ≡ n → length (es ++ e ∷ []) ≡ n + 1
one_more es e n h = omega (arith, length-append es (e ∷ []))

pub reads_on : (r : RouterView) (session : ℕ) (old : PassView) (t : LinkTrace) (n : ℕ) (p q : PassView) (u v : LinkTrace) (m : Message) (a : Answer) →
    IsReading r session old t n p u → Received u (Ok (got.Message m)) v → Answered r p (receive session m) a q → IsCalled r p q →
    (a.reply ≡ stale → ⊥) → IsReading r session old t (n + 1) q v
reads_on r session old t n p q u v m a i g h k fresh = record {
  calls = i.calls ++ entry (receive session m) a.reply ∷ [];
  reads = entered_one r session old t n p q u v m a i g h k;
  entered = one_more i.calls (entry (receive session m) a.reply) n i.entered;
  fresh = fresh_more i.calls (entry (receive session m) a.reply) i.fresh fresh;
  ended = ap (λ (w : LinkTrace). w.ended) g.1 ∙ i.ended;
  failures = ap (λ (w : LinkTrace). w.failures) g.1 ∙ i.failures;
  sound = sound_one r old p q (receive session m) a h k;
}

-- the ends
abbrev pub read_end : Cause → ℕ → Option Message → ReadEnd
read_end why n lost = record { cause = why; entered = n; lost = lost }

pub ends_by_turns : (r : RouterView) (session : ℕ) (old : PassView) (t : LinkTrace) (n : ℕ) (p : PassView) (u : LinkTrace) →
    IsReading r session old t n p u → IsReadBy r session old.fragment t (read_end cause.Turns n None) p.fragment u
ends_by_turns r session old t n p u i = record {
  calls = i.calls;
  lost = [];
  reads = i.reads;
  entered = i.entered;
  loses = record { is_told = refl; none = refl };
  in_history = i.fresh;
  at_link = (i.ended, i.failures);
}

pub ends_with_link : (r : RouterView) (session : ℕ) (old : PassView) (t : LinkTrace) (n : ℕ) (p : PassView) (u v : LinkTrace) →
    IsReading r session old t n p u → Received u (Ok got.Ended) v → IsReadBy r session old.fragment t (read_end cause.LinkEnded n None) p.fragment v
ends_with_link r session old t n p u v i g = record {
  calls = i.calls;
  lost = [];
  reads = told_else session old.fragment t u v i.calls p.fragment
      (ap (λ (w : LinkTrace). w.handed) g) (ap (λ (w : LinkTrace). w.given) g) (ap (λ (w : LinkTrace). w.closed) g) i.reads;
  entered = i.entered;
  loses = record { is_told = refl; none = refl };
  in_history = i.fresh;
  at_link = (ap (λ (w : LinkTrace). w.ended) g ∙ ap ended_now i.ended, ap (λ (w : LinkTrace). w.failures) g ∙ i.failures);
}

pub ends_by_failure : (r : RouterView) (session : ℕ) (old : PassView) (t : LinkTrace) (n : ℕ) (p : PassView) (u v : LinkTrace) (f : LinkFault) →
    IsReading r session old t n p u → Received u (Err f) v → IsReadBy r session old.fragment t (read_end cause.LinkFault n None) p.fragment v
ends_by_failure r session old t n p u v f i g = record {
  calls = i.calls;
  lost = [];
  reads = told_else session old.fragment t u v i.calls p.fragment
      (ap (λ (w : LinkTrace). w.handed) g.1.only) (ap (λ (w : LinkTrace). w.given) g.1.only) (ap (λ (w : LinkTrace). w.closed) g.1.only) i.reads;
  entered = i.entered;
  loses = record { is_told = refl; none = refl };
  in_history = i.fresh;
  at_link = (ap (λ (w : LinkTrace). w.ended) g.1.only ∙ i.ended, subst (λ (before : Option ℕ). Rose before v.failures) i.failures g.1.rose);
}

pub ends_stale : (r : RouterView) (session : ℕ) (old : PassView) (t : LinkTrace) (n : ℕ) (p q : PassView) (u v : LinkTrace) (m : Message)
    (a : Answer) →
    IsReading r session old t n p u → Received u (Ok (got.Message m)) v → Answered r p (receive session m) a q → IsCalled r p q →
    a.reply ≡ stale → IsReadBy r session old.fragment t (read_end cause.Stale (n + 1) None) q.fragment v
ends_stale r session old t n p q u v m a i g h k is_stale = record {
  calls = i.calls ++ entry (receive session m) a.reply ∷ [];
  lost = [];
  reads = entered_one r session old t n p q u v m a i g h k;
  entered = one_more i.calls (entry (receive session m) a.reply) n i.entered;
  loses = record { is_told = refl; none = refl };
  in_history = record {
    before = i.calls;
    last = entry (receive session m) a.reply;
    calls_are = refl;
    stale_at_last = is_stale;
    fresh_before = i.fresh;
  };
  at_link = (ap (λ (w : LinkTrace). w.ended) g.1 ∙ i.ended, ap (λ (w : LinkTrace). w.failures) g.1 ∙ i.failures);
}

-- a message was handed out and refused
lost_one : (r : RouterView) (session : ℕ) (old : PassView) (t : LinkTrace) (n : ℕ) (p q : PassView) (u v : LinkTrace) (m : Message) (f : CallFault)
    (i : IsReading r session old t n p u) → Received u (Ok (got.Message m)) v → Refused f r p q → IsCalled r p q →
    Reads session old.fragment t i.calls (m ∷ []) q.fragment v
lost_one r session old t n p q u v m f i g h k = record {
  gained = gained_refused r old.fragment i.calls p q f i.reads.gained h k;
  messages = i.reads.messages;
  received = i.reads.received;
  handed = handed_on t u v i.reads.messages m i.reads.handed (ap (λ (w : LinkTrace). w.handed) g.1);
  given = ap (λ (w : LinkTrace). w.given) g.1 ∙ i.reads.given;
  is_closed = ap (λ (w : LinkTrace). w.closed) g.1 ∙ i.reads.is_closed;
}

-- the cause of a refused call
abbrev pub cause_of : CallFault → Cause
cause_of fault.Full = cause.Full
cause_of fault.Memory = cause.Memory

pub ends_refused : (r : RouterView) (session : ℕ) (old : PassView) (t : LinkTrace) (n : ℕ) (p q : PassView) (u v : LinkTrace) (m : Message)
    (f : CallFault) →
    IsReading r session old t n p u → Received u (Ok (got.Message m)) v → Refused f r p q → IsCalled r p q →
    IsReadBy r session old.fragment t (read_end (cause_of f) n (Some m)) q.fragment v
ends_refused r session old t n p q u v m fault.Full i g h k = record {
  calls = i.calls;
  lost = m ∷ [];
  reads = lost_one r session old t n p q u v m fault.Full i g h k;
  entered = i.entered;
  loses = record { message = m; is_told = refl; alone = refl };
  in_history = (i.fresh, h.full, h.whole);
  at_link = (ap (λ (w : LinkTrace). w.ended) g.1 ∙ i.ended, ap (λ (w : LinkTrace). w.failures) g.1 ∙ i.failures);
}
ends_refused r session old t n p q u v m fault.Memory i g h k = record {
  calls = i.calls;
  lost = m ∷ [];
  reads = lost_one r session old t n p q u v m fault.Memory i g h k;
  entered = i.entered;
  loses = record { message = m; is_told = refl; alone = refl };
  in_history = i.fresh;
  at_link = (ap (λ (w : LinkTrace). w.ended) g.1 ∙ i.ended, ap (λ (w : LinkTrace). w.failures) g.1 ∙ i.failures);
}
