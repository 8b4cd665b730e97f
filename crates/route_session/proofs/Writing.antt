-- A writer on its way, and where it ends.
use Rattle.std.proofs.Common.{◌≡◌, ◌∙◌, sym, ap, subst, refl, ℕ, ◌+◌, ◌-◌, ◌≤◌, Option, List, [], ◌∷◌, ◌++◌}
use Rattle.std.proofs.Common.{append_assoc, append-nil, length, length-append, Ok, Err, ◌<◌, arith}
use Rattle.std.specs.Prelude.{All, Bool, Some, drop, false, flat_map, slice_get, slice_index_or, true}
use Rattle.std.proofs.lemmas.Grind.{flat_map-append}
use Rattle.std.proofs.lemmas.List.{get_or_push}
use Rattle.std.proofs.lemmas.List.Elements.{All-nil, All-cons, All-append}
use Rattle.netchange_core.specs.declared.message.Message.{Message}
use Rattle.netchange_core.specs.Calls.{carried}
use Rattle.netchange_core.specs.OpeningView.{OpeningView}
use Rattle.route_history.specs.declared.entry.Entry.{Entry}
use Rattle.route_history.specs.declared.fault.CallFault.{CallFault}
use Rattle.route_history.specs.declared.fault.CallFault.TheVariants as fault
use Rattle.route_history.specs.Calls.{entry}
use Rattle.route_history.specs.History.{IsLegal}
use Rattle.route_history.specs.Laws.{IsWithinTake}
use Rattle.route_session.specs.declared.ends.Cause.{Cause}
use Rattle.route_session.specs.declared.ends.Cause.TheVariants as cause
use Rattle.route_session.specs.declared.ends.WriteEnd.{WriteEnd}
use Rattle.route_session.specs.Calls.{IsFresh, StaysSound, stale, take}
use Rattle.route_session.specs.declared.link.LinkFault.{LinkFault}
use Rattle.route_session.specs.Links.{Sent}
use Rattle.route_session.specs.LinkTrace.{Rose, LinkTrace, grown, refuse, refuse_first}
use Rattle.route_session.specs.Writes.{Hands, LeavesOut, Takes, Writes, carried_by, told_by, messages_sent}
use Rattle.route_session.proofs.Gaining.{IsCalled, fresh_more, gained_none, gained_one, gained_refused, sound_one}
use Rattle.route_session.proofs.LinkTrace.{grown_none, grown_more}
use Rattle.slot_lock.specs.declared.answer.Answer.{Answer}
use Rattle.slot_lock.specs.Calls.{Answered, Refused}
use Rattle.slot_lock.specs.Passes.{IsPassOf, PassView, RouterView}

-- of nothing nothing is told
told_none : (b : Bool) → messages_sent b [] ≡ []
told_none false = refl
told_none true = refl

-- so many messages were accepted so far, so many were left out, and none is left
pub record IsWriting (b : Bool) (r : RouterView) (session : ℕ) (old : PassView) (t : LinkTrace) (n k : ℕ) (new : PassView) (u : LinkTrace) : Type 0 where
  pub calls : List Entry
  pub accepted : List Message
  pub writes : Writes b session old.fragment t calls accepted [] new.fragment u
  pub sent : length accepted ≡ n
  pub counted : k + n ≡ length (flat_map carried_by calls)
  pub fresh : All IsFresh calls
  pub ended : u.ended ≡ t.ended
  pub failures : u.failures ≡ t.failures
  pub sound : StaysSound r old new

pub begins_writing : (b : Bool) (r : RouterView) (session : ℕ) (p : PassView) (t : LinkTrace) → IsPassOf r p → IsWriting b r session p t 0 0 p t
begins_writing b r session p t of = record {
  calls = [];
  accepted = [];
  writes = record {
    gained = gained_none p.fragment;
    takes = All-nil (Takes session);
    taken = refl;
    given = grown_none t.given;
    refused = refl;
    handed = refl;
    is_closed = refl;
  };
  sent = refl;
  counted = refl;
  fresh = All-nil IsFresh;
  ended = refl;
  failures = refl;
  sound = record { of = of; own = λ x. x; legal = λ x. x };
}

-- what was taken with one reply more
taken_more : (b : Bool) (calls : List Entry) (e : Entry) (accepted : List Message) → flat_map (told_by b) calls ≡ accepted ++ [] →
    flat_map (told_by b) (calls ++ e ∷ []) ≡ accepted ++ told_by b e
taken_more b calls e accepted h =
    flat_map-append (told_by b) calls (e ∷ [])
    ∙ ap (λ (l : List Message). flat_map (told_by b) calls ++ l) (append-nil (told_by b e))
    ∙ ap (λ (l : List Message). l ++ told_by b e) (h ∙ append-nil accepted)

-- and how many messages that is: so many of the reply were left out, and so many told, of which so many are left unsent
count_more : (calls : List Entry) (e : Entry) (k n dropped told unsent : ℕ) → k + n ≡ length (flat_map carried_by calls) →
    dropped + told ≡ length (carried_by e) → unsent ≤ told →
    k + dropped + (n + (told - unsent) + unsent) ≡ length (flat_map carried_by (calls ++ e ∷ []))
count_more calls e k n dropped told unsent before now within =
    let all : length (flat_map carried_by (calls ++ e ∷ [])) ≡ length (flat_map carried_by calls) + length (carried_by e) =
    ap length (flat_map-append carried_by calls (e ∷ [])
    ∙ ap (λ (l : List Message). flat_map carried_by calls ++ l) (append-nil (carried_by e)))
    ∙ length-append (flat_map carried_by calls) (carried_by e) in
    omega (arith, before, now, within, all)

-- messages were taken, and given to the link as far as it accepted them
taken_one : (b : Bool) (r : RouterView) (session : ℕ) (old : PassView) (t : LinkTrace) (n k : ℕ) (p q : PassView) (u v : LinkTrace) (a : Answer)
    (unsent : List Message)
    (i : IsWriting b r session old t n k p u) → Answered r p (take session) a q → IsCalled r p q →
    (h : Hands u (messages_sent b (carried a.reply)) unsent v) →
    Writes b session old.fragment t (i.calls ++ entry (take session) a.reply ∷ []) (i.accepted ++ h.accepted) unsent q.fragment v
taken_one b r session old t n k p q u v a unsent i answered is_called h = record {
  gained = gained_one r old.fragment i.calls p q (take session) a i.writes.gained answered is_called;
  takes = All-append (Takes session) i.calls (entry (take session) a.reply ∷ []) i.writes.takes
      (All-cons (Takes session) (entry (take session) a.reply) [] refl (All-nil (Takes session)));
  taken = taken_more b i.calls (entry (take session) a.reply) i.accepted i.writes.taken
      ∙ ap (λ (l : List Message). i.accepted ++ l) h.in_order ∙ sym (append_assoc i.accepted h.accepted unsent);
  given = h.given ∙ ap (λ (o : Option (List Message)). grown o h.accepted) i.writes.given ∙ grown_more t.given i.accepted h.accepted;
  refused = h.refused ∙ ap (λ (o : Option (Option Message)). refuse_first o unsent) i.writes.refused;
  handed = h.handed ∙ i.writes.handed;
  is_closed = h.is_closed ∙ i.writes.is_closed;
}

-- how many it accepted so far
counted : (accepted more messages unsent : List Message) (n : ℕ) → length accepted ≡ n → messages ≡ more ++ unsent →
    length (accepted ++ more) ≡ n + (length messages - length unsent)
counted accepted more messages unsent n h e =
    let lengths : length messages ≡ length more + length unsent = ap length e ∙ length-append more unsent in
    omega (arith, length-append accepted more)

-- what is left is no more than there was
left_within : (u v : LinkTrace) (messages unsent : List Message) → Hands u messages unsent v → length unsent ≤ length messages
left_within u v messages unsent h =
    let lengths : length messages ≡ length h.accepted + length unsent = ap length h.in_order ∙ length-append h.accepted unsent in
    omega (arith, lengths)

pub writes_on : (b : Bool) (r : RouterView) (session : ℕ) (old : PassView) (t : LinkTrace) (n k : ℕ) (p q : PassView) (u v : LinkTrace) (a : Answer)
    (unsent : List Message) (dropped : ℕ) →
    IsWriting b r session old t n k p u → Answered r p (take session) a q → IsCalled r p q → (a.reply ≡ stale → ⊥) →
    dropped + length (messages_sent b (carried a.reply)) ≡ length (carried a.reply) →
    Hands u (messages_sent b (carried a.reply)) unsent v → unsent ≡ [] →
    IsWriting b r session old t (n + (length (messages_sent b (carried a.reply)) - length unsent)) (k + dropped) q v
writes_on b r session old t n k p q u v a unsent dropped i answered is_called fresh split h none =
    let nothing : length unsent ≡ 0 = ap length none in
    let all = count_more i.calls (entry (take session) a.reply) k n dropped (length (messages_sent b (carried a.reply))) (length unsent) i.counted
    split (left_within u v (messages_sent b (carried a.reply)) unsent h) in
    record {
      calls = i.calls ++ entry (take session) a.reply ∷ [];
      accepted = i.accepted ++ h.accepted;
      writes = subst
          (λ (l : List Message). Writes b session old.fragment t (i.calls ++ entry (take session) a.reply ∷ [])
          (i.accepted ++ h.accepted) l q.fragment v) none
          (taken_one b r session old t n k p q u v a unsent i answered is_called h);
      sent = counted i.accepted h.accepted (messages_sent b (carried a.reply)) unsent n i.sent h.in_order;
      counted = omega (arith, all, nothing);
      fresh = fresh_more i.calls (entry (take session) a.reply) i.fresh fresh;
      ended = h.ended ∙ i.ended;
      failures = h.sent_all none ∙ i.failures;
      sound = sound_one r old p q (take session) a answered is_called;
    }

-- the ends
abbrev pub write_end : Cause → ℕ → List Message → WriteEnd
write_end why n unsent = record { cause = why; sent = n; unsent = unsent }

-- nothing is left unsent
none_unsent : (b : Bool) (r : RouterView) (session : ℕ) (old : PassView) (t : LinkTrace) (n k : ℕ) (p : PassView) (u : LinkTrace)
    (i : IsWriting b r session old t n k p u) → k + (n + 0) ≡ length (flat_map carried_by i.calls)
none_unsent b r session old t n k p u i = omega (arith, i.counted)

pub ends_by_turns : (b : Bool) (r : RouterView) (session : ℕ) (old : PassView) (t : LinkTrace) (n k : ℕ) (p : PassView) (u : LinkTrace) →
    IsWriting b r session old t n k p u → LeavesOut b r session old.fragment t (write_end cause.Turns n []) k p.fragment u
ends_by_turns b r session old t n k p u i = record {
  written = record {
    calls = i.calls;
    accepted = i.accepted;
    writes = i.writes;
    sent = i.sent;
    leaves = refl;
    in_history = i.fresh;
    at_link = (i.ended, i.failures);
  };
  counted = none_unsent b r session old t n k p u i;
}

pub ends_by_failure : (b : Bool) (r : RouterView) (session : ℕ) (old : PassView) (t : LinkTrace) (n k : ℕ) (p q : PassView) (u v : LinkTrace) (a : Answer)
    (unsent : List Message) (dropped : ℕ) →
    IsWriting b r session old t n k p u → Answered r p (take session) a q → IsCalled r p q → (a.reply ≡ stale → ⊥) →
    dropped + length (messages_sent b (carried a.reply)) ≡ length (carried a.reply) →
    Hands u (messages_sent b (carried a.reply)) unsent v → (unsent ≡ [] → ⊥) →
    LeavesOut b r session old.fragment t (write_end cause.LinkFault (n + (length (messages_sent b (carried a.reply)) - length unsent)) unsent) (k + dropped)
    q.fragment v
ends_by_failure b r session old t n k p q u v a unsent dropped i answered is_called fresh split h some = record {
  written = record {
    calls = i.calls ++ entry (take session) a.reply ∷ [];
    accepted = i.accepted ++ h.accepted;
    writes = taken_one b r session old t n k p q u v a unsent i answered is_called h;
    sent = counted i.accepted h.accepted (messages_sent b (carried a.reply)) unsent n i.sent h.in_order;
    leaves = some;
    in_history = fresh_more i.calls (entry (take session) a.reply) i.fresh fresh;
    at_link = (h.ended ∙ i.ended, subst (λ (before : Option ℕ). Rose before v.failures) i.failures (h.failed some));
  };
  counted = count_more i.calls (entry (take session) a.reply) k n dropped (length (messages_sent b (carried a.reply))) (length unsent) i.counted
      split (left_within u v (messages_sent b (carried a.reply)) unsent h);
}

-- nothing is given to the link
hands_none : (u : LinkTrace) (messages : List Message) → messages ≡ [] → Hands u messages [] u
hands_none u messages none = record {
  accepted = [];
  in_order = none;
  given = grown_none u.given;
  refused = refl;
  handed = refl;
  is_closed = refl;
  ended = refl;
  sent_all = λ e. refl;
  failed = λ some. absurd (some refl);
}

pub ends_stale : (b : Bool) (r : RouterView) (session : ℕ) (old : PassView) (t : LinkTrace) (n k : ℕ) (p q : PassView) (u : LinkTrace) (a : Answer) →
    IsWriting b r session old t n k p u → Answered r p (take session) a q → IsCalled r p q → a.reply ≡ stale →
    LeavesOut b r session old.fragment t (write_end cause.Stale n []) k q.fragment u
unfolding hands_none
ends_stale b r session old t n k p q u a i answered is_called is_stale =
    let nothing : carried a.reply ≡ [] = ap carried is_stale in
    let told : messages_sent b (carried a.reply) ≡ [] = ap (messages_sent b) nothing ∙ told_none b in
    let all = count_more i.calls (entry (take session) a.reply) k n 0 0 0 i.counted (sym (ap length nothing)) (omega arith) in
    record {
      written = record {
        calls = i.calls ++ entry (take session) a.reply ∷ [];
        accepted = i.accepted ++ [];
        writes = taken_one b r session old t n k p q u u a [] i answered is_called (hands_none u (messages_sent b (carried a.reply)) told);
        sent = ap length (append-nil i.accepted) ∙ i.sent;
        leaves = refl;
        in_history = record {
          before = i.calls;
          last = entry (take session) a.reply;
          calls_are = refl;
          stale_at_last = is_stale;
          fresh_before = i.fresh;
        };
        at_link = (i.ended, i.failures);
      };
      counted = omega (arith, all);
    }

-- a call was refused, which gains nothing
refused_one : (b : Bool) (r : RouterView) (session : ℕ) (old : PassView) (t : LinkTrace) (n k : ℕ) (p q : PassView) (u : LinkTrace) (f : CallFault)
    (i : IsWriting b r session old t n k p u) → Refused f r p q → IsCalled r p q →
    Writes b session old.fragment t i.calls i.accepted [] q.fragment u
refused_one b r session old t n k p q u f i h is_called = record {
  gained = gained_refused r old.fragment i.calls p q f i.writes.gained h is_called;
  takes = i.writes.takes;
  taken = i.writes.taken;
  given = i.writes.given;
  refused = i.writes.refused;
  handed = i.writes.handed;
  is_closed = i.writes.is_closed;
}

pub ends_full : (b : Bool) (r : RouterView) (session : ℕ) (old : PassView) (t : LinkTrace) (n k : ℕ) (p q : PassView) (u : LinkTrace) →
    IsWriting b r session old t n k p u → Refused fault.Full r p q → IsCalled r p q →
    LeavesOut b r session old.fragment t (write_end cause.Full n []) k q.fragment u
ends_full b r session old t n k p q u i h is_called = record {
  written = record {
    calls = i.calls;
    accepted = i.accepted;
    writes = refused_one b r session old t n k p q u fault.Full i h is_called;
    sent = i.sent;
    leaves = refl;
    in_history = (i.fresh, h.full, h.whole);
    at_link = (i.ended, i.failures);
  };
  counted = none_unsent b r session old t n k p u i;
}

pub ends_without_memory : (b : Bool) (r : RouterView) (session : ℕ) (old : PassView) (t : LinkTrace) (n k : ℕ) (p q : PassView) (u : LinkTrace) →
    IsWriting b r session old t n k p u → Refused fault.Memory r p q → IsCalled r p q →
    LeavesOut b r session old.fragment t (write_end cause.Memory n []) k q.fragment u
ends_without_memory b r session old t n k p q u i h is_called = record {
  written = record {
    calls = i.calls;
    accepted = i.accepted;
    writes = refused_one b r session old t n k p q u fault.Memory i h is_called;
    sent = i.sent;
    leaves = refl;
    in_history = i.fresh;
    at_link = (i.ended, i.failures);
  };
  counted = none_unsent b r session old t n k p u i;
}

-- the law of route_history on the replies to a Take
abbrev pub TakesAreShort : Type 0
TakesAreShort = (opening : OpeningView) (es : List Entry) → IsLegal opening es → (k : ℕ) (d : Entry) → k < length es →
    IsWithinTake (slice_index_or es k d)

pub at_most_16 : (r : RouterView) (session : ℕ) (p q : PassView) (a : Answer) → TakesAreShort → Answered r p (take session) a q →
    length (carried a.reply) ≤ 16
at_most_16 r session p q a law h =
    let e : Entry = entry (take session) a.reply in
    let legal : IsLegal r.opening (h.log ++ e ∷ []) = subst (λ (l : List Entry). IsLegal r.opening l) h.seen h.legal in
    let within : IsWithinTake (slice_index_or (h.log ++ e ∷ []) (length h.log) e) =
    law r.opening (h.log ++ e ∷ []) legal (length h.log) e (omega (arith, length-append h.log (e ∷ []))) in
    subst (λ (x : Entry). IsWithinTake x) (get_or_push h.log e e (length h.log) refl) within

-- messages go out, one after another: what was accepted so far, while the link is sound
pub record IsSending (t : LinkTrace) (messages unsent : List Message) (u : LinkTrace) : Type 0 where
  pub accepted : List Message
  pub in_order : messages ≡ accepted ++ unsent
  pub given : u.given ≡ grown t.given accepted
  pub refused : u.first_refused ≡ t.first_refused
  pub handed : u.handed ≡ t.handed
  pub is_closed : u.closed ≡ t.closed
  pub ended : u.ended ≡ t.ended
  pub failures : u.failures ≡ t.failures

pub begins_sending : (t : LinkTrace) (messages : List Message) → IsSending t messages messages t
begins_sending t messages = record {
  accepted = [];
  in_order = refl;
  given = grown_none t.given;
  refused = refl;
  handed = refl;
  is_closed = refl;
  ended = refl;
  failures = refl;
}

pub sends_on : (t : LinkTrace) (messages : List Message) (m : Message) (rest : List Message) (u v : LinkTrace) →
    IsSending t messages (m ∷ rest) u → Sent u m (Ok tt) v → IsSending t messages rest v
sends_on t messages m rest u v i s = record {
  accepted = i.accepted ++ m ∷ [];
  in_order = i.in_order ∙ sym (append_assoc i.accepted (m ∷ []) rest);
  given = ap (λ (w : LinkTrace). w.given) s.1 ∙ ap (λ (o : Option (List Message)). grown o (m ∷ [])) i.given
      ∙ grown_more t.given i.accepted (m ∷ []);
  refused = ap (λ (w : LinkTrace). w.first_refused) s.1 ∙ i.refused;
  handed = ap (λ (w : LinkTrace). w.handed) s.1 ∙ i.handed;
  is_closed = ap (λ (w : LinkTrace). w.closed) s.1 ∙ i.is_closed;
  ended = ap (λ (w : LinkTrace). w.ended) s.1 ∙ i.ended;
  failures = ap (λ (w : LinkTrace). w.failures) s.1 ∙ i.failures;
}

pub sent_all : (t : LinkTrace) (messages unsent : List Message) (u : LinkTrace) → unsent ≡ [] → IsSending t messages unsent u →
    Hands t messages unsent u
sent_all t messages unsent u none i = record {
  accepted = i.accepted;
  in_order = i.in_order;
  given = i.given;
  refused = i.refused ∙ ap (λ (l : List Message). refuse_first t.first_refused l) (sym none);
  handed = i.handed;
  is_closed = i.is_closed;
  ended = i.ended;
  sent_all = λ e. i.failures;
  failed = λ some. absurd (some none);
}

pub sent_some : (t : LinkTrace) (messages : List Message) (m : Message) (rest : List Message) (u v : LinkTrace) (f : LinkFault) →
    IsSending t messages (m ∷ rest) u → Sent u m (Err f) v → Hands t messages (m ∷ rest) v
sent_some t messages m rest u v f i s = record {
  accepted = i.accepted;
  in_order = i.in_order;
  given = ap (λ (w : LinkTrace). w.given) s.only ∙ i.given;
  refused = ap (λ (w : LinkTrace). w.first_refused) s.only ∙ ap (λ (o : Option (Option Message)). refuse o m) i.refused;
  handed = ap (λ (w : LinkTrace). w.handed) s.only ∙ i.handed;
  is_closed = ap (λ (w : LinkTrace). w.closed) s.only ∙ i.is_closed;
  ended = ap (λ (w : LinkTrace). w.ended) s.only ∙ i.ended;
  sent_all = λ none. absurd cc;
  failed = λ e. subst (λ (before : Option ℕ). Rose before v.failures) i.failures s.rose;
}

-- the front of what is left
pub front_taken : (xs rest : List Message) (m : Message) → Some m ≡ slice_get xs 0 → rest ≡ drop 1 xs → xs ≡ m ∷ rest
front_taken [] rest m h e = cc
front_taken (x ∷ xs) rest m h e = cc

pub none_left : (xs : List Message) → length xs ≡ 0 → xs ≡ []
none_left [] h = refl
none_left (x ∷ xs) h = absurd (omega arith)
