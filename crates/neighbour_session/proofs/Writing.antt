-- A writer that has turns again and again.
use Rattle.std.proofs.Common.{◌≡◌, ◌∙◌, sym, inl, inr, ap, subst, refl, ℕ, ◌+◌, ◌-◌, ◌^◌, List, [], ◌∷◌, ◌++◌, append_assoc, append-nil, arith, length, length-append}
use Rattle.std.specs.Prelude.{All, Bool, None, Some, true, false, flat_map, min, slice_get}
use Rattle.std.proofs.lemmas.Grind.{flat_map-append}
use Rattle.std.proofs.lemmas.List.Elements.{All-append, All-nil}
use Rattle.netchange_core.specs.declared.message.Message.{Message}
use Rattle.route_history.specs.declared.entry.Entry.{Entry}
use Rattle.route_session.specs.declared.ends.Cause.{Cause}
use Rattle.route_session.specs.declared.ends.Cause.TheVariants as cause
use Rattle.route_session.specs.declared.ends.WriteEnd.{WriteEnd}
use Rattle.route_session.specs.Calls.{Gained, IsCauseAt, IsCauseIn, IsFresh}
use Rattle.route_session.specs.Writes.{LeavesBy, LeavesOut, Takes, carried_by, told_by}
use Rattle.route_session.specs.LinkTrace.{LinkTrace, grown, refuse_first}
use Rattle.message_streams.specs.Views.{WriterView}
use Rattle.slot_lock.specs.Passes.{Fragment, PassView, RouterView}
use Rattle.neighbour_session.specs.Waiting.{full_end}
use Rattle.neighbour_session.specs.Writing.{IsWriterOver, IsWriterStopped, WriterGoesOn, WritesOut, told_to}
use Rattle.neighbour_session.specs.Links.{GotLinesOf, TearsLine}
use Rattle.neighbour_session.specs.declared.ends.SessionEnd.{SessionEnd}
use Rattle.neighbour_session.specs.declared.ends.SessionEnd.TheVariants as end
use Rattle.neighbour_session.proofs.Gaining.{cause_after, gained_both, gained_none, grown_both, grown_none, told_after}

-- what was taken was accepted by the link, but for so many messages that were left out, and the writer has not ended
pub record HasWritten (left_out : ℕ) (session : ℕ) (old : Fragment) (t : LinkTrace) (new : Fragment) (u : LinkTrace) : Type 0 where
  pub calls : List Entry
  pub accepted : List Message
  pub gained : Gained old calls new
  pub takes : All (Takes session) calls
  pub taken : flat_map (told_by true) calls ≡ accepted
  pub counted : left_out + length accepted ≡ length (flat_map carried_by calls)
  pub given : u.given ≡ grown t.given accepted
  pub refused : u.first_refused ≡ t.first_refused
  pub handed : u.handed ≡ t.handed
  pub is_closed : u.closed ≡ t.closed
  pub fresh : All IsFresh calls
  pub ended : u.ended ≡ t.ended
  pub failures : u.failures ≡ t.failures

pub written_none : (session : ℕ) (p : Fragment) (t : LinkTrace) → HasWritten 0 session p t p t
written_none session p t = record {
  calls = [];
  accepted = [];
  gained = gained_none p;
  takes = All-nil (Takes session);
  taken = refl;
  counted = refl;
  given = grown_none t.given;
  refused = refl;
  handed = refl;
  is_closed = refl;
  fresh = All-nil IsFresh;
  ended = refl;
  failures = refl;
}

-- so many messages were left out by calls, and then so many by more calls
counts_both : (n more : ℕ) (calls later : List Entry) (accepted further unsent : List Message) →
    n + length accepted ≡ length (flat_map carried_by calls) →
    more + (length further + length unsent) ≡ length (flat_map carried_by later) →
    n + more + (length (accepted ++ further) + length unsent) ≡ length (flat_map carried_by (calls ++ later))
counts_both n more calls later accepted further unsent h k =
    let all : length (flat_map carried_by (calls ++ later)) ≡ length (flat_map carried_by calls) + length (flat_map carried_by later) =
    ap length (flat_map-append carried_by calls later) ∙ length-append (flat_map carried_by calls) (flat_map carried_by later) in
    omega (arith, h, k, all, length-append accepted further)

-- and what comes last: the whole of it is as one writer's
pub written_last : (r : RouterView) (n more : ℕ) (session : ℕ) (old : Fragment) (t : LinkTrace) (mid : Fragment) (m : LinkTrace) (last : WriteEnd)
    (new : Fragment) (u : LinkTrace) (h : HasWritten n session old t mid m) (k : LeavesOut true r session mid m last more new u) →
    LeavesOut true r session old t (record { cause = last.cause; sent = length (h.accepted ++ k.written.accepted); unsent = last.unsent }) (n + more)
    new u
written_last r n more session old t mid m last new u h k =
    let w = k.written in
    let sent : length w.accepted ≡ last.sent = w.sent in
    record {
      written = record {
        calls = h.calls ++ w.calls;
        accepted = h.accepted ++ w.accepted;
        writes = record {
          gained = gained_both old h.calls mid w.calls new h.gained w.writes.gained;
          takes = All-append (Takes session) h.calls w.calls h.takes w.writes.takes;
          taken = flat_map-append (told_by true) h.calls w.calls ∙ ap (λ (l : List Message). l ++ flat_map (told_by true) w.calls) h.taken
              ∙ ap (λ (l : List Message). h.accepted ++ l) w.writes.taken ∙ sym (append_assoc h.accepted w.accepted last.unsent);
          given = w.writes.given ∙ ap (λ o. grown o w.accepted) h.given ∙ grown_both t.given h.accepted w.accepted;
          refused = w.writes.refused ∙ ap (λ o. refuse_first o last.unsent) h.refused;
          handed = w.writes.handed ∙ h.handed;
          is_closed = w.writes.is_closed ∙ h.is_closed;
        };
        sent = refl;
        leaves = w.leaves;
        in_history = cause_after last.cause r h.calls w.calls new h.fresh w.in_history;
        at_link = told_after last.cause t m u h.ended h.failures w.at_link;
      };
      counted = counts_both n more h.calls w.calls h.accepted w.accepted last.unsent h.counted
          (subst (λ (x : ℕ). more + (x + length last.unsent) ≡ length (flat_map carried_by w.calls)) (sym sent) k.counted);
    }

-- one that goes on has left nothing unsent
leaves_none : (waits : Bool) (c : Cause) (unsent : List Message) → WriterGoesOn waits c → LeavesBy c unsent → unsent ≡ []
leaves_none waits cause.Turns unsent on h = h
leaves_none waits cause.Full unsent on h = h
leaves_none waits cause.LinkEnded unsent on h = absurd on
leaves_none waits cause.LinkFault unsent on h = absurd on
leaves_none waits cause.Stale unsent on h = absurd on
leaves_none waits cause.Memory unsent on h = absurd on

same_link : (waits : Bool) (c : Cause) (t u : LinkTrace) → WriterGoesOn waits c → IsCauseAt c t u → IsCauseAt cause.Turns t u
same_link waits cause.Turns t u on h = h
same_link waits cause.Full t u on h = h
same_link waits cause.LinkEnded t u on h = absurd on
same_link waits cause.LinkFault t u on h = absurd on
same_link waits cause.Stale t u on h = absurd on
same_link waits cause.Memory t u on h = absurd on

fresh_on : (waits : Bool) (c : Cause) (r : RouterView) (calls : List Entry) (new : Fragment) → WriterGoesOn waits c → IsCauseIn c r calls new →
    All IsFresh calls
fresh_on waits cause.Turns r calls new on h = h
fresh_on waits cause.Full r calls new on h = h.0
fresh_on waits cause.LinkEnded r calls new on h = absurd on
fresh_on waits cause.LinkFault r calls new on h = absurd on
fresh_on waits cause.Stale r calls new on h = absurd on
fresh_on waits cause.Memory r calls new on h = absurd on

written_on : (waits : Bool) (r : RouterView) (n : ℕ) (session : ℕ) (old : Fragment) (t : LinkTrace) (last : WriteEnd) (new : Fragment) (u : LinkTrace) →
    WriterGoesOn waits last.cause → LeavesOut true r session old t last n new u → HasWritten n session old t new u
written_on waits r n session old t last new u on k =
    let w = k.written in
    let none : last.unsent ≡ [] = leaves_none waits last.cause last.unsent on w.leaves in
    let nothing : length last.unsent ≡ 0 = ap length none in
    let same : IsCauseAt cause.Turns t u = same_link waits last.cause t u on w.at_link in
    record {
      calls = w.calls;
      accepted = w.accepted;
      gained = w.writes.gained;
      takes = w.writes.takes;
      taken = w.writes.taken ∙ ap (λ (l : List Message). w.accepted ++ l) none ∙ append-nil w.accepted;
      counted = omega (arith, k.counted, w.sent, nothing);
      given = w.writes.given;
      refused = w.writes.refused ∙ ap (λ (l : List Message). refuse_first t.first_refused l) none;
      handed = w.writes.handed;
      is_closed = w.writes.is_closed;
      fresh = fresh_on waits last.cause r w.calls new on w.in_history;
      ended = same.0;
      failures = same.1;
    }

pub writes_on : (waits : Bool) (r : RouterView) (n more : ℕ) (session : ℕ) (old : Fragment) (t : LinkTrace) (mid : Fragment) (m : LinkTrace)
    (last : WriteEnd) (new : Fragment) (u : LinkTrace) → HasWritten n session old t mid m → WriterGoesOn waits last.cause →
    LeavesOut true r session mid m last more new u → HasWritten (n + more) session old t new u
writes_on waits r n more session old t mid m last new u h on k =
    written_on waits r (n + more) session old t
    (record { cause = last.cause; sent = length (h.accepted ++ k.written.accepted); unsent = last.unsent }) new u on
    (written_last r n more session old t mid m last new u h k)

-- a writer that ended by itself, or because the session is not there
not_both : (b : Bool) → b ≡ false → b ≡ true → ⊥
not_both b is_false is_true = absurd cc

stopped_over : (waits : Bool) (may : Bool → Type 0) (c : Cause) (later : WriterView) (why : SessionEnd) → IsWriterStopped waits c why →
    IsWriterOver waits may c later why
stopped_over waits may cause.Turns later why h = absurd h
stopped_over waits may cause.LinkEnded later why h = h
stopped_over waits may cause.LinkFault later why h = h
stopped_over waits may cause.Stale later why h = h
stopped_over waits may cause.Full later why h = inl (h.0 ∙ ap full_end (sym h.1), λ w. absurd (not_both waits h.1 w))
stopped_over waits may cause.Memory later why h = h

absent_over : (waits : Bool) (may : Bool → Type 0) (c : Cause) (later : WriterView) → WriterGoesOn waits c → may false →
    IsWriterOver waits may c later end.Closed
absent_over waits may cause.Turns later on absent = inl (refl, absent)
absent_over waits may cause.Full later on absent = inl (sym (ap full_end on), λ w. absent)
absent_over waits may cause.LinkEnded later on absent = absurd on
absent_over waits may cause.LinkFault later on absent = absurd on
absent_over waits may cause.Stale later on absent = absurd on
absent_over waits may cause.Memory later on absent = absurd on

-- a writer that went on, and then did not write an empty line
unwritten_over : (waits : Bool) (may : Bool → Type 0) (c : Cause) (later : WriterView) → WriterGoesOn waits c → later.over ≡ true →
    IsWriterOver waits may c later end.Unwritten
unwritten_over waits may cause.Turns later on over = inr (refl, over)
unwritten_over waits may cause.Full later on over = inr (on, (refl, over))
unwritten_over waits may cause.LinkEnded later on over = absurd on
unwritten_over waits may cause.LinkFault later on over = absurd on
unwritten_over waits may cause.Stale later on over = absurd on
unwritten_over waits may cause.Memory later on over = absurd on

-- what the stream got behind the last whole line
first_unsent : (unsent : List Message) → refuse_first (Some None) unsent ≡ Some (slice_get unsent 0)
first_unsent [] = refl
first_unsent (m ∷ more) = refl

got_after : (output : WriterView) (u : LinkTrace) (unsent : List Message) (later : WriterView) (g : GotLinesOf output u later) →
    u.first_refused ≡ refuse_first (told_to output).first_refused unsent → TearsLine (slice_get unsent 0) g.held later.held
got_after output u unsent later g h = g.torn (slice_get unsent 0) (h ∙ first_unsent unsent)

-- how many were left out, which is told up to the largest number of 64 bits
pub min_more : (told n more : ℕ) → told ≡ min n (2 ^ 64 - 1) → min (told + more) (2 ^ 64 - 1) ≡ min (n + more) (2 ^ 64 - 1)
min_more told n more h = omega (arith, h)

-- a writer that ended, for a reason
writes_over : (waits : Bool) (may : Bool → Type 0) (r : RouterView) (n more left_out : ℕ) (session : ℕ) (old : PassView) (output : WriterView)
    (mid : PassView) (m : LinkTrace) (last : WriteEnd) (why : SessionEnd) (new : PassView) (u : LinkTrace) (later : WriterView) →
    HasWritten n session old.fragment (told_to output) mid.fragment m → LeavesOut true r session mid.fragment m last more new.fragment u →
    GotLinesOf output u later → IsWriterOver waits may last.cause later why → left_out ≡ min (n + more) (2 ^ 64 - 1) →
    WritesOut waits may r session old output why new later left_out
writes_over waits may r n more left_out session old output mid m last why new u later h k got over counted =
    let written = written_last r n more session old.fragment (told_to output) mid.fragment m last new.fragment u h k in
    record {
      end = record { cause = last.cause; sent = length (h.accepted ++ k.written.accepted); unsent = last.unsent };
      last = u;
      count = n + more;
      written = written;
      counted = counted;
      held = got.held;
      lines = got.lines;
      after = got_after output u last.unsent later got written.written.writes.refused;
      because = over;
    }

pub writes_stopped : (waits : Bool) (may : Bool → Type 0) (r : RouterView) (n more left_out : ℕ) (session : ℕ) (old : PassView)
    (output : WriterView) (mid : PassView) (m : LinkTrace) (last : WriteEnd) (why : SessionEnd) (new : PassView) (u : LinkTrace) (later : WriterView) →
    HasWritten n session old.fragment (told_to output) mid.fragment m → LeavesOut true r session mid.fragment m last more new.fragment u →
    GotLinesOf output u later → IsWriterStopped waits last.cause why → left_out ≡ min (n + more) (2 ^ 64 - 1) →
    WritesOut waits may r session old output why new later left_out
writes_stopped waits may r n more left_out session old output mid m last why new u later h k got over counted =
    writes_over waits may r n more left_out session old output mid m last why new u later h k got (stopped_over waits may last.cause later why over)
    counted

pub writes_absent : (waits : Bool) (may : Bool → Type 0) (r : RouterView) (n more left_out : ℕ) (session : ℕ) (old : PassView)
    (output : WriterView) (mid : PassView) (m : LinkTrace) (last : WriteEnd) (new : PassView) (u : LinkTrace) (later : WriterView) →
    HasWritten n session old.fragment (told_to output) mid.fragment m → LeavesOut true r session mid.fragment m last more new.fragment u →
    GotLinesOf output u later → WriterGoesOn waits last.cause → may false → left_out ≡ min (n + more) (2 ^ 64 - 1) →
    WritesOut waits may r session old output end.Closed new later left_out
writes_absent waits may r n more left_out session old output mid m last new u later h k got on absent counted =
    writes_over waits may r n more left_out session old output mid m last end.Closed new u later h k got (absent_over waits may last.cause later on absent)
    counted

pub writes_unwritten : (waits : Bool) (may : Bool → Type 0) (r : RouterView) (n more left_out : ℕ) (session : ℕ) (old : PassView)
    (output : WriterView) (mid : PassView) (m : LinkTrace) (last : WriteEnd) (new : PassView) (u : LinkTrace) (later : WriterView) →
    HasWritten n session old.fragment (told_to output) mid.fragment m → LeavesOut true r session mid.fragment m last more new.fragment u →
    GotLinesOf output u later → WriterGoesOn waits last.cause → later.over ≡ true → left_out ≡ min (n + more) (2 ^ 64 - 1) →
    WritesOut waits may r session old output end.Unwritten new later left_out
writes_unwritten waits may r n more left_out session old output mid m last new u later h k got on over counted =
    writes_over waits may r n more left_out session old output mid m last end.Unwritten new u later h k got (unwritten_over waits may last.cause later on over)
    counted
