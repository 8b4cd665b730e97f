-- A message that a full history had no room for is entered later.
use Rattle.std.proofs.Common.{◌≡◌, ◌∙◌, sym, ap, subst, refl, ℕ, ◌+◌, ◌<◌, ◌≤◌, Bool, false, Option, Some, None, List, [], ◌∷◌, ◌++◌}
use Rattle.std.proofs.Common.{append_assoc, append-nil, length, arith}
use Rattle.std.specs.Prelude.{IfNone, IfSome}
use Rattle.std.proofs.lemmas.List.Elements.{All-nil, All-cons, All-append}
use Rattle.std.proofs.lemmas.List.Kept.{AllPairs-cons}
use Rattle.netchange_core.specs.declared.event.Event.{Event}
use Rattle.netchange_core.specs.declared.message.Message.{Message}
use Rattle.route_history.specs.declared.entry.Entry.{Entry}
use Rattle.route_history.specs.declared.fault.CallFault.TheVariants as fault
use Rattle.route_history.specs.Beginning.{Begins}
use Rattle.route_history.specs.Calls.{entry}
use Rattle.route_session.specs.declared.ends.Cause.{Cause}
use Rattle.route_session.specs.declared.ends.Cause.TheVariants as cause
use Rattle.route_session.specs.declared.ends.ReadEnd.{ReadEnd}
use Rattle.route_session.specs.Calls.{Gained, IsFresh, StandsAt, receive}
use Rattle.route_session.specs.Reads.{IsReadBy, LosesBy, LosesOne, Reads, Receives}
use Rattle.route_session.specs.LinkTrace.{LinkTrace, grown}
use Rattle.slot_lock.specs.Calls.{Answered, Refused}
use Rattle.slot_lock.specs.Passes.{Fragment, PassView, RouterView}
use Rattle.slot_lock.specs.declared.answer.Answer.{Answer}
use Rattle.neighbour_session.specs.Waiting.{EntersLater, EntersOne, IsFull, ReadsFor}
use Rattle.neighbour_session.proofs.Gaining.{gained_both, no_shorter, zip_both}

stands_last : (xs : List Entry) (e : Entry) → StandsAt (xs ++ e ∷ []) (length xs) e
stands_last [] e = refl
stands_last (x ∷ xs) e = stands_last xs e

-- a call that was entered is all that a pass gained by it
gained_one : (r : RouterView) (p q : PassView) (e : Event) (a : Answer) → Answered r p e a q → p.fragment.failed_tries ≤ q.fragment.failed_tries →
    Gained p.fragment (entry e a.reply ∷ []) q.fragment
gained_one r p q e a h tries = record {
  positions = a.at ∷ [];
  mine = h.mine;
  stand = (
    subst (λ (l : List Entry). StandsAt l a.at (entry e a.reply)) (sym h.seen)
        (subst (λ (n : ℕ). StandsAt (h.log ++ entry e a.reply ∷ []) n (entry e a.reply)) (sym h.position)
        (stands_last h.log (entry e a.reply))),
    tt,
  );
  rising = AllPairs-cons (λ x y. x < y) a.at [] (All-nil (λ y. a.at < y)) (λ i j d before inside. absurd (omega arith));
  after = All-cons (λ position. length p.fragment.seen ≤ position) a.at []
      (omega (arith, h.position, no_shorter p.fragment.seen h.log h.begins)) (All-nil (λ position. length p.fragment.seen ≤ position));
  begins = record {
    rest = h.begins.rest ++ entry e a.reply ∷ [];
    is = h.seen ∙ ap (λ (l : List Entry). l ++ entry e a.reply ∷ []) h.begins.is
        ∙ append_assoc p.fragment.seen h.begins.rest (entry e a.reply ∷ []);
  };
  failed_tries = tries;
  shares = h.shares;
}

-- and one that was not is nothing
gained_nothing : (p q : Fragment) → Begins p.seen q.seen → q.mine ≡ p.mine → p.failed_tries ≤ q.failed_tries → q.shares ≡ p.shares → Gained p [] q
gained_nothing p q begins mine tries shares = record {
  positions = [];
  mine = mine ∙ sym (append-nil p.mine);
  stand = tt;
  rising = λ i j d before inside. absurd (omega arith);
  after = All-nil (λ position. length p.seen ≤ position);
  begins = begins;
  failed_tries = tries;
  shares = shares;
}

-- a call after others that a full history had no room for
pub entered_later : (r : RouterView) (session : ℕ) (m : Message) (old : Fragment) (p q : PassView) (a : Answer) → Gained old [] p.fragment →
    Answered r p (receive session m) a q → p.fragment.failed_tries ≤ q.fragment.failed_tries →
    EntersOne session m old (entry (receive session m) a.reply) q.fragment
entered_later r session m old p q a before h tries = record {
  gained = gained_both old [] p.fragment (entry (receive session m) a.reply ∷ []) q.fragment before (gained_one r p q (receive session m) a h tries);
  receives = refl;
}

pub full_again : (r : RouterView) (old : Fragment) (p q : PassView) → Gained old [] p.fragment → Refused fault.Full r p q →
    p.fragment.failed_tries ≤ q.fragment.failed_tries → Gained old [] q.fragment
full_again r old p q before h tries =
    gained_both old [] p.fragment [] q.fragment before (gained_nothing p.fragment q.fragment h.begins h.mine tries h.shares)

pub is_full : (r : RouterView) (p q : PassView) → Refused fault.Full r p q → IsFull r q.fragment
is_full r p q h = record { full = h.full; whole = h.whole }

pub without_memory : (r : RouterView) (old : Fragment) (p q : PassView) → Gained old [] p.fragment → Refused fault.Memory r p q →
    p.fragment.failed_tries ≤ q.fragment.failed_tries → Gained old [] q.fragment
without_memory r old p q before h tries =
    let is : q.fragment ≡ record p.fragment { failed_tries = p.fragment.failed_tries + h.0 } = ap (λ (v : PassView). v.fragment) h.1 in
    gained_both old [] p.fragment [] q.fragment before
    (gained_nothing p.fragment q.fragment
    (record { rest = []; is = ap (λ (f : Fragment). f.seen) is ∙ sym (append-nil p.fragment.seen) })
    (ap (λ (f : Fragment). f.mine) is) tries (ap (λ (f : Fragment). f.shares) is))

-- ---- what a reader lost is entered later: the whole is as one reader's

abbrev or_this : Message → Option Message → Message
or_this m None = m
or_this m (Some x) = x

lost_is : (m : Message) (lost : List Message) → LosesOne (Some m) lost → lost ≡ m ∷ []
lost_is m lost h = h.alone ∙ ap (λ (x : Message). x ∷ []) (ap (or_this m) (sym h.is_told))

reads_one : (session : ℕ) (old : Fragment) (t : LinkTrace) (calls : List Entry) (lost : List Message) (mid : Fragment) (u : LinkTrace) (m : Message)
    (e : Entry) (new : Fragment) → Reads session old t calls lost mid u → lost ≡ m ∷ [] → EntersOne session m mid e new →
    Reads session old t (calls ++ e ∷ []) [] new u
reads_one session old t calls lost mid u m e new reads is one = record {
  gained = gained_both old calls mid (e ∷ []) new reads.gained one.gained;
  messages = reads.messages ++ m ∷ [];
  received = zip_both (Receives session) calls reads.messages (e ∷ []) (m ∷ []) reads.received (one.receives, tt);
  handed = reads.handed ∙ ap (λ (l : List Message). grown t.handed (reads.messages ++ l)) is
      ∙ ap (grown t.handed) (sym (append-nil (reads.messages ++ m ∷ [])));
  given = reads.given;
  is_closed = reads.is_closed;
}

reads_none : (session : ℕ) (old : Fragment) (t : LinkTrace) (calls : List Entry) (lost : List Message) (mid : Fragment) (u : LinkTrace) (new : Fragment) →
    Reads session old t calls lost mid u → Gained mid [] new → Reads session old t calls lost new u
reads_none session old t calls lost mid u new reads more = record {
  gained = subst (λ (es : List Entry). Gained old es new) (append-nil calls) (gained_both old calls mid [] new reads.gained more);
  messages = reads.messages;
  received = reads.received;
  handed = reads.handed;
  given = reads.given;
  is_closed = reads.is_closed;
}

-- a reader that lost this message to a full history
abbrev lost_end : ℕ → Message → ReadEnd
lost_end n m = record { cause = cause.Full; entered = n; lost = Some m }

later : (may : Bool → Type 0) (r : RouterView) (session : ℕ) (old : Fragment) (t : LinkTrace) (n : ℕ) (mid : Fragment) (u : LinkTrace) (m : Message)
    (c : Cause) (new : Fragment) → IsReadBy r session old t (lost_end n m) mid u → EntersLater may r session m mid c new →
    ReadsFor c r session old t new u
later may r session old t n mid u m cause.Turns new k h = (
  length (k.calls ++ h.0 ∷ []),
  None,
  record {
    calls = k.calls ++ h.0 ∷ [];
    lost = [];
    reads = reads_one session old t k.calls k.lost mid u m h.0 new k.reads (lost_is m k.lost k.loses) h.1;
    entered = refl;
    loses = record { is_told = refl; none = refl };
    in_history = All-append IsFresh k.calls (h.0 ∷ []) k.in_history.0 (All-cons IsFresh h.0 [] h.2 (All-nil IsFresh));
    at_link = k.at_link;
  },
)
later may r session old t n mid u m cause.Stale new k h = (
  length (k.calls ++ h.0 ∷ []),
  None,
  record {
    calls = k.calls ++ h.0 ∷ [];
    lost = [];
    reads = reads_one session old t k.calls k.lost mid u m h.0 new k.reads (lost_is m k.lost k.loses) h.1;
    entered = refl;
    loses = record { is_told = refl; none = refl };
    in_history = record { before = k.calls; last = h.0; calls_are = refl; stale_at_last = h.2; fresh_before = k.in_history.0 };
    at_link = k.at_link;
  },
)
later may r session old t n mid u m cause.Full new k h = (
  n,
  Some m,
  record {
    calls = k.calls;
    lost = k.lost;
    reads = reads_none session old t k.calls k.lost mid u new k.reads h.0;
    entered = k.entered;
    loses = k.loses;
    in_history = (k.in_history.0, h.1.full, h.1.whole);
    at_link = k.at_link;
  },
)
later may r session old t n mid u m cause.Memory new k h = (
  n,
  Some m,
  record {
    calls = k.calls;
    lost = k.lost;
    reads = reads_none session old t k.calls k.lost mid u new k.reads h;
    entered = k.entered;
    loses = k.loses;
    in_history = k.in_history.0;
    at_link = k.at_link;
  },
)
later may r session old t n mid u m cause.LinkEnded new k h = absurd h
later may r session old t n mid u m cause.LinkFault new k h = absurd h

-- the end of a reader that lost this message to a full history
as_lost : (r : RouterView) (session : ℕ) (old : Fragment) (t : LinkTrace) (last : ReadEnd) (mid : Fragment) (u : LinkTrace) (m : Message) →
    last.cause ≡ cause.Full → last.lost ≡ Some m → IsReadBy r session old t last mid u → IsReadBy r session old t (lost_end last.entered m) mid u
as_lost r session old t last mid u m full kept k =
    subst (λ (o : Option Message). IsReadBy r session old t (record { cause = cause.Full; entered = last.entered; lost = o }) mid u) kept
    (subst (λ (c : Cause). IsReadBy r session old t (record { cause = c; entered = last.entered; lost = last.lost }) mid u) full k)

pub reads_later : (may : Bool → Type 0) (r : RouterView) (session : ℕ) (old : Fragment) (t : LinkTrace) (last : ReadEnd) (mid : Fragment) (u : LinkTrace)
    (m : Message) (c : Cause) (new : Fragment) → last.cause ≡ cause.Full → last.lost ≡ Some m → IsReadBy r session old t last mid u →
    EntersLater may r session m mid c new → ReadsFor c r session old t new u
reads_later may r session old t last mid u m c new full kept k h =
    later may r session old t last.entered mid u m c new (as_lost r session old t last mid u m full kept k) h

-- the history was full when the message was lost
pub full_at_loss : (r : RouterView) (session : ℕ) (old : Fragment) (t : LinkTrace) (last : ReadEnd) (mid : Fragment) (u : LinkTrace) (m : Message) →
    last.cause ≡ cause.Full → last.lost ≡ Some m → IsReadBy r session old t last mid u → IsFull r mid
full_at_loss r session old t last mid u m full kept k =
    let at = (as_lost r session old t last mid u m full kept k).in_history in record { full = at.1; whole = at.2 }

-- who was told that the session is not there
pub absent_later : (may : Bool → Type 0) (r : RouterView) (session : ℕ) (m : Message) (mid : Fragment) (c : Cause) (new : Fragment) →
    EntersLater may r session m mid c new → c ≡ cause.Full → may false
absent_later may r session m mid cause.Full new h is = h.2
absent_later may r session m mid cause.Turns new h is = absurd cc
absent_later may r session m mid cause.Stale new h is = absurd cc
absent_later may r session m mid cause.Memory new h is = absurd cc
absent_later may r session m mid cause.LinkEnded new h is = absurd h
absent_later may r session m mid cause.LinkFault new h is = absurd h

-- a message is lost to each full history
lost_one : (c : Cause) (told : Option Message) (lost : List Message) → LosesBy c told lost → c ≡ cause.Full → LosesOne told lost
lost_one c told lost h is = subst (λ (x : Cause). LosesBy x told lost) is h

not_some : (m : Message) → None ≡ Some m → ⊥
not_some m is = absurd cc

none_lost : (told : Option Message) (lost : List Message) → LosesOne told lost → told ≡ None → ⊥
none_lost told lost h none = not_some h.message (sym none ∙ h.is_told)

pub never_unkept : (r : RouterView) (session : ℕ) (old : Fragment) (t : LinkTrace) (last : ReadEnd) (mid : Fragment) (u : LinkTrace) →
    IsReadBy r session old t last mid u → last.cause ≡ cause.Full → last.lost ≡ None → ⊥
never_unkept r session old t last mid u k full none = none_lost last.lost k.lost (lost_one last.cause last.lost k.lost k.loses full) none

-- what is kept, if it is
pub kept_when : (o : Option Message) (a b : Type 0) → a → b → IfSome o (λ m. a × b × (o ≡ Some m))
kept_when None a b x y = tt
kept_when (Some m) a b x y = (x, y, refl)

pub unkept_when : (o : Option Message) (a b : Type 0) → IfNone o (a → b → o ≡ None)
unkept_when None a b = λ x y. refl
unkept_when (Some m) a b = tt
