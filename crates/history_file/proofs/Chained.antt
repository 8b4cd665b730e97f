-- Segments in order are one history, and how a replay of one goes on.
use Rattle.std.proofs.Common.{◌≡◌, ◌⊎◌, ℕ, suc, ◌+◌, ◌^◌, ◌<◌, ◌≤◌, List, [], ◌∷◌, ◌++◌, length, map, Some, Result, Ok, Err, OnOk, IfErr, refl, sym, ◌∙◌, ap, arith, subst, inl, inr}
use Rattle.std.specs.List.{All}
use Rattle.std.proofs.lemmas.List.{length-append, length-map, length_push, map_push}
use Rattle.std.proofs.lemmas.List.Elements.{All-nil, All-push}
use Rattle.netchange_core.specs.Calls.{opened}
use Rattle.netchange_core.specs.Next.{next}
use Rattle.netchange_core.specs.OpeningView.{OpeningView}
use Rattle.netchange_core.specs.World.{World}
use Rattle.prefix_patterns.proofs.Tokens.{parts_at-found}
use Rattle.prefix_patterns.specs.Reading.{parts_at}
use Rattle.route_history.specs.History.{IsLegal, IsLegalFrom, world_after, world_of}
use Rattle.route_history.specs.declared.entry.Entry.{Entry}
use Rattle.history_file.proofs.Whole.{text_push}
use Rattle.history_file.specs.Chains.{AreChained, AreReplayed, BeginsWithState, Enters, IsBehindFault, IsCutEntry, IsEnterFault, IsEntriesFault}
use Rattle.history_file.specs.Chains.{Begins, Follows, IsLegalChain}
use Rattle.history_file.specs.Chains.{IsFollowFault, IsReplayFault, IsStateFault, IsWrongEntry, Replays, SegmentView, all_entries, feeds, last_state}
use Rattle.history_file.specs.Files.{BeginsWithLine, IsNoEntry, IsUnended}
use Rattle.history_lines.specs.Fits.{FitsEntry}
use Rattle.history_file.specs.Segments.{AddsState}
use Rattle.history_lines.specs.Text.{entries_text, entry_line}
use Rattle.history_lines.specs.Views.{EntryView, entry_view}
use Rattle.history_file.specs.declared.chain.Chain.{Chain}
use Rattle.history_file.specs.declared.chain.ChainFault.{ChainFault}
use Rattle.history_file.specs.declared.chain.ChainFault.TheVariants as fault

pub after_append : (w : World) (es more : List Entry) → world_after w (es ++ more) ≡ world_after (world_after w es) more
after_append w [] more = refl
after_append w (e ∷ es) more = after_append (next w e.event).world es more

legal_both : (w : World) (es more : List Entry) → IsLegalFrom w es → IsLegalFrom (world_after w es) more → IsLegalFrom w (es ++ more)
legal_both w [] more h g = g
legal_both w (e ∷ es) more h g = (h.0, legal_both (next w e.event).world es more h.1 g)

-- the first of legal entries are legal, and those behind them from where these end
pub legal_front : (w : World) (es more : List Entry) → IsLegalFrom w (es ++ more) → IsLegalFrom w es
legal_front w [] more h = tt
legal_front w (e ∷ es) more h = (h.0, legal_front (next w e.event).world es more h.1)

pub legal_later : (w : World) (es more : List Entry) → IsLegalFrom w (es ++ more) → IsLegalFrom (world_after w es) more
legal_later w [] more h = h
legal_later w (e ∷ es) more h = legal_later (next w e.event).world es more h.1

-- segments in order are legal together
chained_legal : (w : World) (ss : List SegmentView) → AreChained w ss → IsLegalFrom w (all_entries ss)
chained_legal w [] h = tt
chained_legal w (s ∷ ss) (starts, legal, later) =
    legal_both w s.entries (all_entries ss) (subst (λ v. IsLegalFrom v s.entries) starts legal)
    (chained_legal (world_after w s.entries) ss (subst (λ v. AreChained (world_after v s.entries) ss) starts later))

chained_ends : (w : World) (ss : List SegmentView) → AreChained w ss → last_state w ss ≡ world_after w (all_entries ss)
chained_ends w [] h = refl
chained_ends w (s ∷ ss) (starts, legal, later) =
    ap (λ v. last_state (world_after v s.entries) ss) starts
    ∙ chained_ends (world_after w s.entries) ss (subst (λ v. AreChained (world_after v s.entries) ss) starts later)
    ∙ sym (after_append w s.entries (all_entries ss))

pub one_legal : (o : OpeningView) (ss : List SegmentView) → AreChained (opened o) ss → IsLegal o (all_entries ss)
one_legal o ss h = chained_legal (opened o) ss h

pub one_end : (o : OpeningView) (ss : List SegmentView) → AreChained (opened o) ss → last_state (opened o) ss ≡ world_of o (all_entries ss)
one_end o ss h = chained_ends (opened o) ss h

-- so many entries of a segment were replayed, and this is left of its bytes
pub record IsAt (bytes : List ℕ) (old now : Chain) (count : ℕ) (rest : List ℕ) : Type 0 where
  pub es : List Entry
  pub replayed : AreReplayed bytes old.next old.tables es rest
  pub tables_are : now.tables ≡ world_after old.tables es
  pub next_is : now.next ≡ old.next + length es
  pub first_is : now.first ≡ old.first
  pub count_is : count ≡ length es
  pub short : count + length rest ≤ length bytes

pub at_start : (bytes : List ℕ) (old : Chain) → IsAt bytes old old 0 bytes
at_start bytes old = record {
  es = [];
  replayed = record { each = All-nil (λ e. FitsEntry (entry_view e)); bytes_are = refl; legal = tt };
  tables_are = refl;
  next_is = omega arith;
  first_is = refl;
  count_is = refl;
  short = omega arith;
}

-- how long a line and what follows it are
pub line_long : (rest line later : List ℕ) → BeginsWithLine rest line later → length rest ≡ length line + suc (length later)
line_long rest line later begins = ap length (parts_at-found 10 rest line later begins) ∙ length-append line (10 ∷ later)

-- what is left, where the next line is an entry's
next_line : (bytes : List ℕ) (old now : Chain) (count : ℕ) (rest line later : List ℕ) (e : Entry) → (h : IsAt bytes old now count rest) →
    BeginsWithLine rest line later → line ≡ entry_line now.next (entry_view e) →
    bytes ≡ entries_text old.next (map entry_view h.es) ++ (entry_line (old.next + length h.es) (entry_view e) ++ 10 ∷ later)
next_line bytes old now count rest line later e h begins is =
    h.replayed.bytes_are ∙ ap (λ r. entries_text old.next (map entry_view h.es) ++ r)
    (parts_at-found 10 rest line later begins ∙ ap (λ l. l ++ 10 ∷ later) (is ∙ ap (λ n. entry_line n (entry_view e)) h.next_is))

pub at_more : (bytes : List ℕ) (old now new : Chain) (count : ℕ) (rest line later : List ℕ) → IsAt bytes old now count rest →
    BeginsWithLine rest line later → Enters line now new → IsAt bytes old new (count + 1) later
at_more bytes old now new count rest line later h begins en =
    let e = en.entry in
    let es = h.es in
    let place : old.next + length es ≡ old.next + length (map entry_view es) =
    ap (λ n. old.next + n) (sym (length-map es entry_view)) in
    record {
      es = es ++ e ∷ [];
      replayed = record {
        each = All-push (λ x. FitsEntry (entry_view x)) es e h.replayed.each en.fits;
        bytes_are = next_line bytes old now count rest line later e h begins en.line_is
            ∙ ap (λ n. entries_text old.next (map entry_view es) ++ (entry_line n (entry_view e) ++ 10 ∷ later)) place
            ∙ sym (text_push old.next (map entry_view es) (entry_view e) later)
            ∙ ap (λ (vs : List EntryView). entries_text old.next vs ++ later) (sym (map_push entry_view es e));
        legal = legal_both old.tables es (e ∷ []) h.replayed.legal
            (ap (λ (w : World). (next w e.event).reply) (sym h.tables_are) ∙ en.reply, tt);
      };
      tables_are = en.tables_are ∙ ap (λ (w : World). (next w e.event).world) h.tables_are ∙ sym (after_append old.tables es (e ∷ []));
      next_is = omega (arith, en.next_is, h.next_is, length_push es e);
      first_is = en.first_is ∙ h.first_is;
      count_is = omega (arith, h.count_is, length_push es e);
      short = omega (arith, h.short, line_long rest line later begins);
    }

-- where a line is left, the bytes have room for it
pub more_left : (bytes : List ℕ) (old now : Chain) (count : ℕ) (rest line later : List ℕ) → IsAt bytes old now count rest →
    BeginsWithLine rest line later → count + 1 ≤ length bytes
more_left bytes old now count rest line later h begins = omega (arith, h.short, line_long rest line later begins)

-- all entries were replayed
pub at_end : (bytes : List ℕ) (old now : Chain) (count : ℕ) (rest : List ℕ) → (h : IsAt bytes old now count rest) → rest ≡ [] →
    (es : List Entry) × Replays bytes old now es
at_end bytes old now count rest h is = (
  h.es,
  record {
    replayed = subst (λ r. AreReplayed bytes old.next old.tables h.es r) is h.replayed;
    tables_are = h.tables_are;
    next_is = h.next_is;
    first_is = h.first_is;
  },
)

-- the next line was not written to its end
pub at_cut : (bytes : List ℕ) (old now : Chain) (count lines : ℕ) (rest : List ℕ) → IsAt bytes old now count rest → IsUnended rest →
    0 < length rest → IsReplayFault lines bytes old.next old.tables (fault.Cut (lines + count + 1))
at_cut bytes old now count lines rest h unended some = (
  h.es,
  omega (arith, h.count_is),
  record { later = rest; replayed = h.replayed; unended = unended; some = some },
)

-- the next line is not as it should be
pub at_wrong : (bytes : List ℕ) (old now : Chain) (count lines : ℕ) (rest line later : List ℕ) (f : ChainFault) → IsAt bytes old now count rest →
    BeginsWithLine rest line later → IsEnterFault (lines + count + 1) line now f → IsReplayFault lines bytes old.next old.tables f
at_wrong bytes old now count lines rest line later (fault.Differs place saved right) h begins w = (
  h.es,
  w.place_is ∙ h.next_is,
  record {
    entry = w.entry;
    later = later;
    replayed = record {
      each = h.replayed.each;
      bytes_are = next_line bytes old now count rest line later w.entry h begins w.line_is;
      legal = h.replayed.legal;
    };
    saved_is = w.saved_is;
    right_is = w.right_is ∙ ap (λ (v : World). (next v w.entry.event).reply) h.tables_are;
    differs = w.differs;
  },
)
at_wrong bytes old now count lines rest line later (fault.Cut n) h begins w = absurd w
at_wrong bytes old now count lines rest line later (fault.Line n) h begins w = (
  h.es,
  omega (arith, w.0, h.count_is),
  record {
    left = rest;
    line = line;
    later = later;
    replayed = h.replayed;
    begins = begins;
    wrong = subst (λ k. IsNoEntry k line) h.next_is w.1;
  },
)
at_wrong bytes old now count lines rest line later fault.Unreached h begins w = absurd w
at_wrong bytes old now count lines rest line later fault.Apart h begins w = absurd w
at_wrong bytes old now count lines rest line later fault.Memory h begins w = tt

-- bytes that begin with a state's text
pub state_begins : (bytes : List ℕ) (room at : ℕ) (w : World) (none new later : List ℕ) → none ≡ [] → AddsState room at w none new →
    bytes ≡ new ++ later → BeginsWithState bytes at w later
state_begins bytes room at w none new later empty adds is = record {
  room = room;
  text = adds.text;
  is_text = adds.is_text;
  bytes_are = is ∙ ap (λ t. t ++ later) (adds.added ∙ ap (λ t. t ++ adds.text) empty);
}

-- a fault of the entries behind a state's text
pub behind_fault : (bytes : List ℕ) (room : ℕ) (old : Chain) (none new later : List ℕ) (lines : ℕ) (f : ChainFault) → none ≡ [] →
    AddsState room old.next old.tables none new → bytes ≡ new ++ later → lines ≡ feeds new → IsBehindFault lines later old f →
    IsFollowFault bytes old f
behind_fault bytes room old none new later lines f empty adds is count (inl why) =
    let text_is : new ≡ adds.text = adds.added ∙ ap (λ t. t ++ adds.text) empty in
    inl (record {
      room = room;
      text = adds.text;
      later = later;
      is_text = adds.is_text;
      bytes_are = is ∙ ap (λ t. t ++ later) text_is;
      found = subst (λ n. IsReplayFault n later old.next old.tables f) (count ∙ ap feeds text_is) why;
    })
behind_fault bytes room old none new later lines f empty adds is count (inr why) = inr why

-- a chain stays legal as entries that are legal follow it
pub stays_legal : (bytes : List ℕ) (old new : Chain) → IsLegalChain old → Follows bytes old new → IsLegalChain new
stays_legal bytes old new h f =
    let es = f.entries in
    let r = f.replays in
    record {
      start = h.start;
      entries = h.entries ++ es;
      legal = legal_both h.start h.entries es h.legal (subst (λ w. IsLegalFrom w es) h.tables_are r.replayed.legal);
      tables_are = r.tables_are ∙ ap (λ w. world_after w es) h.tables_are ∙ sym (after_append h.start h.entries es);
      next_is = omega (arith, r.next_is, r.first_is, h.next_is, length-append h.entries es);
      opening = λ zero. h.opening (sym r.first_is ∙ zero);
    }

pub begins_legal : (bytes : List ℕ) (new : Chain) → Begins bytes new → IsLegalChain new
begins_legal bytes new b =
    stays_legal bytes b.old new (record {
      start = b.old.tables;
      entries = [];
      legal = tt;
      tables_are = refl;
      next_is = omega (arith, b.begun);
      opening = b.opening;
    }) b.follows

-- a replay behind the text of a state
pub follows_ok : {A E : Type 0} (r : Result A E) (bytes rest : List ℕ) (old new : Chain) → BeginsWithState bytes old.next old.tables rest →
    OnOk r ((es : List Entry) × Replays rest old new es) → OnOk r (Follows bytes old new)
follows_ok (Ok x) bytes rest old new begins (es, h) = record { later = rest; entries = es; begins = begins; replays = h }
follows_ok (Err e) bytes rest old new begins h = tt

pub follows_err : {A : Type 0} (r : Result A ChainFault) (bytes : List ℕ) (room : ℕ) (old : Chain) (none new later : List ℕ) (lines : ℕ) → none ≡ [] →
    AddsState room old.next old.tables none new → bytes ≡ new ++ later → lines ≡ feeds new → IfErr r (IsBehindFault lines later old) →
    IfErr r (IsFollowFault bytes old)
follows_err (Ok x) bytes room old none new later lines empty adds is count h = tt
follows_err (Err f) bytes room old none new later lines empty adds is count h = behind_fault bytes room old none new later lines f empty adds is count h

-- the lines of a text are no more than its bytes
pub few_lines : (bytes front rest : List ℕ) (lines : ℕ) → bytes ≡ front ++ rest → lines ≤ length front → length bytes < 2 ^ 64 →
    lines + length rest < 2 ^ 64
few_lines bytes front rest lines is few within = omega (arith, ap length is, length-append front rest, few, within)

-- a first segment, from the state that it begins in
pub begins_ok : (bytes rest : List ℕ) (old new : Chain) → old.next ≡ old.first → (old.first ≡ 0 → old.tables ≡ opened old.tables.opening) →
    BeginsWithState bytes old.next old.tables rest → (es : List Entry) × Replays rest old new es → Begins bytes new
begins_ok bytes rest old new begun opening begins (es, h) = record {
  old = old;
  begun = begun;
  opening = opening;
  follows = record { later = rest; entries = es; begins = begins; replays = h };
}

-- tables of an opening are those of their opening
pub of_opening : (w : World) (o : OpeningView) → w ≡ opened o → w ≡ opened w.opening
of_opening w o is = is ∙ ap opened (sym (ap (λ (v : World). v.opening) is))
