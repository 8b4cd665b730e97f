-- The segments of a folder are a chain.
use Rattle.std.proofs.Common.{◌≡◌, ◌∙◌, sym, ap, subst, refl, ℕ, ◌+◌, ◌≤◌, List, [], ◌∷◌, ◌++◌, append_assoc, append-nil, length, map, take, drop, Option, Some, None, arith}
use Rattle.std.specs.Prelude.{All, IfSome}
use Rattle.std.proofs.lemmas.List.Elements.{All-cons, All-head, All-nil, All-tail}
use Rattle.std.proofs.lemmas.List.{drop-append-le, length-drop, length-take-le, take-append-drop, take-take}
use Rattle.netchange_core.specs.Calls.{opened}
use Rattle.netchange_core.specs.World.{World}
use Rattle.history_file.proofs.Chained.{after_append, legal_front, legal_later, of_opening}
use Rattle.history_file.specs.Chains.{AreJoined, Begins, Follows}
use Rattle.history_lines.specs.Fits.{FitsEntry}
use Rattle.history_lines.specs.Text.{entries_text}
use Rattle.history_lines.specs.Views.{entry_view}
use Rattle.history_saver.specs.Adding.{between}
use Rattle.history_saver.specs.Folders.{FolderView, Segment, longer}
use Rattle.history_saver.specs.Segments.{AreComplete, AreSegments, HasSegments, Holds, IsOldest, IsSegment, SegmentsView}
use Rattle.history_saver.specs.Steps.{IsAllSaved}
use Rattle.history_saver.specs.Told.{TellHistory, TellUpTo, chain_of, texts_of}
use Rattle.history_saver.proofs.Texts.{between_none}
use Rattle.route_history.specs.declared.entry.Entry.{Entry}
use Rattle.route_history.specs.History.{IsLegal, IsLegalFrom, world_after, world_of}
use Rattle.route_history.specs.JournalView.{JournalView}

-- what is so of each entry's view
each_view : (es : List Entry) → All FitsEntry (map entry_view es) → All (λ (e : Entry). FitsEntry (entry_view e)) es
each_view [] h = All-nil (λ (e : Entry). FitsEntry (entry_view e))
each_view (e ∷ es) h =
    All-cons (λ (x : Entry). FitsEntry (entry_view x)) e es (All-head FitsEntry (entry_view e) (map entry_view es) h)
    (each_view es (All-tail FitsEntry (entry_view e) (map entry_view es) h))

-- the first entries up to one position, and those behind them up to another
parted : (es : List Entry) (from to : ℕ) → from ≤ to → take from es ++ drop from (take to es) ≡ take to es
parted es from to le =
    ap (λ (l : List Entry). l ++ drop from (take to es)) (sym (take-take from to es le)) ∙ take-append-drop from (take to es)

module _ (j : JournalView) (legal : IsLegal j.opening j.entries) where
  legal_first : (n : ℕ) → IsLegalFrom (opened j.opening) (take n j.entries)
  legal_first n = legal_front (opened j.opening) (take n j.entries) (drop n j.entries)
      (subst (λ (l : List Entry). IsLegalFrom (opened j.opening) l) (sym (take-append-drop n j.entries)) legal)

  legal_between : (from to : ℕ) → from ≤ to → IsLegalFrom (world_of j.opening (take from j.entries)) (drop from (take to j.entries))
  legal_between from to le = legal_later (opened j.opening) (take from j.entries) (drop from (take to j.entries))
      (subst (λ (l : List Entry). IsLegalFrom (opened j.opening) l) (sym (parted j.entries from to le)) (legal_first to))

  -- a complete segment goes on from the chain that those before it are
  abbrev segment_follows : (first from to : ℕ) (bytes : List ℕ) → IsSegment j from to [] bytes → Follows bytes (chain_of j first from) (chain_of j first to)
  segment_follows first from to bytes h =
      let es = drop from (take to j.entries) in
      let rising = h.rising in
      let within = h.within in record {
        later = entries_text from (between j.entries from to) ++ [];
        entries = es;
        begins = record { room = j.limit; text = h.state; is_text = h.is_state; bytes_are = h.is };
        replays = record {
          replayed = record { each = each_view es h.each; bytes_are = refl; legal = legal_between from to rising };
          tables_are = ap (world_of j.opening) (sym (parted j.entries from to rising)) ∙ after_append (opened j.opening) (take from j.entries) es;
          next_is = let left = length-drop from (take to j.entries) in let all = length-take-le to j.entries within in omega (arith, rising, left, all);
          first_is = refl;
        };
      }

  -- the oldest begins the chain
  abbrev segment_begins : (first from to : ℕ) (bytes : List ℕ) → from ≡ first → IsSegment j from to [] bytes → Begins bytes (chain_of j first to)
  segment_begins first from to bytes at h = record {
    old = chain_of j first from;
    begun = at;
    opening = λ zero. of_opening (world_of j.opening (take from j.entries)) j.opening
        (ap (λ (n : ℕ). world_of j.opening (take n j.entries)) (at ∙ zero));
    follows = segment_follows first from to bytes h;
  }

  -- where the oldest of these begins, before which come no others
  abbrev first_of : List Segment → ℕ → ℕ
  first_of [] to = to
  first_of (s ∷ ss) to = first_of ss s.at

  module _ (keep : Option ℕ) where
    first_below : (ss : List Segment) (to : ℕ) → AreComplete keep j ss to → first_of ss to ≤ to
    first_below [] to h = omega arith
    first_below (s ∷ ss) to h = let rising = h.0.rising in let before = first_below ss s.at h.1 in omega (arith, rising, before)

    first_oldest : (ss : List Segment) (to : ℕ) → AreComplete keep j ss to → IsOldest keep (first_of ss to)
    first_oldest [] to h = h
    first_oldest (s ∷ ss) to h = first_oldest ss s.at h.1

    complete_joined : (first : ℕ) (s : Segment) (ss : List Segment) (to : ℕ) → first_of ss s.at ≡ first → IsSegment j s.at to [] s.text →
        AreComplete keep j ss s.at → AreJoined (texts_of (s ∷ ss)) (drop first (take to j.entries)) (chain_of j first to)
    complete_joined first s [] to at h older =
        (segment_begins first s.at to s.text at h, ap (λ (n : ℕ). drop n (take to j.entries)) (sym at))
    complete_joined first s (t ∷ ss) to at h older =
        let rising = h.rising in
        let within = h.within in
        let below : first ≤ s.at = subst (λ (n : ℕ). n ≤ s.at) at (first_below (t ∷ ss) s.at older) in
        let short : first ≤ length (take s.at j.entries) =
        (let count = length-take-le s.at j.entries (omega (arith, rising, within)) in omega (arith, count, below)) in (
          chain_of j first s.at,
          drop first (take s.at j.entries),
          complete_joined first t ss s.at at older.0 older.1,
          segment_follows first s.at to s.text h,
          ap (drop first) (sym (parted j.entries s.at to rising))
              ∙ drop-append-le first (take s.at j.entries) (drop s.at (take to j.entries)) short,
        )

    -- segments that are complete tell the history up to where the newest ends
    complete_tell : (s : Segment) (ss : List Segment) (to : ℕ) → IsSegment j s.at to [] s.text → AreComplete keep j ss s.at →
        TellHistory keep j to (s ∷ ss)
    complete_tell s ss to h older =
        let rising = h.rising in
        let before = first_below ss s.at older in record {
          first = first_of ss s.at;
          oldest = first_oldest ss s.at older;
          below = omega (arith, rising, before);
          joined = complete_joined (first_of ss s.at) s ss to refl h older;
        }

    segments_tell : (ss : List Segment) (to : ℕ) (cut : List ℕ) → AreSegments keep j ss to cut → TellUpTo keep j to cut ss
    segments_tell [] to cut h = absurd h
    segments_tell (s ∷ ss) to cut h =
        let lines = entries_text s.at (between j.entries s.at to) in
        let text : List ℕ = h.0.state ++ (lines ++ []) in
        let front : Segment = record { at = s.at; text = text } in
        let none : lines ++ cut ≡ (lines ++ []) ++ cut = ap (λ (l : List ℕ). l ++ cut) (sym (append-nil lines)) in
        let is : s.text ≡ text ++ cut = h.0.is ∙ ap (λ (l : List ℕ). h.0.state ++ l) none ∙ sym (append_assoc h.0.state (lines ++ []) cut) in record {
          whole = front ∷ ss;
          cut_is = ap (λ (l : List ℕ). let t : Segment = record { at = s.at; text = l } in t ∷ ss) is;
          told = complete_tell front ss to (record {
            state = h.0.state;
            is_state = h.0.is_state;
            is = refl;
            rising = h.0.rising;
            within = h.0.within;
            each = h.0.each;
          }) h.1;
        }

    pub holds_up_to : (to : ℕ) (cut : List ℕ) (folder : Option FolderView) (v : FolderView) → folder ≡ Some v → IfSome folder (Holds keep j to cut) →
        TellUpTo keep j to cut v.segments
    holds_up_to to cut folder v is h =
        segments_tell v.segments to cut (subst (λ (o : Option FolderView). IfSome o (Holds keep j to cut)) is h)

    -- nothing is cut of one that ends with a whole line
    longer_none : (ss : List Segment) → longer [] ss ≡ ss
    longer_none [] = refl
    longer_none (s ∷ ss) = ap (λ (l : List ℕ). let t : Segment = record { at = s.at; text = l } in t ∷ ss) (append-nil s.text)

    pub tell_whole : (to : ℕ) (cut : List ℕ) (ss : List Segment) → cut ≡ [] → TellUpTo keep j to cut ss → TellHistory keep j to ss
    tell_whole to cut ss none h =
        subst (λ (l : List Segment). TellHistory keep j to l)
        (sym (h.cut_is ∙ ap (λ (c : List ℕ). longer c h.whole) none ∙ longer_none h.whole)) h.told

-- what the folder of a saver tells
pub has_told : (s : SegmentsView) (j : JournalView) (v : FolderView) → s.folder ≡ Some v → IsLegal j.opening j.entries → (h : HasSegments s j) →
    TellUpTo s.keep j s.saved h.cut v.segments
has_told s j v is legal h = holds_up_to j legal s.keep s.saved h.cut s.folder v is h.holds

-- and once all is saved
pub all_told : (s : SegmentsView) (j : JournalView) (v : FolderView) → s.folder ≡ Some v → IsLegal j.opening j.entries → IsAllSaved s →
    HasSegments s j → TellHistory s.keep j s.saved v.segments
all_told s j v is legal all h =
    let none : h.cut ≡ [] = sym (append-nil h.cut) ∙ ap (λ (l : List ℕ). h.cut ++ l) (sym all.none_left) ∙ sym h.lines
    ∙ ap (λ (n : ℕ). entries_text s.saved (between j.entries s.saved n)) (sym all.all) ∙ ap (entries_text s.saved) (between_none j.entries s.saved) in
    tell_whole j legal s.keep s.saved h.cut v.segments none (has_told s j v is legal h)
