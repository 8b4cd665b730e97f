-- Segments of a history, as it goes on and more of it is saved.
use Rattle.std.proofs.Common.{◌≡◌, ◌∙◌, sym, ap, subst, refl, ℕ, zero, suc, ◌+◌, ◌≤◌, List, [], ◌∷◌, ◌++◌, append_assoc, append-nil, length}
use Rattle.std.proofs.Common.{map, take, drop, Option, Some, None, arith}
use Rattle.std.specs.Prelude.{All, IfSome}
use Rattle.std.specs.Option.{option_map}
use Rattle.std.proofs.lemmas.List.Elements.{All-append}
use Rattle.std.proofs.lemmas.List.{drop-append-le, length-append, length-drop, length-map, length-take, length-take-le}
use Rattle.std.proofs.lemmas.List.{map-append, take-append-drop, take-append-le, take-take, take_all}
use Rattle.history_lines.specs.Fits.{FitsEntry}
use Rattle.history_file.specs.Segments.{IsStateText}
use Rattle.history_lines.specs.Text.{entries_text}
use Rattle.history_lines.specs.Views.{EntryView, entry_view}
use Rattle.history_saver.specs.Adding.{between}
use Rattle.history_saver.specs.Folders.{FolderView, Segment, longer, with_named, with_newest, with_next, with_written}
use Rattle.history_saver.specs.Segments.{AreComplete, AreSegments, BeginsAt, HasSegments, Holds, IsNewest, IsOldest, IsSegment, SegmentsView}
use Rattle.history_saver.specs.Steps.{IsStateAt}
use Rattle.history_saver.proofs.Texts.{between_none, entries_text-append, none_misfit}
use Rattle.route_history.specs.declared.entry.Entry.{Entry}
use Rattle.route_history.specs.Beginning.{Begins}
use Rattle.route_history.specs.History.{world_of}
use Rattle.route_history.specs.JournalView.{JournalView}

-- what lies between two positions, in two parts
module _ (es : List Entry) (from at to : ℕ) (le : from ≤ at) (on : at ≤ to) (within : at ≤ length es) where
  front_is : take at (take to es) ≡ take at es
  front_is = take-take at to es on

  pub between_parted : between es from at ++ between es at to ≡ between es from to
  between_parted =
      let short : from ≤ length (take at (take to es)) =
      (let size = ap (λ (l : List Entry). length l) front_is in let count = length-take-le at es within in omega (arith, size, count)) in
      ap (λ (l : List Entry). map entry_view (drop from l) ++ between es at to) (sym front_is)
      ∙ sym (map-append entry_view (drop from (take at (take to es))) (drop at (take to es)))
      ∙ ap (map entry_view) (sym (drop-append-le from (take at (take to es)) (drop at (take to es)) short)
      ∙ ap (drop from) (take-append-drop at (take to es)))

  between_count : at ≡ from + length (between es from at)
  between_count =
      let mapped = length-map (drop from (take at es)) entry_view in
      let dropped = length-drop from (take at es) in
      let taken = length-take-le at es within in omega (arith, mapped, dropped, taken)

  pub lines_parted : entries_text from (between es from at) ++ entries_text at (between es at to) ≡ entries_text from (between es from to)
  lines_parted =
      ap (λ n. entries_text from (between es from at) ++ entries_text n (between es at to)) between_count
      ∙ sym (entries_text-append from (between es from at) (between es at to))
      ∙ ap (entries_text from) between_parted

  pub each_parted : All FitsEntry (between es from at) → All FitsEntry (between es at to) → All FitsEntry (between es from to)
  each_parted one two =
      subst (λ (l : List EntryView). All FitsEntry l) between_parted
      (All-append FitsEntry (between es from at) (between es at to) one two)

-- a history that went on
module _ (j : JournalView) (es : List Entry) (b : Begins j.entries es) where
  abbrev gone_on : JournalView
  gone_on = record { opening = j.opening; limit = j.limit; entries = es }

  pub longer_than : length j.entries ≤ length es
  longer_than = let whole = ap (λ (l : List Entry). length l) b.is in let sum = length-append j.entries b.rest in omega (arith, whole, sum)

  front_stays : (n : ℕ) → n ≤ length j.entries → take n j.entries ≡ take n es
  front_stays n within = sym (ap (take n) b.is ∙ take-append-le n j.entries b.rest within)

  pub between_stays : (from to : ℕ) → to ≤ length j.entries → between j.entries from to ≡ between es from to
  between_stays from to within = ap (λ (l : List Entry). map entry_view (drop from l)) (front_stays to within)

  segment_stays : (from to : ℕ) (cut bytes : List ℕ) → IsSegment j from to cut bytes → IsSegment gone_on from to cut bytes
  segment_stays from to cut bytes h =
      let rising = h.rising in
      let within = h.within in record {
        state = h.state;
        is_state = subst (λ (l : List Entry). IsStateText j.limit from (world_of j.opening l) h.state)
            (front_stays from (omega (arith, rising, within))) h.is_state;
        is = h.is ∙ ap (λ (l : List EntryView). h.state ++ (entries_text from l ++ cut)) (between_stays from to within);
        rising = rising;
        within = let more = longer_than in omega (arith, within, more);
        each = subst (λ (l : List EntryView). All FitsEntry l) (between_stays from to within) h.each;
      }

  complete_stay : (keep : Option ℕ) (ss : List Segment) (to : ℕ) → AreComplete keep j ss to → AreComplete keep gone_on ss to
  complete_stay keep [] to h = h
  complete_stay keep (s ∷ ss) to h = (segment_stays s.at to [] s.text h.0, complete_stay keep ss s.at h.1)

  segments_stay : (keep : Option ℕ) (ss : List Segment) (to : ℕ) (cut : List ℕ) → AreSegments keep j ss to cut → AreSegments keep gone_on ss to cut
  segments_stay keep [] to cut h = h
  segments_stay keep (s ∷ ss) to cut h = (segment_stays s.at to cut s.text h.0, complete_stay keep ss s.at h.1)

  holds_still : (keep : Option ℕ) (to : ℕ) (cut : List ℕ) (folder : Option FolderView) → IfSome folder (Holds keep j to cut) →
      IfSome folder (Holds keep gone_on to cut)
  holds_still keep to cut None h = tt
  holds_still keep to cut (Some v) h = segments_stay keep v.segments to cut h

  pub has_still : (s : SegmentsView) → HasSegments s j → HasSegments s gone_on
  has_still s h = record {
    cut = h.cut;
    lines = ap (entries_text s.saved) (sym (between_stays s.saved s.read h.within)) ∙ h.lines;
    rising = h.rising;
    within = let within = h.within in let more = longer_than in omega (arith, within, more);
    each = subst (λ (l : List EntryView). All FitsEntry l) (between_stays s.saved s.read h.within) h.each;
    holds = holds_still s.keep s.saved h.cut s.folder h.holds;
    begins = h.begins;
  }

-- more bytes of what follows
module _ (keep : Option ℕ) (j : JournalView) (to : ℕ) (cut bytes : List ℕ) where
  segment_longer : (from : ℕ) (old : List ℕ) → IsSegment j from to cut old → IsSegment j from to (cut ++ bytes) (old ++ bytes)
  segment_longer from old h =
      let lines = entries_text from (between j.entries from to) in record {
        state = h.state;
        is_state = h.is_state;
        is = ap (λ (l : List ℕ). l ++ bytes) h.is ∙ append_assoc h.state (lines ++ cut) bytes
            ∙ ap (λ (l : List ℕ). h.state ++ l) (append_assoc lines cut bytes);
        rising = h.rising;
        within = h.within;
        each = h.each;
      }

  segments_longer : (ss : List Segment) → AreSegments keep j ss to cut → AreSegments keep j (longer bytes ss) to (cut ++ bytes)
  segments_longer [] h = h
  segments_longer (s ∷ ss) h = (segment_longer s.at s.text h.0, h.1)

  holds_longer : (old new : Option FolderView) → new ≡ option_map (with_written bytes) old → IfSome old (Holds keep j to cut) →
      IfSome new (Holds keep j to (cut ++ bytes))
  holds_longer None new is h = subst (λ (o : Option FolderView). IfSome o (Holds keep j to (cut ++ bytes))) (sym is) tt
  holds_longer (Some v) new is h =
      subst (λ (o : Option FolderView). IfSome o (Holds keep j to (cut ++ bytes))) (sym is) (segments_longer v.segments h)

-- and where the newest begins
newest_longer : (n : ℕ) (bytes : List ℕ) (ss : List Segment) → IsNewest n ss → IsNewest n (longer bytes ss)
newest_longer n bytes [] h = absurd h
newest_longer n bytes (s ∷ ss) h = h

begins_longer : (n : ℕ) (bytes : List ℕ) (old new : Option FolderView) → new ≡ option_map (with_written bytes) old → IfSome old (BeginsAt n) →
    IfSome new (BeginsAt n)
begins_longer n bytes None new is h = subst (λ (o : Option FolderView). IfSome o (BeginsAt n)) (sym is) tt
begins_longer n bytes (Some v) new is h =
    subst (λ (o : Option FolderView). IfSome o (BeginsAt n)) (sym is) (newest_longer n bytes v.segments h)

-- some of what was not written is written
pub has_written : (s : SegmentsView) (j : JournalView) (bytes rest : List ℕ) (now : Option FolderView) → s.rest ≡ bytes ++ rest →
    now ≡ option_map (with_written bytes) s.folder → HasSegments s j → HasSegments (record s { folder = now; rest = rest }) j
has_written s j bytes rest now parted is h = record {
  cut = h.cut ++ bytes;
  lines = h.lines ∙ ap (λ (l : List ℕ). h.cut ++ l) parted ∙ sym (append_assoc h.cut bytes rest);
  rising = h.rising;
  within = h.within;
  each = h.each;
  holds = holds_longer s.keep j s.saved h.cut bytes s.folder now is h.holds;
  begins = begins_longer s.begun bytes s.folder now is h.begins;
}

-- all lines of what follows
module _ (keep : Option ℕ) (j : JournalView) (at to : ℕ) (on : at ≤ to) (within : to ≤ length j.entries) (cut : List ℕ)
    (all : entries_text at (between j.entries at to) ≡ cut) (each : All FitsEntry (between j.entries at to)) where
  segment_on : (from : ℕ) (old : List ℕ) → IsSegment j from at cut old → IsSegment j from to [] old
  segment_on from old h =
      let lines = entries_text from (between j.entries from at) in
      let rising = h.rising in record {
        state = h.state;
        is_state = h.is_state;
        is = h.is ∙ ap (λ (l : List ℕ). h.state ++ l) (ap (λ (l : List ℕ). lines ++ l) (sym all)
            ∙ lines_parted j.entries from at to rising on h.within ∙ sym (append-nil (entries_text from (between j.entries from to))));
        rising = omega (arith, rising, on);
        within = within;
        each = each_parted j.entries from at to rising on h.within h.each each;
      }

  segments_on : (ss : List Segment) → AreSegments keep j ss at cut → AreSegments keep j ss to []
  segments_on [] h = h
  segments_on (s ∷ ss) h = (segment_on s.at s.text h.0, h.1)

  pub holds_on : (folder : Option FolderView) → IfSome folder (Holds keep j at cut) → IfSome folder (Holds keep j to [])
  holds_on None h = tt
  holds_on (Some v) h = segments_on v.segments h

-- nothing lies between a position and itself
no_lines : (j : JournalView) (n : ℕ) (rest : List ℕ) → rest ≡ [] → entries_text n (between j.entries n n) ≡ [] ++ rest
no_lines j n rest none = ap (entries_text n) (between_none j.entries n) ∙ sym none

-- a segment that has no entry yet
empty_segment : (j : JournalView) (n : ℕ) (state : List ℕ) → n ≤ length j.entries → IsStateAt j n state → IsSegment j n n [] state
empty_segment j n state within is_state = record {
  state = state;
  is_state = is_state;
  is = sym (ap (λ (l : List ℕ). state ++ l) (append-nil (entries_text n (between j.entries n n))
      ∙ ap (entries_text n) (between_none j.entries n)) ∙ append-nil state);
  rising = omega arith;
  within = within;
  each = none_misfit j.entries n;
}

-- a segment that got its name is the newest
begins_named : (n : ℕ) (state : List ℕ) (old new : Option FolderView) → new ≡ option_map (with_named n) (option_map (with_next state) old) →
    IfSome new (BeginsAt n)
begins_named n state None new is = subst (λ (o : Option FolderView). IfSome o (BeginsAt n)) (sym is) tt
begins_named n state (Some v) new is = subst (λ (o : Option FolderView). IfSome o (BeginsAt n)) (sym is) refl

-- all that was read is written
module _ (s : SegmentsView) (j : JournalView) (none : s.rest ≡ []) (h : HasSegments s j) where
  all_written : entries_text s.saved (between j.entries s.saved s.read) ≡ h.cut
  all_written = h.lines ∙ ap (λ (l : List ℕ). h.cut ++ l) none ∙ append-nil h.cut

  holds_all : IfSome s.folder (Holds s.keep j s.read [])
  holds_all = holds_on s.keep j s.saved s.read h.rising h.within h.cut all_written h.each s.folder h.holds

  -- with such a folder, and all saved
  pub has_all_in : (now : Option FolderView) (begun : ℕ) → IfSome now (Holds s.keep j s.read []) → IfSome now (BeginsAt begun) →
      HasSegments (record s { folder = now; begun = begun; saved = s.read }) j
  has_all_in now begun holds begins = record {
    cut = [];
    lines = no_lines j s.read s.rest none;
    rising = omega arith;
    within = h.within;
    each = none_misfit j.entries s.read;
    holds = holds;
    begins = begins;
  }

  pub has_all : HasSegments (record s { saved = s.read }) j
  has_all = has_all_in s.folder s.begun holds_all h.begins

  -- a new segment begins
  module _ (state : List ℕ) (is_state : IsStateAt j s.read state) where
    segments_named : (ss : List Segment) → AreSegments s.keep j ss s.read [] → AreComplete s.keep j ss s.read
    segments_named [] h = absurd h
    segments_named (t ∷ ss) h = h

    holds_named : (old new : Option FolderView) → new ≡ option_map (with_named s.read) (option_map (with_next state) old) →
        IfSome old (Holds s.keep j s.read []) → IfSome new (Holds s.keep j s.read [])
    holds_named None new is h = subst (λ (o : Option FolderView). IfSome o (Holds s.keep j s.read [])) (sym is) tt
    holds_named (Some v) new is x =
        subst (λ (o : Option FolderView). IfSome o (Holds s.keep j s.read [])) (sym is)
        (empty_segment j s.read state h.within is_state, segments_named v.segments x)

    pub has_named : (now : Option FolderView) → now ≡ option_map (with_named s.read) (option_map (with_next state) s.folder) →
        HasSegments (record s { folder = now; begun = s.read; saved = s.read }) j
    has_named now is = has_all_in now s.read (holds_named s.folder now is holds_all) (begins_named s.read state s.folder now is)

-- what has no name is another
holds_uncreated : (keep : Option ℕ) (j : JournalView) (to : ℕ) (cut bytes : List ℕ) (old new : Option FolderView) →
    new ≡ option_map (with_next bytes) old → IfSome old (Holds keep j to cut) → IfSome new (Holds keep j to cut)
holds_uncreated keep j to cut bytes None new is h = subst (λ (o : Option FolderView). IfSome o (Holds keep j to cut)) (sym is) tt
holds_uncreated keep j to cut bytes (Some v) new is h = subst (λ (o : Option FolderView). IfSome o (Holds keep j to cut)) (sym is) h

begins_uncreated : (n : ℕ) (bytes : List ℕ) (old new : Option FolderView) → new ≡ option_map (with_next bytes) old → IfSome old (BeginsAt n) →
    IfSome new (BeginsAt n)
begins_uncreated n bytes None new is h = subst (λ (o : Option FolderView). IfSome o (BeginsAt n)) (sym is) tt
begins_uncreated n bytes (Some v) new is h = subst (λ (o : Option FolderView). IfSome o (BeginsAt n)) (sym is) h

pub has_uncreated : (s : SegmentsView) (j : JournalView) (bytes : List ℕ) (now : Option FolderView) → now ≡ option_map (with_next bytes) s.folder →
    HasSegments s j → HasSegments (record s { folder = now }) j
has_uncreated s j bytes now is h = record {
  cut = h.cut;
  lines = h.lines;
  rising = h.rising;
  within = h.within;
  each = h.each;
  holds = holds_uncreated s.keep j s.saved h.cut bytes s.folder now is h.holds;
  begins = begins_uncreated s.begun bytes s.folder now is h.begins;
}

-- the oldest are removed
module _ (most : ℕ) (j : JournalView) where
  complete_left : (n : ℕ) (ss : List Segment) (to : ℕ) → AreComplete (Some most) j ss to → AreComplete (Some most) j (take n ss) to
  complete_left zero ss to h = tt
  complete_left (suc n) [] to h = tt
  complete_left (suc n) (s ∷ ss) to h = (h.0, complete_left n ss s.at h.1)

  segments_left : (n : ℕ) (ss : List Segment) (to : ℕ) (cut : List ℕ) → 1 ≤ n → AreSegments (Some most) j ss to cut →
      AreSegments (Some most) j (take n ss) to cut
  segments_left zero ss to cut some h = absurd (omega (arith, some))
  segments_left (suc n) [] to cut some h = h
  segments_left (suc n) (s ∷ ss) to cut some h = (h.0, complete_left n ss s.at h.1)

  holds_left : (n to : ℕ) (cut : List ℕ) (old new : Option FolderView) → 1 ≤ n → new ≡ option_map (with_newest n) old →
      IfSome old (Holds (Some most) j to cut) → IfSome new (Holds (Some most) j to cut)
  holds_left n to cut None new some is h = subst (λ (o : Option FolderView). IfSome o (Holds (Some most) j to cut)) (sym is) tt
  holds_left n to cut (Some v) new some is h =
      subst (λ (o : Option FolderView). IfSome o (Holds (Some most) j to cut)) (sym is) (segments_left n v.segments to cut some h)

  newest_left : (n at : ℕ) (ss : List Segment) → 1 ≤ n → IsNewest at ss → IsNewest at (take n ss)
  newest_left zero at ss some h = absurd (omega (arith, some))
  newest_left (suc n) at [] some h = h
  newest_left (suc n) at (s ∷ ss) some h = h

  begins_left : (n at : ℕ) (old new : Option FolderView) → 1 ≤ n → new ≡ option_map (with_newest n) old → IfSome old (BeginsAt at) →
      IfSome new (BeginsAt at)
  begins_left n at None new some is h = subst (λ (o : Option FolderView). IfSome o (BeginsAt at)) (sym is) tt
  begins_left n at (Some v) new some is h =
      subst (λ (o : Option FolderView). IfSome o (BeginsAt at)) (sym is) (newest_left n at v.segments some h)

  pub has_left : (s : SegmentsView) (n : ℕ) (now : Option FolderView) → s.keep ≡ Some most → 1 ≤ n → now ≡ option_map (with_newest n) s.folder →
      HasSegments s j → HasSegments (record s { folder = now }) j
  has_left s n now keep some is h = record {
    cut = h.cut;
    lines = h.lines;
    rising = h.rising;
    within = h.within;
    each = h.each;
    holds = subst (λ (k : Option ℕ). IfSome now (Holds k j s.saved h.cut)) (sym keep)
        (holds_left n s.saved h.cut s.folder now some is
        (subst (λ (k : Option ℕ). IfSome s.folder (Holds k j s.saved h.cut)) keep h.holds));
    begins = begins_left n s.begun s.folder now some is h.begins;
  }

-- more is read
pub has_read : (s : SegmentsView) (j : JournalView) (to : ℕ) (more rest : List ℕ) → s.read ≤ to → to ≤ length j.entries →
    more ≡ entries_text s.read (between j.entries s.read to) → All FitsEntry (between j.entries s.read to) → rest ≡ s.rest ++ more →
    HasSegments s j → HasSegments (record s { read = to; rest = rest }) j
has_read s j to more rest on within is each all h =
    let rising = h.rising in record {
      cut = h.cut;
      lines = sym (lines_parted j.entries s.saved s.read to rising on h.within)
          ∙ ap (λ (l : List ℕ). l ++ entries_text s.read (between j.entries s.read to)) h.lines
          ∙ append_assoc h.cut s.rest (entries_text s.read (between j.entries s.read to))
          ∙ ap (λ (l : List ℕ). h.cut ++ l) (ap (λ (l : List ℕ). s.rest ++ l) (sym is) ∙ sym all);
      rising = omega (arith, rising, on);
      within = within;
      each = each_parted j.entries s.saved s.read to rising on h.within h.each each;
      holds = h.holds;
      begins = h.begins;
    }

-- the first segment
oldest_first : (keep : Option ℕ) → IsOldest keep 0
oldest_first None = refl
oldest_first (Some most) = tt

holds_first : (keep : Option ℕ) (j : JournalView) (old now : Option FolderView) (state : List ℕ) → IfSome old (λ (v : FolderView). v.segments ≡ []) →
    now ≡ option_map (with_named 0) (option_map (with_next state) old) → IsStateAt j 0 state → IfSome now (Holds keep j 0 [])
holds_first keep j None now state empty is is_state = subst (λ (o : Option FolderView). IfSome o (Holds keep j 0 [])) (sym is) tt
holds_first keep j (Some v) now state empty is is_state =
    subst (λ (o : Option FolderView). IfSome o (Holds keep j 0 [])) (sym is)
    (empty_segment j 0 state (omega arith) is_state, subst (λ (ss : List Segment). AreComplete keep j ss 0) (sym empty) (oldest_first keep))

pub has_first : (every : ℕ) (keep : Option ℕ) (back : ℕ) (j : JournalView) (old now : Option FolderView) (state rest : List ℕ) → rest ≡ [] →
    IfSome old (λ (v : FolderView). v.segments ≡ []) → now ≡ option_map (with_named 0) (option_map (with_next state) old) → IsStateAt j 0 state →
    HasSegments (record { folder = now; every = every; keep = keep; back = back; begun = 0; saved = 0; read = 0; rest = rest }) j
has_first every keep back j old now state rest none empty is is_state = record {
  cut = [];
  lines = no_lines j 0 rest none;
  rising = omega arith;
  within = omega arith;
  each = none_misfit j.entries 0;
  holds = holds_first keep j old now state empty is is_state;
  begins = begins_named 0 state old now is;
}

-- the state after the whole history is that after as many entries as it has
pub end_state : (j : JournalView) (n : ℕ) (bytes : List ℕ) → n ≡ length j.entries → IsStateText j.limit n (world_of j.opening j.entries) bytes →
    IsStateAt j n bytes
end_state j n bytes whole h = subst (λ (l : List Entry). IsStateText j.limit n (world_of j.opening l) bytes)
    (sym (take_all n j.entries (omega (arith, whole)))) h
