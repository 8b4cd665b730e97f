-- What is saved of a history is saved of its first entries, and of each history that goes on from it.
use Rattle.std.proofs.Common.{◌≡◌, ◌∙◌, sym, ap, subst, ℕ, ◌≤◌, List, [], ◌∷◌, ◌++◌, length, map, take, drop, Option, Some, None, arith}
use Rattle.std.specs.Prelude.{All, IfSome}
use Rattle.std.proofs.lemmas.List.{length-take-le, take-take}
use Rattle.history_lines.specs.Fits.{FitsEntry}
use Rattle.history_file.specs.Segments.{IsStateText}
use Rattle.history_lines.specs.Text.{entries_text}
use Rattle.history_lines.specs.Views.{EntryView, entry_view}
use Rattle.history_saver.specs.Adding.{between}
use Rattle.history_saver.specs.Folders.{FolderView, Segment}
use Rattle.history_saver.specs.Segments.{AreComplete, AreSegments, HasSegments, Holds, IsSegment, SegmentsView}
use Rattle.route_history.specs.declared.entry.Entry.{Entry}
use Rattle.route_history.specs.History.{world_of}
use Rattle.route_history.specs.JournalView.{JournalView}
pub use Rattle.history_saver.proofs.Chains.{has_still}

module _ (j : JournalView) (n : ℕ) (short : n ≤ length j.entries) where
  abbrev pub front : JournalView
  front = record { opening = j.opening; limit = j.limit; entries = take n j.entries }

  size : length front.entries ≡ n
  size = length-take-le n j.entries short

  between_same : (from to : ℕ) → to ≤ n → between j.entries from to ≡ between front.entries from to
  between_same from to le = ap (λ (l : List Entry). map entry_view (drop from l)) (sym (take-take to n j.entries le))

  segment_in : (from to : ℕ) (cut bytes : List ℕ) → to ≤ n → IsSegment j from to cut bytes → IsSegment front from to cut bytes
  segment_in from to cut bytes le h =
      let rising = h.rising in record {
        state = h.state;
        is_state = subst (λ (l : List Entry). IsStateText j.limit from (world_of j.opening l) h.state)
            (sym (take-take from n j.entries (omega (arith, rising, le)))) h.is_state;
        is = h.is ∙ ap (λ (l : List EntryView). h.state ++ (entries_text from l ++ cut)) (between_same from to le);
        rising = rising;
        within = let all = size in omega (arith, all, le);
        each = subst (λ (l : List EntryView). All FitsEntry l) (between_same from to le) h.each;
      }

  complete_in : (keep : Option ℕ) (ss : List Segment) (to : ℕ) → to ≤ n → AreComplete keep j ss to → AreComplete keep front ss to
  complete_in keep [] to le h = h
  complete_in keep (s ∷ ss) to le h =
      let rising = h.0.rising in (segment_in s.at to [] s.text le h.0, complete_in keep ss s.at (omega (arith, rising, le)) h.1)

  segments_in : (keep : Option ℕ) (ss : List Segment) (to : ℕ) (cut : List ℕ) → to ≤ n → AreSegments keep j ss to cut → AreSegments keep front ss to cut
  segments_in keep [] to cut le h = h
  segments_in keep (s ∷ ss) to cut le h =
      let rising = h.0.rising in (segment_in s.at to cut s.text le h.0, complete_in keep ss s.at (omega (arith, rising, le)) h.1)

  holds_in : (keep : Option ℕ) (to : ℕ) (cut : List ℕ) (folder : Option FolderView) → to ≤ n → IfSome folder (Holds keep j to cut) →
      IfSome folder (Holds keep front to cut)
  holds_in keep to cut None le h = tt
  holds_in keep to cut (Some v) le h = segments_in keep v.segments to cut le h

  pub has_front : (s : SegmentsView) → s.read ≤ n → HasSegments s j → HasSegments s front
  has_front s le h =
      let rising = h.rising in record {
        cut = h.cut;
        lines = ap (entries_text s.saved) (sym (between_same s.saved s.read le)) ∙ h.lines;
        rising = rising;
        within = let all = size in omega (arith, all, le);
        each = subst (λ (l : List EntryView). All FitsEntry l) (between_same s.saved s.read le) h.each;
        holds = holds_in s.keep s.saved h.cut s.folder (omega (arith, rising, le)) h.holds;
        begins = h.begins;
      }
