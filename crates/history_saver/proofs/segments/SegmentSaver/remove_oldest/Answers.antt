use Rattle.std.proofs.Common.{◌≡◌, ◌≤◌, ℕ, Option, Result, Ok, Err, OnErr, OnOk, arith, drop, subst, sym}
use Rattle.std.specs.Option.{option_map}
use Rattle.history_saver.specs.Folders.{FolderView, with_newest}
use Rattle.history_saver.specs.Segments.{HasSegments, SegmentsView}
use Rattle.history_saver.proofs.Chains.{has_left}
use Rattle.history_saver.proofs.segments.SegmentSaver.remove_oldest.Goals as goal

-- so many are left, or more
left_by : {T E : Type 0} (r : Result T E) (n : ℕ) (old new : Option FolderView) → OnOk r (new ≡ option_map (with_newest n) old) →
    OnErr r ((m : ℕ) × (n ≤ m) × (new ≡ option_map (with_newest m) old)) → (m : ℕ) × (n ≤ m) × (new ≡ option_map (with_newest m) old)
left_by (Ok u) n old new kept left = (n, omega arith, kept)
left_by (Err e) n old new kept left = left

pub returns-clause-still : goal.returns-clause-still
returns-clause-still g c = λ j h.
    let i = c.self.inside in
    let s : SegmentsView = record {
      folder = g.F.SegmentFolder.holds i.folder;
      every = i.rotation.every;
      keep = i.rotation.keep;
      back = i.rotation.back;
      begun = i.begun;
      saved = i.saved;
      read = i.read;
      rest = drop i.written i.lines.items;
    } in
    let now = g.F.SegmentFolder.holds c.keep.new.self in
    let some : 1 ≤ c.max.result = omega arith in
    let left = left_by c.keep.result c.max.result s.folder now c.keep.ensures.kept c.keep.ensures.left in
    let more = left.1 in
    has_left c.in-Some.count j s left.0 now c.in-Some.is (omega (arith, more, some)) left.2
    (subst (λ (v : SegmentsView). HasSegments v j) (sym c.self.view_is) h)
