use Rattle.std.proofs.Common.{◌≡◌, ◌∙◌, ◌+◌, ◌-◌, List, ℕ, ◌++◌, ap, arith, drop, length, subst, sym, take}
use Rattle.std.proofs.lemmas.List.{drop-drop, length-drop, take-append-drop, take_all}
use Rattle.std.specs.Option.{option_map}
use Rattle.history_saver.specs.Folders.{with_written}
use Rattle.history_saver.specs.Segments.{HasSegments, SegmentsView}
use Rattle.history_saver.proofs.Chains.{has_written}
use Rattle.history_saver.proofs.segments.SegmentSaver.write_some.Goals as goal

-- a slice from a place to its end
to_end : (l : List ℕ) (n : ℕ) → take (length l - n) (drop n l) ≡ drop n l
to_end l n = take_all (length l - n) (drop n l) (let left = length-drop n l in omega (arith, left))

pub returns-in-Ok-clause-still : goal.returns-in-Ok-clause-still
returns-in-Ok-clause-still g c = λ j h.
    let i = c.self.inside in
    let s : SegmentsView = record {
      folder = g.F.SegmentFolder.holds i.folder;
      every = i.rotation.every;
      keep = i.rotation.keep;
      back = i.rotation.back;
      begun = i.begun;
      saved = i.saved;
      read = i.read;
      rest = drop i.written i.lines.items;
    } in
    let n = c.in-Ok.count in
    let now = g.F.SegmentFolder.holds c.write.new.self in
    let bytes = take n (drop i.written i.lines.items) in
    let rest = drop (i.written + n) i.lines.items in
    let parted : s.rest ≡ bytes ++ rest =
    sym (take-append-drop n (drop i.written i.lines.items)) ∙ ap (λ (l : List ℕ). bytes ++ l) (drop-drop n i.written i.lines.items) in
    let l = c.as_slice.result.now in
    let whole : take (length l - i.written) (drop i.written l) ≡ drop i.written i.lines.items =
    to_end l i.written ∙ ap (λ (x : List ℕ). drop i.written x) c.as_slice.ensures.value in
    let is : now ≡ option_map (with_written bytes) s.folder =
    subst (λ (x : List ℕ). now ≡ option_map (with_written (take n x)) s.folder) whole c.in-Ok.ensures.written in
    has_written s j bytes rest now parted is (subst (λ (v : SegmentsView). HasSegments v j) (sym c.self.view_is) h)
