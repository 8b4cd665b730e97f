use Rattle.std.proofs.Common.{◌≡◌, ◌∙◌, ℕ, [], ap, drop, subst, sym}
use Rattle.std.specs.Option.{option_map}
use Rattle.history_saver.specs.Folders.{with_named, with_next}
use Rattle.history_saver.specs.Segments.{HasSegments, SegmentsView}
use Rattle.history_saver.specs.Steps.{IsStateAt}
use Rattle.history_saver.proofs.Chains.{has_named}
use Rattle.history_saver.proofs.segments.SegmentSaver.begin_next.Goals as goal

pub returns-in-Ok-clause-still : goal.returns-in-Ok-clause-still
returns-in-Ok-clause-still g c = λ j h is_state.
    let i = c.self.inside in
    let s : SegmentsView = record {
      folder = g.F.SegmentFolder.holds i.folder;
      every = i.rotation.every;
      keep = i.rotation.keep;
      back = i.rotation.back;
      begun = i.begun;
      saved = i.saved;
      read = i.read;
      rest = drop i.written i.lines.items;
    } in
    let state = c.args.state.now in
    let now = g.F.SegmentFolder.holds c.make_segment.new.folder in
    let read_is : c.args.self.now.saved ≡ i.read = c.requires.all.all ∙ sym (ap (λ (v : SegmentsView). v.read) c.self.view_is) in
    let all : i.saved ≡ i.read = ap (λ (v : SegmentsView). v.saved) c.self.view_is ∙ read_is in
    let none : s.rest ≡ [] = ap (λ (v : SegmentsView). v.rest) c.self.view_is ∙ c.requires.all.none_left in
    let is : now ≡ option_map (with_named i.read) (option_map (with_next state) s.folder) =
    subst (λ (n : ℕ). now ≡ option_map (with_named n) (option_map (with_next state) s.folder)) all c.in-Ok.ensures.made in
    subst (λ (n : ℕ). HasSegments (record s { folder = now; begun = n; saved = n }) j) (sym all)
    (has_named s j none (subst (λ (v : SegmentsView). HasSegments v j) (sym c.self.view_is) h) state
    (subst (λ (n : ℕ). IsStateAt j n state) read_is is_state) now is)
