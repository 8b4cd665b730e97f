use Rattle.std.proofs.Common.{◌∙◌, ap, drop, subst, sym}
use Rattle.history_saver.specs.Segments.{HasSegments, SegmentsView}
use Rattle.history_saver.proofs.Chains.{has_all}
use Rattle.history_saver.proofs.segments.SegmentSaver.note_saved.Goals as goal

pub returns-clause-still : goal.returns-clause-still
returns-clause-still g c = λ j h.
    let i = c.self.inside in
    let s : SegmentsView = record {
      folder = g.F.SegmentFolder.holds i.folder;
      every = i.rotation.every;
      keep = i.rotation.keep;
      back = i.rotation.back;
      begun = i.begun;
      saved = i.saved;
      read = i.read;
      rest = drop i.written i.lines.items;
    } in
    has_all s j (ap (λ (v : SegmentsView). v.rest) c.self.view_is ∙ c.requires)
    (subst (λ (v : SegmentsView). HasSegments v j) (sym c.self.view_is) h)
