use Rattle.history_saver.specs.Segments.{HasSegments}
use Rattle.history_saver.specs.Steps.{OnlyWrites}
use Rattle.route_history.specs.JournalView.{JournalView}
use Rattle.history_saver.proofs.segments.SegmentSaver.write_rest.Given as goal

-- lines were written, and nothing else was done
abbrev pub invariant-loop : goal.invariant-loop
invariant-loop g l = record {
  only : OnlyWrites l.fn.self l.self;
  still : (j : JournalView) → HasSegments l.fn.self j → HasSegments l.self j;
}
