use Rattle.std.proofs.Common.{◌-◌, ◌≤◌, max}
use Rattle.history_saver.specs.Looking.{Looks, seen_by}
use Rattle.history_saver.specs.Segments.{HasSegments}
use Rattle.history_saver.specs.Steps.{BeginsDue, IsAllSaved, IsAsPlanned}
use Rattle.history_saver.proofs.segments.SegmentSaver.save.Given as goal

-- all that is read is saved, and nothing else is forgotten
abbrev pub invariant-loop : goal.invariant-loop
invariant-loop g l = record {
  next : (goal.iterator-loop g).can_next l.iterator';
  finite : (goal.iterator-loop g).is_finite l.iterator';
  right : Looks l.router l.fn.right l.right;
  plan : IsAsPlanned l.fn.self l.self;
  saved : HasSegments l.self (seen_by l.router l.right);
  all : IsAllSaved l.self;
  kept : l.right.fragment.forgot ≤ l.self.saved;
  begun : BeginsDue l.fn.self l.self;
  asked : l.right.fragment.forgot ≤ max l.fn.right.fragment.forgot (l.self.saved - l.self.back);
}
