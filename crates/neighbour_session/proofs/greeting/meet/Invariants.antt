use Rattle.std.proofs.Common.{◌≡◌, None}
use Rattle.std.specs.Prelude.{◌⊎◌}
use Rattle.neighbour_session.proofs.Meeting.{IsRead}
use Rattle.neighbour_session.proofs.greeting.meet.Given as goal

-- so many bytes were read so far; the line that was heard before is the first, or was heard
abbrev pub invariant-loop : goal.invariant-loop
invariant-loop g l = record {
  next : (goal.iterator-loop g).can_next l.iterator';
  finite : (goal.iterator-loop g).is_finite l.iterator';
  read : IsRead l.fn.input.left l.input.left;
  before : (l.before ≡ None) ⊎ (l.before ≡ l.fn.first);
}
