use Rattle.std.proofs.Common.{◌≡◌, ℕ, []}
use Rattle.lock_rule.specs.Views.{with_failed_tries}
use Rattle.slot_lock.proofs.acquire.acquire.Given as goal

abbrev pub invariant-loop : goal.invariant-loop
invariant-loop g l = record {
  next : (goal.iterator-loop g).can_next l.iterator';
  finite : (goal.iterator-loop g).is_finite l.iterator';
  at : l.seat.table ≡ l.initial.seat.table;
  tries : ℕ;
  tried : l.seat.me ≡ (with_failed_tries tries l.initial.seat.me.0, []);
}
