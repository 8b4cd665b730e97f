use Rattle.std.proofs.Common.{◌≡◌, ℕ, true, length}
use Rattle.domain_routes.specs.Left.{AreLeft}
use Rattle.domain_routes.specs.Solving.{is_done}
use Rattle.domain_routes.proofs.cutting.keep_more.Given as goal

-- what was done is done still, and the routes of all that are done are left
abbrev pub invariant-loop-u : goal.invariant-loop-u
invariant-loop-u l = record {
  marks : length l.done ≡ l.plan.size;
  left : AreLeft l.plan l.before (is_done l.done);
  still : (x : ℕ) → is_done l.initial.done x ≡ true → is_done l.done x ≡ true;
}
