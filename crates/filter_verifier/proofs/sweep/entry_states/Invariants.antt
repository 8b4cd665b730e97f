use Rattle.std.proofs.Common.{◌≡◌, ℕ, length}
use Rattle.filter_verifier.specs.Sweep.{entry_state, state_at}
use Rattle.filter_verifier.proofs.sweep.entry_states.Given as goal

abbrev pub invariant-loop : goal.invariant-loop
invariant-loop l = record {
  wide : length l.in_states.items ≡ l.counter;
  waits : (k : ℕ) → state_at l.in_states.items k ≡ entry_state l.code k;
}
