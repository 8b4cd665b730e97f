use Rattle.std.proofs.Common.{◌≡◌, ◌++◌, ◌<◌, ℕ, take, get_or}
use Rattle.std.specs.List.{flat_map}
use Rattle.code_file.specs.Spelling.{bytes_of, int_set, IsIntSet}
use Rattle.code_file.proofs.writing.put_int_sets.Given as goal

abbrev pub invariant-loop-set : goal.invariant-loop-set
invariant-loop-set l = record {
  written : l.out.items ≡ l.fn.out.items ++ flat_map (λ p. bytes_of (int_set p)) (take l.set-index l.sets);
  fits : (k : ℕ) (d : _) → k < l.set-index → IsIntSet (get_or l.sets k d);
}
