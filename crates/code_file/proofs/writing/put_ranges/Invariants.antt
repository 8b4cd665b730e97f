use Rattle.std.proofs.Common.{◌≡◌, ◌++◌, ◌∷◌, [], ◌<◌, ℕ, take, get_or}
use Rattle.std.specs.List.{flat_map}
use Rattle.code_file.specs.Spelling.{bytes_of, range, IsRange}
use Rattle.code_file.proofs.writing.put_ranges.Given as goal

abbrev pub invariant-loop-range : goal.invariant-loop-range
invariant-loop-range l = record {
  written : l.out.items ≡ l.fn.out.items ++ flat_map (λ p. bytes_of (range p ∷ [])) (take l.range-index l.ranges);
  fits : (k : ℕ) (d : _) → k < l.range-index → IsRange (get_or l.ranges k d);
}
