use Rattle.std.proofs.Common.{◌≡◌, ◌++◌, ◌∷◌, [], ◌<◌, ℕ, take, get_or}
use Rattle.std.specs.List.{flat_map}
use Rattle.code_file.specs.Spelling.{bytes_of, pattern, IsPattern}
use Rattle.code_file.proofs.writing.put_patterns.Given as goal

abbrev pub invariant-loop-pattern : goal.invariant-loop-pattern
invariant-loop-pattern l = record {
  written : l.out.items ≡ l.fn.out.items ++ flat_map (λ p. bytes_of (pattern p ∷ [])) (take l.pattern-index l.patterns);
  fits : (k : ℕ) (d : _) → k < l.pattern-index → IsPattern (get_or l.patterns k d);
}
