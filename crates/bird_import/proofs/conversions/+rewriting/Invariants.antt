use Rattle.std.proofs.Common.{◌+◌, ◌*◌, ◌≤◌, ℕ}
use Rattle.bird_import.specs.Steps.{BecomesWithin, Reaches}
use Rattle.bird_import.proofs.conversions.+rewriting.Given as goal

abbrev pub decreases-next_words : goal.decreases-next_words
decreases-next_words l = 3 * l.depth + 1

abbrev pub decreases-next_call : goal.decreases-next_call
decreases-next_call l = 3 * l.depth

abbrev pub decreases-rewrite : goal.decreases-rewrite
decreases-rewrite l = 3 * l.depth + 2

abbrev pub invariant-rewrite-loop-made : goal.invariant-rewrite-loop-made
invariant-rewrite-loop-made l =
    (n : ℕ) × (l.made ≤ n) × Reaches l.config.words.now (BecomesWithin l.config.words.now l.depth) n l.fn.words.items l.words.items
