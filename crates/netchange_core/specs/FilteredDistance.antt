-- What becomes of a distance under a filter. (This project's own choice.)
use Rattle.std.specs.Prelude.{ℕ, ◌==◌, Bool, if◌then◌else◌, Option, Some, None, List, [], slice_index_or}
use Rattle.filter_code.specs.declared.outcome.Outcome.{Outcome}
use Rattle.filter_code.specs.declared.outcome.Outcome.TheVariants as outcome
use Rattle.filter_code.specs.Machine.{outcome_of}
use Rattle.filter_machine.specs.Verdicts.{announced}
use Rattle.filter_verifier.specs.VerifiedView.{VerifiedView}
use Rattle.netchange_core.specs.OpeningView.{OpeningView}

-- the distance that an outcome gives: the one accepted, and the size of the domain, which says that there is no way, where
-- the filter rejects or faults
abbrev pub distance_given : ℕ → Outcome → ℕ
distance_given size (outcome.Accept d) = d
distance_given size outcome.Reject = size
distance_given size (outcome.Fault kind at) = size

-- the bits of a node's prefix
abbrev pub prefix_of : OpeningView → ℕ → List Bool
prefix_of o v = slice_index_or o.prefixes v []

-- what a distance to a node becomes under a filter, which is shown the node's prefix. Without a filter the distance stays;
-- and no filter is asked about a node that cannot be reached.
unfoldable pub filtered_distance : OpeningView → Option VerifiedView → ℕ → ℕ → ℕ
filtered_distance o None v d = d
filtered_distance o (Some f) v d =
    if d == o.size then o.size else distance_given o.size (outcome_of f.program (announced (prefix_of o v) d o.size))
