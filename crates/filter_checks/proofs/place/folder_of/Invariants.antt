use Rattle.std.proofs.Common.{◌≡◌, ◌+◌, ◌≤◌, length, take}
use Rattle.std.specs.List.{suffix_len}
use Rattle.filter_checks.specs.Places.{is_inside}
use Rattle.filter_checks.proofs.place.folder_of.Given as goal

-- what is cut off so far is within the folder
abbrev pub invariant-loop-end : goal.invariant-loop-end
invariant-loop-end l = record {
  within : l.end ≤ length l.name;
  cut : l.end + suffix_len is_inside l.name ≡ length l.name + suffix_len is_inside (take l.end l.name);
}

abbrev pub decreases-loop-end : goal.decreases-loop-end
decreases-loop-end l = l.end
