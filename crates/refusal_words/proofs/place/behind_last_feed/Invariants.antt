use Rattle.std.proofs.Common.{◌≡◌, ◌+◌, ◌≤◌, length, take}
use Rattle.std.specs.List.{suffix_len}
use Rattle.refusal_words.specs.Places.{is_inside}
use Rattle.refusal_words.proofs.place.behind_last_feed.Given as goal

-- no line feed is from the start on
abbrev pub invariant-loop-start : goal.invariant-loop-start
invariant-loop-start l = record {
  within : l.start ≤ length l.text;
  cut : l.start + suffix_len is_inside l.text ≡ length l.text + suffix_len is_inside (take l.start l.text);
}

abbrev pub decreases-loop-start : goal.decreases-loop-start
decreases-loop-start l = l.start
