use Rattle.std.proofs.Common.{◌≡◌, ◌+◌, ◌≤◌, length, take}
use Rattle.std.specs.List.{suffix_len}
use Rattle.filter_tokens.specs.Tokenization.{is_space}
use Rattle.filter_reports.proofs.check.trim_white_end.Given as goal

-- what is cut off so far is white space
abbrev pub invariant-loop-end : goal.invariant-loop-end
invariant-loop-end l = record {
  within : l.end ≤ length l.text;
  cut : l.end + suffix_len is_space l.text ≡ length l.text + suffix_len is_space (take l.end l.text);
}

abbrev pub decreases-loop-end : goal.decreases-loop-end
decreases-loop-end l = l.end
