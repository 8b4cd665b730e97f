use Rattle.std.proofs.Common.{◌≡◌, ◌+◌, ◌≤◌, length, take}
use Rattle.std.specs.List.{suffix_len}
use Rattle.line_protocol.specs.Words.{is_blank}
use Rattle.line_protocol.proofs.words.trim_end_blanks.Given as goal

-- what is cut off so far is blanks
abbrev pub invariant-loop-end : goal.invariant-loop-end
invariant-loop-end l = record {
  within : l.end ≤ length l.line;
  cut : l.end + suffix_len is_blank l.line ≡ length l.line + suffix_len is_blank (take l.end l.line);
}

abbrev pub decreases-loop-end : goal.decreases-loop-end
decreases-loop-end l = l.end
