use Rattle.std.proofs.Common.{◌≡◌, ◌-◌, length}
use Rattle.code_file.specs.Reading.{a_range, times, read}
use Rattle.code_file.proofs.Steps.{with_front}
use Rattle.code_file.proofs.reading.ranges.Given as goal

abbrev pub invariant-loop : goal.invariant-loop
invariant-loop l = record {
  told : with_front l.ranges.items (read (times (l.count - l.counter) a_range) l.reader) ≡ read (times l.count a_range) l.fn.reader;
  count : length l.ranges.items ≡ l.counter;
}
