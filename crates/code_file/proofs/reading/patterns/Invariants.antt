use Rattle.std.proofs.Common.{◌≡◌, ◌-◌, length}
use Rattle.code_file.specs.Reading.{a_pattern, times, read}
use Rattle.code_file.proofs.Steps.{with_front}
use Rattle.code_file.proofs.reading.patterns.Given as goal

abbrev pub invariant-loop : goal.invariant-loop
invariant-loop l = record {
  told : with_front l.patterns.items (read (times (l.count - l.counter) a_pattern) l.reader) ≡ read (times l.count a_pattern) l.fn.reader;
  count : length l.patterns.items ≡ l.counter;
}
