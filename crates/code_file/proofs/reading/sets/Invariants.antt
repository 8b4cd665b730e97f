use Rattle.std.proofs.Common.{◌≡◌, ◌-◌, length}
use Rattle.code_file.specs.Reading.{a_set, times, read}
use Rattle.code_file.proofs.Steps.{with_front}
use Rattle.code_file.proofs.reading.sets.Given as goal

abbrev pub invariant-loop : goal.invariant-loop
invariant-loop l = record {
  told : with_front l.sets.items (read (times (l.count - l.counter) a_set) l.reader) ≡ read (times l.count a_set) l.fn.reader;
  count : length l.sets.items ≡ l.counter;
}
