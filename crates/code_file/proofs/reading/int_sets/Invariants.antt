use Rattle.std.proofs.Common.{◌≡◌, ◌-◌, length}
use Rattle.code_file.specs.Reading.{an_int_set, times, read}
use Rattle.code_file.proofs.Steps.{with_front}
use Rattle.code_file.proofs.reading.int_sets.Given as goal

abbrev pub invariant-loop : goal.invariant-loop
invariant-loop l = record {
  told : with_front l.sets.items (read (times (l.count - l.counter) an_int_set) l.reader) ≡ read (times l.count an_int_set) l.fn.reader;
  count : length l.sets.items ≡ l.counter;
}
