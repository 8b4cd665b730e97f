use Rattle.std.proofs.Common.{◌≡◌, ◌-◌, length, All}
use Rattle.filter_code.specs.CodeView.{HasMask}
use Rattle.code_file.specs.Reading.{an_instruction, times, read}
use Rattle.code_file.proofs.Steps.{with_front}
use Rattle.code_file.proofs.reading.instructions.Given as goal

abbrev pub invariant-loop : goal.invariant-loop
invariant-loop l = record {
  told : with_front l.instrs.items (read (times (l.count - l.counter) (an_instruction l.version)) l.reader) ≡ read
      (times l.count (an_instruction l.version)) l.fn.reader;
  count : length l.instrs.items ≡ l.counter;
  masks : All HasMask l.instrs.items;
}
