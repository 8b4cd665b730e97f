use Rattle.std.proofs.Common.{refl}
use Rattle.bird_import.proofs.case_rules.is_case_taken.Goals as goal

pub returns-then-is_block : goal.returns-then-is_block
returns-then-is_block c = λ is. record {
  subject = c.in-Some.subject.now;
  parts = c.in-Some.parts.now;
  before = c.in-Some-take_apart.made.before.now;
  label = c.in-Some-take_apart.made.label.now;
  commands = c.in-Some-take_apart.made.commands.now;
  after = c.in-Some-take_apart.made.after.now;
  is_case = c.in-Some.ensures;
  parted = c.in-Some-take_apart.ensures;
  test = c.in-Some-tested.test.now;
  block = c.in-Some-tested.block.now;
  rest = c.in-Some-tested.rest.now;
  written = c.in-Some-tested.ensures;
  tested = c.if-not-are_tests.ensures refl;
  distinct = c.if-not-are_distinct.ensures refl;
  is_block = c.if-is_block.ensures refl;
  otherwise = c.is_otherwise.ensures is;
}
