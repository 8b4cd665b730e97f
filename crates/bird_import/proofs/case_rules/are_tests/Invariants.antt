use Rattle.std.specs.Prelude.{ℕ}
use Rattle.bird_import.specs.Cases.{AreSomeTests, AreTests}
use Rattle.bird_import.proofs.case_rules.are_tests.Given as goal

abbrev pub invariant-loop : goal.invariant-loop
invariant-loop l = (n : ℕ) → AreTests l.subject n l.labels l.tests → AreSomeTests l.subject l.label l.test
