use Rattle.std.proofs.Common.{◌≡◌, map, take, vec_len}
use Rattle.filter_checks.specs.Files.{test_view}
use Rattle.filter_checks.specs.Testing.{AreRun}
use Rattle.filter_checks.proofs.testing.run_all.Given as goal

-- the tests so far were run
abbrev pub invariant-loop-test : goal.invariant-loop-test
invariant-loop-test l = record {
  run : AreRun l.code l.size l.limit (map test_view (take l.test-index l.tests)) l.all.items;
  count : vec_len l.all ≡ l.test-index;
}
