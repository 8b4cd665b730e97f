-- A file with tests, and one without.
use Rattle.std.proofs.Common.{◌≡◌, ℕ, ◌<◌, List, [], ◌∷◌, Ok, Err, length, map, refl, arith}
use Rattle.filter_checks.specs.Files.{test_view, with_tests}
use Rattle.filter_checks.specs.declared.test_file.Test.{Test}
use Rattle.filter_checks.specs.declared.test_file.TestFileFault.TheVariants as fault

pub with_none : (name : List ℕ) (size : ℕ) (tests : List Test) → length tests ≡ 0
    → with_tests name size (Ok (map test_view tests)) ≡ Err fault.NoTest
with_none name size [] none = refl
with_none name size (test ∷ tests) none = absurd (omega arith)

pub with_some : (name : List ℕ) (size : ℕ) (tests : List Test) → 0 < length tests
    → with_tests name size (Ok (map test_view tests)) ≡ Ok (record { filter = name; size = size; tests = map test_view tests })
with_some name size [] some = absurd (omega arith)
with_some name size (test ∷ tests) some = refl
