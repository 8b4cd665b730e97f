use Rattle.std.proofs.Common.{◌≡◌, ◌<◌, ◌∙◌, List, ℕ, ap, arith, length, map, sym}
use Rattle.std.specs.Prelude.{Ok}
use Rattle.std.proofs.lemmas.Grind.{common_steps}
use Rattle.filter_checks.specs.Files.{test_view}
use Rattle.filter_checks.proofs.TestFiles.{with_none, with_some}
use Rattle.filter_checks.proofs.test_file.with_tests.Goals as goal

pub returns-then-is_empty : goal.returns-then-is_empty
returns-then-is_empty c other =
    let none : length c.args.tests.items ≡ 0 = grind (arith, common_steps) in
    with_none c.args.filter.now c.args.size c.args.tests.items none

pub returns : goal.returns
returns c =
    let some : 0 < length c.args.tests.items = grind (arith, common_steps) in
    with_some c.args.filter.now c.args.size c.args.tests.items some
    ∙ ap (λ (name : List ℕ). Ok (record { filter = name; size = c.args.size; tests = map test_view c.args.tests.items }))
    (sym c.in_ok-filter.ensures.items)
