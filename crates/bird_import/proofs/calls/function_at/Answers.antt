use Rattle.std.proofs.Common.{length, refl, arith}
use Rattle.std.proofs.lemmas.Option.{slice_get_read}
use Rattle.bird_import.specs.Stuck.{IsFunctionNamed}
use Rattle.bird_import.proofs.Halted.{function_here, no_function}
use Rattle.bird_import.proofs.calls.function_at.Goals as goal

pub returns-then-is_function_named-clause-some : goal.returns-then-is_function_named-clause-some
returns-then-is_function_named-clause-some c =
    let items = c.args.config.now.items.now in
    let found = c.in_ok-item.ensures.lookup in
    let is = slice_get_read items (length items) c.args.at c.in_ok-item.item.now refl found.3.0 found.1 in
    function_here c.args.config.now c.args.name.now c.args.at c.in_ok-item.item.now is (c.if-is_function_named.ensures.0 refl)

pub returns-else-is_function_named-clause-none : goal.returns-else-is_function_named-clause-none
returns-else-is_function_named-clause-none c _ =
    let items = c.args.config.now.items.now in
    let found = c.in_ok-item.ensures.lookup in
    let is = slice_get_read items (length items) c.args.at c.in_ok-item.item.now refl found.3.0 found.1 in
    let not : IsFunctionNamed c.args.name.now c.in_ok-item.item.now → ⊥ = λ named. grind (arith, c.if-is_function_named.ensures.1 named) in
    no_function c.args.config.now c.args.name.now c.args.at c.in_ok-item.item.now is not
