use Rattle.std.proofs.Common.{◌≡◌, ◌≢◌, Some, inl, inr, map, ap, subst, ◌∙◌, arith}
use Rattle.std.proofs.lemmas.List.{take_all}
use Rattle.std.proofs.lemmas.Result.{err_from_is_err_and}
use Rattle.filter_syntax.specs.Syntax.{view}
use Rattle.filter_syntax.specs.SyntaxCommands.{parts_of, view_command, view_decl, view_part}
use Rattle.filter_types.specs.Kinds.{KindsFitParts}
use Rattle.filter_syntax.specs.declared.tree.command.Command.TheVariants as command
use Rattle.filter_types.specs.Faults.{CommandHasFault}
use Rattle.filter_types.specs.declared.fault.TypeFault.{TypeFault}
use Rattle.filter_types.specs.declared.fault.TypeFault.TheVariants as fault
use Rattle.filter_types.proofs.Blaming.{contains_at, contains_flat}
use Rattle.filter_types.proofs.CommandFaulting.{argument_fault, assign_fault, block_fault, chosen_fault, other_fault, parts_fault}
use Rattle.filter_types.proofs.CommandFaulting.{OneHasFault, shares_label, test_fault}
use Rattle.filter_types.proofs.Erring.{err_map}
use Rattle.filter_types.proofs.Bodies.{all_apart, case_judged, fits_at, fits_next, parts_at, parts_next, some_apart}
use Rattle.filter_types.proofs.Views.{view_case}
use Rattle.filter_types.proofs.commands.+command.Goals as goal

pub check_commands-returns-in_err-check_command-clause-judged : goal.check_commands-returns-in_err-check_command-clause-judged
check_commands-returns-in_err-check_command-clause-judged t c =
    let p = err_from_is_err_and c.from_residual.result c.from_residual.ensures.1 in
    rw (p.1, p.2) (λ no all. c.in_err-check_command.ensures.judged no
    (fits_at (map view_decl c.args.variables.now) c.args.commands.now c.loop-command.command-index c.command-item.result
    c.loop-command-test.true c.command-item.is all))

pub check_commands-loop-command-preserved : goal.check_commands-loop-command-preserved
check_commands-loop-command-preserved t c =
    fits_next (map view_decl c.args.variables.now) c.args.commands.now c.loop-command.command-index c.command-item.result
    c.loop-command-test.true c.command-item.is c.loop-command.invariant c.in_ok-check_command.ensures.judged

pub check_command-returns-in_ok-check_argument-in-Case-clause-judged : goal.check_command-returns-in_ok-check_argument-in-Case-clause-judged
check_command-returns-in_ok-check_argument-in-Case-clause-judged t c =
    case_judged (map view_decl c.args.variables.now) (view_command c.args.command.now) (view c.in-Case.argument)
    (parts_of (map view_part c.deref-in-Case.result.now)) c.check_parts.result
    (view_case c.args.command.now c.in-Case.field-0 c.in-Case.argument c.in-Case.parts c.deref-in-Case.result.now c.in-Case.is
    c.deref-in-Case.ensures.value)
    c.in_ok-check_argument-in-Case.ensures.judged c.check_parts.ensures.judged

pub check_parts-returns-then-number-shared-clause-judged : goal.check_parts-returns-then-number-shared-clause-judged
check_parts-returns-then-number-shared-clause-judged t c _ fit =
    let same : c.loop-number.number ≡ c.in_ok-shared.shared = c.if-number-shared.true in
    c.in_ok-shared.ensures.most (omega (arith, same, c.loop-number-test.true))
    (some_apart c.args.parts.now _ (omega (arith, same, c.loop-number-test.true)) fit.0)

pub check_parts-returns-in_err-check_commands-clause-judged : goal.check_parts-returns-in_err-check_commands-clause-judged
check_parts-returns-in_err-check_commands-clause-judged t c =
    let p = err_from_is_err_and c.from_residual-in_err-check_commands.result c.from_residual-in_err-check_commands.ensures.1 in
    rw (p.1, p.2) (λ no all. c.in_err-check_commands.ensures.judged no
    (rw c.deref.ensures.value (parts_at (map view_decl c.args.variables.now) c.args.parts.now c.loop-number.number c.index-parts-number.result
    c.loop-number-test.true c.index-parts-number.is all.1)))

pub check_parts-loop-number-preserved : goal.check_parts-loop-number-preserved
check_parts-loop-number-preserved t c = (
  parts_next (map view_decl c.args.variables.now) c.args.parts.now c.loop-number.number c.index-parts-number.result c.loop-number-test.true
      c.index-parts-number.is c.loop-number.invariant.0 (rw c.deref.ensures.value at c.in_ok-check_commands.ensures.judged),
  let other = c.if-number-shared.false in omega (arith, c.loop-number.invariant.1),
)

pub check_parts-returns-clause-judged : goal.check_parts-returns-clause-judged
check_parts-returns-clause-judged t c =
    let parts = c.args.parts.now in (
      all_apart parts c.in_ok-shared.shared (omega (arith, c.loop-number-test.false, c.loop-number.invariant.1)) c.in_ok-shared.ensures.apart,
      subst (λ xs. KindsFitParts (map view_decl c.args.variables.now) (parts_of (map view_part xs)))
          (take_all c.loop-number.number parts (omega (arith, c.loop-number-test.false))) c.loop-number.invariant.0,
    )

-- ---- the faults

pub check_command-returns-in_err-check_test-in-If-clause-fault : goal.check_command-returns-in_err-check_test-in-If-clause-fault
check_command-returns-in_err-check_test-in-If-clause-fault t c =
    let p = err_from_is_err_and c.from_residual.result c.from_residual.ensures.1 in
    rw (p.1, p.2) (λ no. test_fault (map view_decl c.args.variables.now) c.args.command.now _ c.in-If.field-0 c.in-If.test c.in-If.chosen
    c.in-If.other c.in-If.is c.in_err-check_test-in-If.ensures.fault)

pub check_command-returns-in_err-check_command-in-If-clause-fault : goal.check_command-returns-in_err-check_command-in-If-clause-fault
check_command-returns-in_err-check_command-in-If-clause-fault t c =
    let p = err_from_is_err_and c.from_residual-in_err-check_command-in-If.result c.from_residual-in_err-check_command-in-If.ensures.1 in
    rw (p.1, p.2) (λ no. chosen_fault (map view_decl c.args.variables.now) c.args.command.now _ c.in-If.field-0 c.in-If.test c.in-If.chosen
    c.in-If.other c.deref-in-If.result.now c.in-If.is c.deref-in-If.ensures (c.in_err-check_command-in-If.ensures.fault no))

pub check_command-returns-in_err-check_argument-in-Case-clause-fault : goal.check_command-returns-in_err-check_argument-in-Case-clause-fault
check_command-returns-in_err-check_argument-in-Case-clause-fault t c =
    let p = err_from_is_err_and c.from_residual-in_err-check_argument-in-Case.result c.from_residual-in_err-check_argument-in-Case.ensures.1 in
    rw (p.1, p.2) (λ no. argument_fault (map view_decl c.args.variables.now) c.args.command.now _ c.in-Case.field-0 c.in-Case.argument
    c.in-Case.parts c.in-Case.is c.in_err-check_argument-in-Case.ensures.fault)

pub check_command-returns-in-Block-clause-fault : goal.check_command-returns-in-Block-clause-fault
check_command-returns-in-Block-clause-fault t c =
    let vs = map view_decl c.args.variables.now in
    let x = c.args.command.now in
    err_map c.check_commands.result _ (λ why. why ≢ fault.Memory → CommandHasFault vs x why)
    (λ why h no. block_fault vs x why c.in-Block.field-0 c.in-Block.body c.deref.result.now c.in-Block.is c.deref.ensures.value (h no))
    c.check_commands.ensures.fault

pub check_command-returns-in-Some-clause-fault : goal.check_command-returns-in-Some-clause-fault
check_command-returns-in-Some-clause-fault t c =
    let vs = map view_decl c.args.variables.now in
    let x = c.args.command.now in
    let is : x ≡ command.If c.in-If.field-0 c.in-If.test c.in-If.chosen (Some c.in-Some.other) =
    c.in-If.is ∙ ap (λ o. command.If c.in-If.field-0 c.in-If.test c.in-If.chosen o) c.in-Some.is in
    err_map c.check_command-in-Some.result _ (λ why. why ≢ fault.Memory → CommandHasFault vs x why)
    (λ why h no. other_fault vs x why c.in-If.field-0 c.in-If.test c.in-If.chosen c.in-Some.other c.deref-in-Some.result.now is
    c.deref-in-Some.ensures (h no))
    c.check_command-in-Some.ensures.fault

pub check_command-returns-in_ok-check_argument-in-Case-clause-fault : goal.check_command-returns-in_ok-check_argument-in-Case-clause-fault
check_command-returns-in_ok-check_argument-in-Case-clause-fault t c =
    let vs = map view_decl c.args.variables.now in
    let x = c.args.command.now in
    err_map c.check_parts.result _ (λ why. why ≢ fault.Memory → CommandHasFault vs x why)
    (λ why h no. parts_fault vs x why c.in-Case.field-0 c.in-Case.argument c.in-Case.parts c.deref-in-Case.result.now c.in-Case.is
    c.deref-in-Case.ensures.value (h no))
    c.check_parts.ensures.fault

pub check_command-returns-in-Assign-clause-fault : goal.check_command-returns-in-Assign-clause-fault
check_command-returns-in-Assign-clause-fault t c =
    let vs = map view_decl c.args.variables.now in
    let x = c.args.command.now in
    err_map c.check_assignment.result _ (λ why. why ≢ fault.Memory → CommandHasFault vs x why)
    (λ why h no. assign_fault vs x why c.in-Assign.at c.in-Assign.target c.in-Assign.value c.in-Assign.is h)
    c.check_assignment.ensures.fault

pub check_parts-returns-then-number-shared-clause-fault : goal.check_parts-returns-then-number-shared-clause-fault
check_parts-returns-then-number-shared-clause-fault t c other =
    inl (shares_label c.args.parts.now c.loop-number.number c.in_ok-shared.shared c.index-parts-number.result c.shared_label.result
    c.if-number-shared.true c.loop-number-test.true c.index-parts-number.is c.in_ok-shared.ensures.apart c.in_ok-shared.ensures.most
    c.shared_label.ensures)

pub check_parts-returns-in_err-check_commands-clause-fault : goal.check_parts-returns-in_err-check_commands-clause-fault
check_parts-returns-in_err-check_commands-clause-fault t c =
    let p = err_from_is_err_and c.from_residual-in_err-check_commands.result c.from_residual-in_err-check_commands.ensures.1 in
    rw (p.1, p.2) (λ no.
    let h : OneHasFault (map view_decl c.args.variables.now) c.deref.result.now c.in_err-check_commands.field-0.0 =
    c.in_err-check_commands.ensures.fault no in
    inr (
      h.0,
      contains_flat (λ p. p.1.items) c.args.parts.now c.index-parts-number.result h.0
          (contains_at c.args.parts.now c.loop-number.number c.index-parts-number.result c.loop-number-test.true c.index-parts-number.is)
          (rw c.deref.ensures.value at h.1),
      h.2,
    ))
