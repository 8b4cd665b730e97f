use Rattle.std.proofs.lemmas.Result.{err_from_is_err_and}
use Rattle.filter_types.proofs.CommandFaulting.{body_fault, variables_fault}
use Rattle.filter_types.proofs.Keeping.{place_kept}
use Rattle.filter_types.proofs.typed.judge.Goals as goal

pub returns-in_err-check_variables-clause-fault : goal.returns-in_err-check_variables-clause-fault
returns-in_err-check_variables-clause-fault c =
    let p = err_from_is_err_and c.from_residual.result c.from_residual.ensures.1 in
    rw (p.1, p.2) (λ no. variables_fault c.args.filter.now c.decls.result.now c.in_err-check_variables.field-0.0 c.decls.ensures.value
    c.in_err-check_variables.ensures.fault)

pub returns-in_err-check_variables-clause-placed : goal.returns-in_err-check_variables-clause-placed
returns-in_err-check_variables-clause-placed c =
    let p = err_from_is_err_and c.from_residual.result c.from_residual.ensures.1 in
    let why = c.in_err-check_variables.field-0.0 in
    rw (p.1, p.2) (λ no. place_kept c.args.filter.now why (variables_fault c.args.filter.now c.decls.result.now why c.decls.ensures.value
    c.in_err-check_variables.ensures.fault))

pub returns-in_err-check_commands-clause-fault : goal.returns-in_err-check_commands-clause-fault
returns-in_err-check_commands-clause-fault c =
    let p = err_from_is_err_and c.from_residual-in_err-check_commands.result c.from_residual-in_err-check_commands.ensures.1 in
    rw (p.1, p.2) (λ no. body_fault c.args.filter.now c.decls-2.result.now c.body.result.now c.in_err-check_commands.field-0.0 c.decls-2.ensures.value
    c.body.ensures.value (c.in_err-check_commands.ensures.fault no))

pub returns-in_err-check_commands-clause-placed : goal.returns-in_err-check_commands-clause-placed
returns-in_err-check_commands-clause-placed c =
    let p = err_from_is_err_and c.from_residual-in_err-check_commands.result c.from_residual-in_err-check_commands.ensures.1 in
    let why = c.in_err-check_commands.field-0.0 in
    rw (p.1, p.2) (λ no. place_kept c.args.filter.now why (body_fault c.args.filter.now c.decls-2.result.now c.body.result.now why c.decls-2.ensures.value
    c.body.ensures.value (c.in_err-check_commands.ensures.fault no)))
