-- The filter gets the name.
use Rattle.operator_cmds.proofs.Naming.{gets}
use Rattle.operator_cmds.proofs.filter.give_name.Goals as goal

pub returns-clause-ok : goal.returns-clause-ok
returns-clause-ok c =
    gets c.args.filters.now c.insert.new.self c.in_ok-from_slice.field-0 c.args.filter c.args.name.now c.in_ok-from_slice.ensures.items
    c.in_ok-insert.ensures.updates
