use Rattle.history_file.proofs.Whole.{rest_found, rest_refused}
use Rattle.history_file.proofs.history.read_history.Goals as goal

pub returns-in-Ok-clause-found : goal.returns-in-Ok-clause-found
returns-in-Ok-clause-found c = rest_found c.args.bytes.now c.in-Some.first.now c.in-Some.rest.now c.in-Ok.opening c.in-Ok.limit
    c.read_rest.result c.in-Some.ensures c.in-Ok.ensures.0 c.in-Ok.ensures.1 c.read_rest.ensures

pub returns-in-Ok-clause-refused : goal.returns-in-Ok-clause-refused
returns-in-Ok-clause-refused c = rest_refused c.args.bytes.now c.in-Some.first.now c.in-Some.rest.now c.in-Ok.opening c.in-Ok.limit
    c.read_rest.result c.in-Some.ensures c.in-Ok.ensures.0 c.in-Ok.ensures.1 c.read_rest.ensures
