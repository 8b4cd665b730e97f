use Rattle.std.proofs.Common.{refl}
use Rattle.filter_types.proofs.Names.{known_kind, unknown_kind}
use Rattle.filter_types.proofs.variables.resolve.Goals as goal

pub returns-in-None-clause-kind : goal.returns-in-None-clause-kind
returns-in-None-clause-kind c _ = unknown_kind c.args.variables.now c.args.name.now c.number_of.result c.number_of.ensures.value c.in-None.ensures.lookup.3

pub returns-in-Some-clause-kind : goal.returns-in-Some-clause-kind
returns-in-Some-clause-kind c =
    known_kind c.args.variables.now c.args.name.now c.number_of.result c.in-Some.variable.now
    c.number_of.ensures.value c.in-Some.ensures.lookup.3.0 c.in-Some.ensures.lookup.1

pub returns-in-None-clause-fault : goal.returns-in-None-clause-fault
returns-in-None-clause-fault c =
    (unknown_kind c.args.variables.now c.args.name.now c.number_of.result c.number_of.ensures.value c.in-None.ensures.lookup.3, refl)
