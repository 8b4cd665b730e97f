use Rattle.std.proofs.Common.{inl, refl, rules}
use Rattle.neighbour_session.proofs.Meeting.{taken_next}
use Rattle.neighbour_session.proofs.greeting.take_said.Goals as goal

pub returns-in-Some-clause-said : goal.returns-in-Some-clause-said
returns-in-Some-clause-said g c = inl (search rules, refl)

pub returns-in-None-clause-said : goal.returns-in-None-clause-said
returns-in-None-clause-said g c =
    taken_next c.args.before.now c.next_said.result c.args.input.now c.next_said.new.input c.next_said.ensures.said
