use Rattle.std.proofs.Common.{◌-◌, arith}
use Rattle.filter_verifier.proofs.JoinedPlaces.{unknown_at}
use Rattle.filter_verifier.proofs.abstract_frame.fill.Goals as goal

pub returns-in-None-clause-unknown : goal.returns-in-None-clause-unknown
returns-in-None-clause-unknown c = λ e.
    unknown_at c.args.places.now (c.loop-at.at - 1) _ (omega (arith, c.loop-at-test.true, c.loop-at.auto.at)) c.in-None.is
