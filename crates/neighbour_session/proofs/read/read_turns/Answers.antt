use Rattle.neighbour_session.proofs.Later.{absent_later, full_at_loss, never_unkept, reads_later}
use Rattle.neighbour_session.proofs.read.read_turns.Goals as goal

pub enter_later-requires-clause-full : goal.enter_later-requires-clause-full
enter_later-requires-clause-full g c =
    full_at_loss c.args.router.now c.args.session c.args.pass.now.fragment (g.L.Link.trace c.args.link.now) c.read_session-read.result
    c.read_session-read.new.pass.fragment (g.L.Link.trace c.read_session-read.new.link) c.in-Some.message c.in-Some.ensures.kept.1
    c.in-Some.ensures.kept.2 c.read_session-read.ensures.read

pub returns-in-Some-clause-read : goal.returns-in-Some-clause-read
returns-in-Some-clause-read g c =
    reads_later (g.C.SessionGuard.may_be_present c.args.guard.now) c.args.router.now c.args.session c.args.pass.now.fragment
    (g.L.Link.trace c.args.link.now) c.read_session-read.result c.read_session-read.new.pass.fragment
    (g.L.Link.trace c.read_session-read.new.link) c.in-Some.message c.enter_later.result c.enter_later.new.pass.fragment
    c.in-Some.ensures.kept.1 c.in-Some.ensures.kept.2 c.read_session-read.ensures.read c.enter_later.ensures.entered

pub returns-in-Some-clause-absent : goal.returns-in-Some-clause-absent
returns-in-Some-clause-absent g c = λ waits full.
    absent_later (g.C.SessionGuard.may_be_present c.args.guard.now) c.args.router.now c.args.session c.in-Some.message
    c.read_session-read.new.pass.fragment c.enter_later.result c.enter_later.new.pass.fragment c.enter_later.ensures.entered full

pub returns-in-None-clause-read : goal.returns-in-None-clause-read
returns-in-None-clause-read g c = (c.read_session-read.result.entered, c.read_session-read.result.lost, c.read_session-read.ensures.read)

pub returns-in-None-clause-absent : goal.returns-in-None-clause-absent
returns-in-None-clause-absent g c = λ waits full.
    absurd (never_unkept c.args.router.now c.args.session c.args.pass.now.fragment (g.L.Link.trace c.args.link.now) c.read_session-read.result
    c.read_session-read.new.pass.fragment (g.L.Link.trace c.read_session-read.new.link) c.read_session-read.ensures.read full
    (c.in-None.ensures.none waits full))
