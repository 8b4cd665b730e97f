use Rattle.std.proofs.Common.{refl}
use Rattle.netchange_core.proofs.States.{done}
use Rattle.netchange_core.proofs.state.State.handle.Goals as goal

pub returns-in-Some : goal.returns-in-Some
returns-in-Some c = rw (c.in-Down.is, ← c.in-Some.ensures.is) c.down.ensures

pub returns-in-None : goal.returns-in-None
returns-in-None c = rw (c.in-Down.is, ← c.in-None.ensures.is) (done _ _ _ _ refl refl c.requires)

pub returns-in-Some-holder : goal.returns-in-Some-holder
returns-in-Some-holder c = rw (c.in-Receive.is, ← c.in-Some-holder.ensures.is) c.receive.ensures

pub returns-in-None-holder : goal.returns-in-None-holder
returns-in-None-holder c = rw (c.in-Receive.is, ← c.in-None-holder.ensures.is) (done _ _ _ _ refl refl c.requires)

pub returns-in-Some-holder-2 : goal.returns-in-Some-holder-2
returns-in-Some-holder-2 c = rw (c.in-Take.is, ← c.in-Some-holder-2.ensures.is) c.take.ensures

pub returns-in-None-holder-2 : goal.returns-in-None-holder-2
returns-in-None-holder-2 c = rw (c.in-Take.is, ← c.in-None-holder-2.ensures.is) (done _ _ _ _ refl refl c.requires)
