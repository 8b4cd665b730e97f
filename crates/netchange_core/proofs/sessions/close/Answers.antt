use Rattle.std.proofs.Common.{None, set, subst, sym}
use Rattle.netchange_core.specs.Present.{ArePresent}
use Rattle.netchange_core.proofs.Presence.{one_less}
use Rattle.netchange_core.proofs.sessions.close.Goals as goal

pub returns-in-Some : goal.returns-in-Some
returns-in-Some c = λ count node sessions held are.
    let found = rw c.deref.ensures.value at c.in-Some.ensures.found in
    subst (ArePresent count (set sessions node None)) (sym c.remove.ensures.items)
    (one_less count c.in-Some.index node c.args.session sessions c.args.present.now.items found.0 found.1 held are)
