use Rattle.std.proofs.Common.{IfSome, map, subst, arith, rules}
use Rattle.netchange_core.specs.Consistent.{AreConsistentNeighbours}
use Rattle.netchange_core.specs.Kept.{view_of}
use Rattle.netchange_core.specs.Present.{ArePresent, sessions_of}
use Rattle.netchange_core.proofs.Inserted.{present_sessions}
use Rattle.netchange_core.proofs.tables.Tables.restore.Goals as goal

pub returns : goal.returns
returns c =
    let ns = map view_of c.args.neighbours.items in
    let good : AreConsistentNeighbours c.args.opening (map view_of c.deref.result.now) = search rules in
    let listed = subst (λ o. IfSome o (λ ps. ArePresent c.args.sessions (sessions_of (map view_of c.deref-2.result.now)) ps.items))
    c.in-Some.is c.in_ok-present.ensures.some in
    let present : ArePresent c.args.sessions (sessions_of ns) c.in-Some.present.items = rw c.deref-2.ensures.value at listed in (
      record {
        neighbours = rw c.deref.ensures.value at good;
        sessions = present_sessions c.args.sessions (sessions_of ns) c.in-Some.present.items present;
        counted = omega arith;
      },
      c.in_ok-state.ensures.world,
    )
