use Rattle.std.proofs.Common.{◌≡◌, ℕ, ◌+◌, ◌<◌, List, Option, None, Some, length, map, slice_index_or, ap, sym, subst, ◌∙◌, arith}
use Rattle.std.proofs.lemmas.List.{length-map}
use Rattle.netchange_core.specs.declared.neighbour.Neighbour.{Neighbour}
use Rattle.netchange_core.specs.Kept.{view_of}
use Rattle.netchange_core.specs.Present.{Inserts, present, session_in, sessions_of}
use Rattle.netchange_core.proofs.Inserted.{ArePresentBelow, all_below, down_more, up_more, up_twice}
use Rattle.netchange_core.proofs.Presence.{session_at}
use Rattle.netchange_core.proofs.Views.{view_at}
use Rattle.netchange_core.proofs.sessions.list_present.Goals as goal
use Rattle.netchange_core.proofs.sessions.list_present.Goals.{in-Some+else-session-eq0+else-count-session+in_ok-insert+else-not-branch}
use Rattle.netchange_core.proofs.sessions.list_present.Goals.{in_default, then-session-eq0-via-then-session-eq0}
use Rattle.netchange_core.proofs.sessions.list_present.Goals.{then-session-eq0-via-else-session-eq0+then-count-session}

-- the session of the next node
held_next : (ns : List Neighbour) (k : ℕ) (o : Option ℕ) (d : Neighbour) → k < length ns → (slice_index_or ns k d).session ≡ o →
    session_in (sessions_of (map view_of ns)) k ≡ o
held_next ns k o d h is = session_at (map view_of ns) k ∙ ap (λ n. n.session) (sym (view_at ns k d h)) ∙ is

pub returns-then-session-eq0-clause-none : goal.returns-then-session-eq0-clause-none
returns-then-session-eq0-clause-none c = λ are.
    let held = held_next c.args.neighbours.now c.loop-node.node (Some c.in-Some.session) _ (omega arith) c.in-Some.is in
    let fine = are.numbered c.loop-node.node c.in-Some.session held in
    elim c.then-session-eq0.branch [
      | then-session-eq0-via-then-session-eq0 w ↦ omega (arith, fine.0, w.if-session-eq0.true)
      | then-session-eq0-via-else-session-eq0+then-count-session w ↦ omega (arith, fine.1, w.if-count-session.true)
    ]

pub returns-then-not-branch-clause-none : goal.returns-then-not-branch-clause-none
returns-then-not-branch-clause-none c = λ are.
    let k = c.loop-node.node in
    let s = c.in-Some.session in
    let held = held_next c.args.neighbours.now k (Some s) _ (omega arith) c.in-Some.is in
    let there = subst (Inserts (present s k) c.loop-node.present.items c.insert.new.others.items) c.if-not-branch.true c.in_ok-insert.ensures in
    up_twice k c.args.count (sessions_of (map view_of c.args.neighbours.now)) c.loop-node.present.items c.loop-node.invariant s held there are

pub loop-node-preserved : goal.loop-node-preserved
loop-node-preserved c =
    let ns = c.args.neighbours.now in
    let ss = sessions_of (map view_of ns) in
    let k = c.loop-node.node in
    let old = c.loop-node.present.items in
    elim c.match-neighbours-node.branch [
      | in-Some+else-session-eq0+else-count-session+in_ok-insert+else-not-branch w ↦
          let s = w.in-Some.session in
          let held = held_next ns k (Some s) _ (omega arith) w.in-Some.is in
          let put = subst (Inserts (present s k) old w.insert.new.others.items) w.if-not-branch.false w.in_ok-insert.ensures in
          subst (λ v. ArePresentBelow (k + 1) c.args.count ss v.items) (sym w.present-is)
          (up_more k c.args.count ss old c.loop-node.invariant s held w.insert.new.others.items (omega (arith, w.if-session-eq0.false))
          (omega (arith, w.if-count-session.false)) put)
      | in_default w ↦
          subst (λ v. ArePresentBelow (k + 1) c.args.count ss v.items) (sym w.present-is)
          (down_more k c.args.count ss old c.loop-node.invariant (held_next ns k None _ (omega arith) w.in_default.is))
    ]

pub returns-clause-some : goal.returns-clause-some
returns-clause-some c =
    let ns = c.args.neighbours.now in
    all_below c.loop-node.node c.args.count (sessions_of (map view_of ns)) c.loop-node.present.items c.loop-node.invariant
    (omega (arith, length-map (map view_of ns) (λ n. n.session), length-map ns view_of))
