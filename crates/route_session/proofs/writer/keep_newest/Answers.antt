use Rattle.std.proofs.Common.{rules, ◌≡◌, ◌<◌, ◌≤◌, false, true, length}
use Rattle.route_session.specs.Writes.{is_first_replaced}
use Rattle.route_session.proofs.Leaving.{all_looked_at, begins_keeping, leaves_first, rest_of, tells_first}
use Rattle.route_session.proofs.writer.keep_newest.Goals as goal

pub loop-at-init : goal.loop-at-init
loop-at-init c = begins_keeping c.args.messages.items

pub loop-at-preserved-then-is_first_replaced : goal.loop-at-preserved-then-is_first_replaced
loop-at-preserved-then-is_first_replaced c =
    let replaced : is_first_replaced (rest_of c.loop-at.kept.items c.loop-at.at) ≡ true = search rules in
    leaves_first c.args.messages.items c.loop-at.kept.items c.remove.new.self.items c.loop-at.at c.loop-at.left_out c.loop-at.invariant replaced
    c.remove.ensures.by_index.2

pub loop-at-preserved : goal.loop-at-preserved
loop-at-preserved c =
    let told : is_first_replaced (rest_of c.loop-at.kept.items c.loop-at.at) ≡ false = search rules in
    let within : c.loop-at.at < length c.loop-at.kept.items = search rules in
    tells_first c.args.messages.items c.loop-at.kept.items c.loop-at.at c.loop-at.left_out c.loop-at.invariant told within

pub overflow_add-left_out : goal.overflow_add-left_out
overflow_add-left_out c =
    let counted = c.loop-at.invariant.counted in
    let small = c.args.messages.small in
    search rules

pub returns-clause-newest : goal.returns-clause-newest
returns-clause-newest c =
    let all : length c.loop-at.kept.items ≤ c.loop-at.at = search rules in
    all_looked_at c.args.messages.items c.loop-at.kept.items c.loop-at.at c.loop-at.left_out c.loop-at.invariant all

pub returns-clause-counted : goal.returns-clause-counted
returns-clause-counted c = c.loop-at.invariant.counted
