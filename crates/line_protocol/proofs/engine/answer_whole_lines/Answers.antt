use Rattle.std.proofs.Common.{◌<◌, length, arith}
use Rattle.line_protocol.proofs.EngineLemmas.{turn}
use Rattle.line_protocol.proofs.engine.answer_whole_lines.Goals as goal

pub returns-then-progress-clause-ok : goal.returns-then-progress-clause-ok
returns-then-progress-clause-ok g c =
    let feed = c.find_line_feed-feed.result in
    let inside : feed < length c.args.bytes.now = omega arith in
    let was = c.lines.progress in
    let now = c.answer_line.new.progress in
    turn g.S.Service.answers c.args.service.now c.lines.service c.answer_line.new.service c.args.bytes.now c.lines.at
    c.lines.from feed c.strip_carriage_return-line.result.now
    c.args.progress.now.number was.number now.number c.args.progress.now.refused was.refused now.refused now.over
    c.args.progress.now.text.items was.text.items now.text.items
    c.lines.invariant.order c.find_line_feed-feed.ensures.low inside (c.find_line_feed-feed.ensures.found inside)
    c.lines.invariant.none c.find_line_feed-feed.ensures.none
    c.strip_carriage_return-line.ensures c.lines.invariant.so_far c.in_ok-answer_line.ensures.ok

pub lines-preserved : goal.lines-preserved
lines-preserved g c =
    let feed = c.find_line_feed-feed.result in
    let inside : feed < length c.args.bytes.now = omega arith in
    let was = c.lines.progress in
    let now = c.answer_line.new.progress in
    let done = turn g.S.Service.answers c.args.service.now c.lines.service c.answer_line.new.service c.args.bytes.now c.lines.at
    c.lines.from feed c.strip_carriage_return-line.result.now
    c.args.progress.now.number was.number now.number c.args.progress.now.refused was.refused now.refused now.over
    c.args.progress.now.text.items was.text.items now.text.items
    c.lines.invariant.order c.find_line_feed-feed.ensures.low inside (c.find_line_feed-feed.ensures.found inside)
    c.lines.invariant.none c.find_line_feed-feed.ensures.none
    c.strip_carriage_return-line.ensures c.lines.invariant.so_far c.in_ok-answer_line.ensures.ok in
    record {
      order = omega arith;
      within = omega arith;
      none = λ k low high. absurd (omega arith);
      goes_on = c.if-progress.false;
      so_far = rw c.if-progress.false at done;
    }
