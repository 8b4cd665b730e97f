use Rattle.std.proofs.Common.{◌≡◌, ◌+◌, ◌-◌, ◌≤◌, ◌++◌, true, length, take, drop, ap, ◌∙◌, length-take, length-drop, arith}
use Rattle.std.proofs.lemmas.Result.{err_from_is_err_and}
use Rattle.line_protocol.proofs.LineLemmas.{begun_none, begun_read, begun_cut}
use Rattle.line_protocol.proofs.WholeLemmas.{begins, step, next, finish_over, finish_end, stop_read, stop_block, stop_rest, stop_long}
use Rattle.line_protocol.proofs.engine.answer_blocks.Goals as goal

pub turns-init : goal.turns-init
turns-init g c =
    let p = c.args.progress.now in
    record {
      goes_on = c.requires.goes_on;
      cleared = c.requires.written;
      within = omega arith;
      short = omega arith;
      under_way = begins g.S.Service.answers c.args.service.now (g.R.Read.remaining c.args.reader.now)
          (g.W.Write.contents c.args.writer.now) p.number p.refused c.requires.first c.requires.counted;
    }

pub returns-in_err-n-clause-err : goal.returns-in_err-n-clause-err
returns-in_err-n-clause-err g c =
    let p = err_from_is_err_and c.from_residual.result c.from_residual.ensures.1 in
    let was = c.turns.progress in
    rw (p.1, p.2) (stop_read g.S.Service.answers g.S.Service.refuses c.args.limit c.args.service.now (g.W.Write.contents c.args.writer.now) c.in_err-n.field-0.0
    (g.R.Read.remaining c.args.reader.now)
    c.turns.service (g.R.Read.remaining c.turns.reader) (g.R.Read.remaining c.read_block.new.reader) (g.W.Write.contents c.turns.writer)
    (take c.turns.begun c.turns.buffer.items) c.turns.total was.number was.refused c.turns.invariant.under_way c.in_err-n.ensures.err)

pub returns-in_err-answer_rest-clause-err : goal.returns-in_err-answer_rest-clause-err
returns-in_err-answer_rest-clause-err g c =
    let p = err_from_is_err_and c.from_residual-in_err-answer_rest.result c.from_residual-in_err-answer_rest.ensures.1 in
    let was = c.turns.progress in
    let none = rw c.if-n-eq0.true at c.in_ok-n.ensures.bytes in
    let broken = rw (c.as_slice.ensures.value, c.in_ok-n.ensures.front) at c.in_err-answer_rest.ensures.err in
    rw (p.1, p.2) (stop_rest g.S.Service.answers g.S.Service.refuses c.args.limit c.args.service.now (g.W.Write.contents c.args.writer.now)
    c.in_err-answer_rest.field-0.0 (g.R.Read.remaining c.args.reader.now)
    c.turns.service c.answer_rest.new.service (g.R.Read.remaining c.turns.reader) (g.R.Read.remaining c.read_block.new.reader)
    (g.W.Write.contents c.turns.writer) (g.W.Write.contents c.answer_rest.new.writer)
    (take c.turns.begun c.turns.buffer.items) c.turns.total was.number was.refused c.turns.invariant.under_way none
    (c.in_ok-n.ensures.end c.if-n-eq0.true) broken)

pub returns-then-n-eq0-clause-ok : goal.returns-then-n-eq0-clause-ok
returns-then-n-eq0-clause-ok g c =
    let was = c.turns.progress in
    let now = c.answer_rest.new.progress in
    let none = rw c.if-n-eq0.true at c.in_ok-n.ensures.bytes in
    let told = rw (c.as_slice.ensures.value, c.in_ok-n.ensures.front) at c.in_ok-answer_rest.ensures.ok in
    finish_end g.S.Service.answers g.S.Service.refuses c.args.limit c.args.service.now (g.W.Write.contents c.args.writer.now) (g.R.Read.remaining c.args.reader.now)
    c.turns.service c.answer_rest.new.service (g.R.Read.remaining c.turns.reader) (g.R.Read.remaining c.read_block.new.reader)
    (g.W.Write.contents c.turns.writer) (g.W.Write.contents c.answer_rest.new.writer)
    (take c.turns.begun c.turns.buffer.items) c.turns.total was.number now.number was.refused now.refused now.over
    c.turns.invariant.under_way none (c.in_ok-n.ensures.end c.if-n-eq0.true) told c.turns.invariant.short

pub answer_block-requires-clause-none : goal.answer_block-requires-clause-none
answer_block-requires-clause-none g c =
    let (front, given, done, begun_open) = c.turns.invariant.under_way in
    let fits : c.turns.begun ≤ (c.turns.begun + c.in_ok-n.n) - c.saturating_sub.result = omega (arith, c.in_ok-n.ensures.room.0) in
    let long : c.turns.begun ≤ length c.read_block.new.buffer.items =
    omega (arith, c.in_ok-n.ensures.room.1, c.read_block.new.buffer.ok.0) in
    rw c.as_slice-in-turns.ensures.value
    (begun_none c.turns.buffer.items c.read_block.new.buffer.items c.turns.begun c.in_ok-n.ensures.front _ begun_open fits
    long)

pub returns-in_err-at-clause-err : goal.returns-in_err-at-clause-err
returns-in_err-at-clause-err g c =
    let p = err_from_is_err_and c.from_residual-in_err-at.result c.from_residual-in_err-at.ensures.1 in
    let was = c.turns.progress in
    let new = c.read_block.new.buffer.items in
    let end = (c.turns.begun + c.in_ok-n.n) - c.saturating_sub.result in
    let broken = rw c.as_slice-in-turns.ensures.value at c.in_err-at.ensures.err in
    let cut = begun_cut c.turns.buffer.items new c.turns.begun c.in_ok-n.ensures.front c.in_ok-n.n end (omega arith) in
    rw (p.1, p.2) (stop_block g.S.Service.answers g.S.Service.refuses c.args.limit c.args.service.now (g.W.Write.contents c.args.writer.now)
    c.in_err-at.field-0.0 (g.R.Read.remaining c.args.reader.now)
    c.turns.service c.answer_block.new.service (g.R.Read.remaining c.turns.reader) (g.R.Read.remaining c.read_block.new.reader)
    (g.W.Write.contents c.turns.writer) (g.W.Write.contents c.answer_block.new.writer)
    (take c.turns.begun c.turns.buffer.items) (take c.in_ok-n.n (drop c.turns.begun new)) (take end new)
    (drop end (take (c.turns.begun + c.in_ok-n.n) new))
    c.turns.total was.number was.refused c.turns.invariant.under_way c.in_ok-n.ensures.bytes cut broken)

pub returns-then-total-limit-clause-err : goal.returns-then-total-limit-clause-err
returns-then-total-limit-clause-err g c =
    let was = c.turns.progress in
    let now = c.answer_block.new.progress in
    let (front, given, done, begun_open) = c.turns.invariant.under_way in
    let new = c.read_block.new.buffer.items in
    let n = c.in_ok-n.n in
    let both = c.turns.begun + n in
    let end = both - c.saturating_sub.result in
    let more = take n (drop c.turns.begun new) in
    let excess = drop end (take both new) in
    let (found, told, written) = rw c.as_slice-in-turns.ensures.value at c.in_ok-at.ensures.ok in
    let none = rw c.as_slice-in-turns.ensures.value at c.in_ok-at.ensures.begun in
    let cut = begun_cut c.turns.buffer.items new c.turns.begun c.in_ok-n.ensures.front n end (omega arith) in
    let room : both ≤ length new = omega (arith, c.in_ok-n.ensures.room.1, c.read_block.new.buffer.ok.0) in
    let left = length-drop c.turns.begun new in
    let more_len = length-take n (drop c.turns.begun new) in
    let sum : c.turns.total + n ≡ c.turns.total + length more = omega arith in
    let read_len = length-take both new in
    let excess_len = length-drop end (take both new) in
    let one : length excess ≡ 1 = omega (arith, c.in_ok-n.ensures.room.0) in
    let long : c.turns.total + n ≡ c.args.limit + 1 = omega (arith, c.in_ok-n.ensures.room.0) in
    stop_long g.S.Service.answers g.S.Service.refuses c.args.limit c.args.service.now (g.W.Write.contents c.args.writer.now) (g.R.Read.remaining c.args.reader.now)
    c.answer_block.new.service (g.R.Read.remaining c.read_block.new.reader) (g.W.Write.contents c.answer_block.new.writer)
    (front ++ take c.in_ok-at.at (take end new)) (take end new) excess c.in_ok-at.at (given ++ found) (c.turns.total + n)
    now.number now.refused now.over
    (step g.S.Service.answers c.args.service.now (g.R.Read.remaining c.args.reader.now) (g.W.Write.contents c.args.writer.now)
    c.turns.service c.answer_block.new.service
    (g.R.Read.remaining c.turns.reader) (g.R.Read.remaining c.read_block.new.reader) (g.W.Write.contents c.turns.writer)
    (g.W.Write.contents c.answer_block.new.writer)
    front (take c.turns.begun c.turns.buffer.items) more (take end new) excess c.in_ok-at.at given found c.turns.total
    (c.turns.total + n) was.number now.number was.refused now.refused now.over
    done c.in_ok-n.ensures.bytes cut sum told written)
    none long one

pub returns-then-progress-clause-ok : goal.returns-then-progress-clause-ok
returns-then-progress-clause-ok g c =
    let was = c.turns.progress in
    let now = c.answer_block.new.progress in
    let (front, given, done, begun_open) = c.turns.invariant.under_way in
    let new = c.read_block.new.buffer.items in
    let n = c.in_ok-n.n in
    let both = c.turns.begun + n in
    let end = both - c.saturating_sub.result in
    let more = take n (drop c.turns.begun new) in
    let excess = drop end (take both new) in
    let (found, told, written) = rw (c.as_slice-in-turns.ensures.value, c.if-progress.true) at c.in_ok-at.ensures.ok in
    let cut = begun_cut c.turns.buffer.items new c.turns.begun c.in_ok-n.ensures.front n end (omega arith) in
    let room : both ≤ length new = omega (arith, c.in_ok-n.ensures.room.1, c.read_block.new.buffer.ok.0) in
    let left = length-drop c.turns.begun new in
    let more_len = length-take n (drop c.turns.begun new) in
    let sum : c.turns.total + n ≡ c.turns.total + length more = omega arith in
    finish_over g.S.Service.answers g.S.Service.refuses c.args.limit c.args.service.now (g.W.Write.contents c.args.writer.now) (g.R.Read.remaining c.args.reader.now)
    c.answer_block.new.service (g.R.Read.remaining c.read_block.new.reader) (g.W.Write.contents c.answer_block.new.writer)
    (front ++ take c.in_ok-at.at (take end new)) (drop c.in_ok-at.at (take end new) ++ excess) (given ++ found)
    (c.turns.total + n) now.number now.refused
    (step g.S.Service.answers c.args.service.now (g.R.Read.remaining c.args.reader.now) (g.W.Write.contents c.args.writer.now)
    c.turns.service c.answer_block.new.service
    (g.R.Read.remaining c.turns.reader) (g.R.Read.remaining c.read_block.new.reader) (g.W.Write.contents c.turns.writer)
    (g.W.Write.contents c.answer_block.new.writer)
    front (take c.turns.begun c.turns.buffer.items) more (take end new) excess c.in_ok-at.at given found c.turns.total
    (c.turns.total + n) was.number now.number was.refused now.refused true
    done c.in_ok-n.ensures.bytes cut sum told written)
    (omega arith)

pub turns-preserved : goal.turns-preserved
turns-preserved g c =
    let was = c.turns.progress in
    let now = c.answer_block.new.progress in
    let new = c.read_block.new.buffer.items in
    let n = c.in_ok-n.n in
    let end = (c.turns.begun + n) - c.saturating_sub.result in
    let whole : c.turns.begun + n ≡ end = omega arith in
    let more = take n (drop c.turns.begun new) in
    let told = rw (c.as_slice-in-turns.ensures.value, c.if-progress.false) at c.in_ok-at.ensures.ok in
    let none = rw c.as_slice-in-turns.ensures.value at c.in_ok-at.ensures.begun c.if-progress.false in
    let cut = begun_read c.turns.buffer.items new c.turns.begun c.in_ok-n.ensures.front n ∙ ap (λ m. take m new) whole in
    let room : c.turns.begun + n ≤ length new = omega (arith, c.in_ok-n.ensures.room.1, c.read_block.new.buffer.ok.0) in
    let left = length-drop c.turns.begun new in
    let more_len = length-take n (drop c.turns.begun new) in
    let sum : c.turns.total + n ≡ c.turns.total + length more = omega arith in
    record {
      goes_on = c.if-progress.false;
      cleared = c.in_ok-at.ensures.cleared;
      within = omega (arith, c.in_ok-n.ensures.room.1);
      short = omega arith;
      under_way = rw c.keep_begun-begun.ensures.kept
          (next g.S.Service.answers c.args.service.now (g.R.Read.remaining c.args.reader.now)
          (g.W.Write.contents c.args.writer.now)
          c.turns.service c.answer_block.new.service (g.R.Read.remaining c.turns.reader)
          (g.R.Read.remaining c.read_block.new.reader) (g.W.Write.contents c.turns.writer)
          (g.W.Write.contents c.answer_block.new.writer)
          (take c.turns.begun c.turns.buffer.items) more (take end new) c.in_ok-at.at c.turns.total (c.turns.total + n)
          was.number now.number was.refused now.refused
          c.turns.invariant.under_way c.in_ok-n.ensures.bytes cut sum told none);
    }
