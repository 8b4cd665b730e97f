use Rattle.std.proofs.Common.{◌≡◌, ◌+◌, ◌++◌, take, drop, sym, ap, ◌∙◌, subst, arith}
use Rattle.std.proofs.KnownBytes.{Consumes-trans}
use Rattle.std.proofs.Math.Seq.{take-add}
use Rattle.std.specs.Io.KnownBytes.{Consumes}
use Rattle.line_protocol.proofs.input.read_input.Goals as goal

pub loop-count-preserved : goal.loop-count-preserved
loop-count-preserved g c =
    let was = c.loop-count.input.items in
    let now = c.read_block.new.buffer.items in
    let count = c.loop-count.count in
    let n = c.in_ok-n.n in
    let joined : take (count + n) now ≡ take count was ++ take n (drop count now) =
    take-add count n now ∙ ap (λ front. front ++ take n (drop count now)) c.in_ok-n.ensures.front in
    record {
      read = subst (λ read. Consumes (g.R.Read.remaining c.args.reader.now) (g.R.Read.remaining c.read_block.new.reader) read) (sym joined)
          (Consumes-trans _ _ _ _ _ c.loop-count.invariant.read c.in_ok-n.ensures.bytes);
      held = c.in_ok-n.ensures.room.1;
      within = omega (arith, c.in_ok-n.ensures.room.0);
    }
