use Rattle.std.proofs.Common.{eqb, eqb-true, sym, ap, ◌∙◌, arith, w8}
use lib.Count.{count_trailing_zeros}
use lib.Lanes.{chunk}
use Rattle.std.proofs.lemmas.Simd.{length-chunk, bitmask_splat, leading_from_mask_l, trailing_mask_l}
use Rattle.std.proofs.lemmas.Simd.{run_in_chunk_le, run_in_chunk_fails, run_in_chunk_stops}
use Rattle.line_protocol.specs.Lines.{is_line_feed}
use Rattle.line_protocol.proofs.engine.count_before_feed.Goals as goal

pub returns-then-feeds-eq0 : goal.returns-then-feeds-eq0
returns-then-feeds-eq0 c =
    let bytes = c.args.bytes.now in
    let near = chunk c.args.from 32 bytes in
    let long = length-chunk c.args.from 32 bytes c.requires in
    let feeds = bitmask_splat w8 eqb near 32 10 long (omega arith) in
    let counted = sym (leading_from_mask_l is_line_feed near (sym feeds ∙ c.if-feeds-eq0.true) ∙ long) in
    record {
      within = omega arith;
      none = run_in_chunk_fails is_line_feed bytes c.args.from 32 32 0 c.requires counted;
      found = λ short. absurd (omega arith);
    }

pub returns-else-feeds-eq0 : goal.returns-else-feeds-eq0
returns-else-feeds-eq0 c =
    let bytes = c.args.bytes.now in
    let near = chunk c.args.from 32 bytes in
    let long = length-chunk c.args.from 32 bytes c.requires in
    let feeds = bitmask_splat w8 eqb near 32 10 long (omega arith) in
    let counted = ap (count_trailing_zeros 64) feeds ∙ trailing_mask_l is_line_feed 64 near (omega arith) (omega arith) in
    record {
      within = run_in_chunk_le is_line_feed bytes c.args.from 32 _ 0 c.requires counted;
      none = run_in_chunk_fails is_line_feed bytes c.args.from 32 _ 0 c.requires counted;
      found = λ short. eqb-true _ 10 (run_in_chunk_stops is_line_feed bytes c.args.from 32 _ 0 c.requires counted short);
    }
