use Rattle.std.proofs.Common.{◌<◌, length, sym, ap, arith}
use Rattle.std.proofs.lemmas.List.Sums.{prefix_len_is}
use Rattle.refusal_words.specs.Places.{is_inside}
use Rattle.refusal_words.proofs.place.line_len.Goals as goal

pub returns-then-byte-eq10-clause-len : goal.returns-then-byte-eq10-clause-len
returns-then-byte-eq10-clause-len c =
    sym (prefix_len_is is_inside c.args.text.now c.loop-i.i 0 (omega arith) c.loop-i.invariant (λ _. ap is_inside c.if-byte-eq10.true))

pub returns-clause-len : goal.returns-clause-len
returns-clause-len c =
    let s = c.args.text.now in
    sym (prefix_len_is is_inside s (length s) 0 (omega arith) (λ k h. c.loop-i.invariant k (omega arith))
    (λ (h : length s < length s). absurd (omega arith)))
