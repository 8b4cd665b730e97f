use Rattle.std.proofs.Common.{◌<◌, length, sym, ◌∙◌, arith}
use Rattle.std.proofs.lemmas.List.Sums.{prefix_len_is}
use Rattle.filter_tokens.specs.ByteClasses.{is_in}
use Rattle.filter_tokens.proofs.byte_class.leading_len.Goals as goal

pub returns-then-not-is_in-clause-len : goal.returns-then-not-is_in-clause-len
returns-then-not-is_in-clause-len c =
    sym (prefix_len_is (is_in c.args.class) c.args.text.now c.loop-i.i 0 (omega arith) c.loop-i.invariant (λ _. sym c.is_in.ensures
    ∙ c.if-not-is_in.true))

pub returns-clause-len : goal.returns-clause-len
returns-clause-len c =
    let s = c.args.text.now in
    sym (prefix_len_is (is_in c.args.class) s (length s) 0 (omega arith) (λ k h. c.loop-i.invariant k (omega arith))
    (λ (h : length s < length s). absurd (omega arith)))
