use Rattle.std.proofs.Common.{◌<◌, length, sym, ◌∙◌, not, ap, arith}
use Rattle.std.proofs.lemmas.List.Sums.{prefix_len_is}
use Rattle.line_protocol.specs.Words.{is_blank}
use Rattle.line_protocol.proofs.words.word_len.Goals as goal

pub returns-then-is_blank-clause-len : goal.returns-then-is_blank-clause-len
returns-then-is_blank-clause-len c =
    sym (prefix_len_is (λ b. not (is_blank b)) c.args.line.now c.loop-i.i 0 (omega arith)
    (λ k h. ap not (c.loop-i.invariant k h)) (λ _. ap not (sym c.is_blank.ensures ∙ c.if-is_blank.true)))

pub returns-clause-len : goal.returns-clause-len
returns-clause-len c =
    let s = c.args.line.now in
    sym (prefix_len_is (λ b. not (is_blank b)) s (length s) 0 (omega arith) (λ k h. ap not (c.loop-i.invariant k (omega arith)))
    (λ (h : length s < length s). absurd (omega arith)))
