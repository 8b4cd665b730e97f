use Rattle.std.proofs.Common.{◌<◌, length, sym, ◌∙◌, arith}
use Rattle.std.proofs.lemmas.List.Sums.{prefix_len_is}
use Rattle.bird_import.specs.Cutting.{goes_on}
use Rattle.bird_import.proofs.cut.front_len.Goals as goal

pub returns-then-not-goes_on-clause-len : goal.returns-then-not-goes_on-clause-len
returns-then-not-goes_on-clause-len c =
    sym (prefix_len_is (goes_on c.args.is_number) c.args.text.now c.loop-i.i 0 (omega arith) c.loop-i.invariant (λ _. sym c.goes_on.ensures
    ∙ c.if-not-goes_on.true))

pub returns-clause-len : goal.returns-clause-len
returns-clause-len c =
    let s = c.args.text.now in
    sym (prefix_len_is (goes_on c.args.is_number) s (length s) 0 (omega arith) (λ k h. c.loop-i.invariant k (omega arith))
    (λ (h : length s < length s). absurd (omega arith)))
