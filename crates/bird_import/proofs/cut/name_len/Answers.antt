use Rattle.std.proofs.Common.{◌<◌, length, sym, ◌∙◌, arith}
use Rattle.std.proofs.lemmas.List.Sums.{prefix_len_is}
use Rattle.bird_import.specs.Cutting.{is_of_name}
use Rattle.bird_import.proofs.cut.name_len.Goals as goal

pub returns-then-not-is_of_name-clause-len : goal.returns-then-not-is_of_name-clause-len
returns-then-not-is_of_name-clause-len c =
    sym (prefix_len_is is_of_name c.args.text.now c.loop-i.i 0 (omega arith) c.loop-i.invariant (λ _. sym c.is_of_name.ensures
    ∙ c.if-not-is_of_name.true))

pub returns-clause-len : goal.returns-clause-len
returns-clause-len c =
    let s = c.args.text.now in
    sym (prefix_len_is is_of_name s (length s) 0 (omega arith) (λ k h. c.loop-i.invariant k (omega arith))
    (λ (h : length s < length s). absurd (omega arith)))
