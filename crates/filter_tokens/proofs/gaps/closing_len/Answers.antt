use Rattle.std.proofs.Common.{◌≡◌, ◌<◌, false, length, drop, sym, ◌∙◌, ap, arith}
use Rattle.std.proofs.lemmas.List.{take_rest}
use Rattle.filter_tokens.specs.Reading.{closes}
use Rattle.filter_tokens.proofs.Finding.{closing-passed}
use Rattle.filter_tokens.proofs.gaps.closing_len.Goals as goal

pub loop-at-preserved : goal.loop-at-preserved
loop-at-preserved c =
    let text = c.args.text.now in
    let at = c.loop-at.at in
    let within : at < length text = omega arith in
    let other : closes (drop at text) ≡ false = ap closes (sym (take_rest text at)) ∙ sym c.closes.ensures.is ∙ c.if-closes.false in
    c.loop-at.invariant ∙ closing-passed text at within other
