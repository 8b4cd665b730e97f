use Rattle.std.proofs.Common.{length, ap, arith}
use Rattle.refusal_words.proofs.LineWords.{shorter, word_has_byte}
use Rattle.line_protocol.specs.Words.{words}
use Rattle.refusal_words.proofs.spelling.count_words.Goals as goal

pub loop-count-preserved : goal.loop-count-preserved
loop-count-preserved c =
    let rest = c.loop-count.rest.now in
    let word = c.in-Some.field-0-0.now in
    let after = c.in-Some.after.now in
    let some = word_has_byte rest word (words after) c.in-Some.ensures.found in
    let less = shorter rest word after c.in-Some.ensures.rest some in
    let one_less = ap length c.in-Some.ensures.found in
    record { words = omega arith; bytes = omega arith }
