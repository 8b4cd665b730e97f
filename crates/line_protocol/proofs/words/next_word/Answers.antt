use Rattle.std.proofs.Common.{arith}
use Rattle.line_protocol.specs.Words.{is_blank}
use Rattle.line_protocol.proofs.WordLemmas.{words-blank, words-cut}
use Rattle.std.proofs.lemmas.Bool.Decides.{nat_tests}
use Rattle.line_protocol.proofs.words.next_word.Goals as goal

pub returns-then-is_empty-clause-none : goal.returns-then-is_empty-clause-none
returns-then-is_empty-clause-none c =
    let rest = c.trim_front_blanks-line.result.now in
    words-blank is_blank c.args.line.now rest c.trim_front_blanks-line.ensures (grind (arith, nat_tests))

pub returns-clause-found : goal.returns-clause-found
returns-clause-found c =
    let rest = c.trim_front_blanks-line.result.now in
    rw (c.split_at.ensures.front, c.split_at.ensures.back)
    (words-cut is_blank c.args.line.now rest c.trim_front_blanks-line.ensures c.word_len.result c.word_len.ensures.len
    (grind (arith, nat_tests)))
