use Rattle.std.proofs.Common.{sym, ◌∙◌, ◌≡◌, drop, ap, arith}
use Rattle.line_protocol.proofs.WordLemmas.{words-front}
use Rattle.line_protocol.specs.Words.{is_blank, without_front_blanks, words}
use Rattle.refusal_words.proofs.LineWords.{begins_unblanked, drop_later, drop_next, end_of_end, ends_after_word, ends_unblanked}
use Rattle.refusal_words.proofs.spelling.from_word.Goals as goal

pub returns-in-None-clause-words : goal.returns-in-None-clause-words
returns-in-None-clause-words c =
    sym (drop_later (words c.args.line.now) c.loop.counter c.args.index (sym c.loop.invariant.words ∙ c.in-None.ensures.none) (omega arith))

pub loop-preserved : goal.loop-preserved
loop-preserved c =
    let line = c.args.line.now in
    let rest = c.loop.rest.now in
    let word = c.in-Some.field-0-0.now in
    let after = c.in-Some.after.now in
    record {
      words = sym (drop_next (words line) (words after) c.loop.counter word (sym c.loop.invariant.words ∙ c.in-Some.ensures.found));
      end = end_of_end line rest after c.loop.invariant.end (ends_after_word rest word after c.in-Some.ensures.rest);
    }

pub returns-clause-words : goal.returns-clause-words
returns-clause-words c =
    let rest = c.loop.rest.now in
    let all : c.loop.counter ≡ c.args.index = omega arith in
    ap words c.trim_front_blanks.ensures ∙ sym (words-front is_blank rest) ∙ c.loop.invariant.words ∙ ap (λ n. drop n (words c.args.line.now)) all

pub returns-clause-end : goal.returns-clause-end
returns-clause-end c =
    let rest = c.loop.rest.now in
    rw c.trim_front_blanks.ensures
    (end_of_end c.args.line.now rest (without_front_blanks rest) c.loop.invariant.end (ends_unblanked rest))

pub returns-clause-begins : goal.returns-clause-begins
returns-clause-begins c = rw c.trim_front_blanks.ensures (begins_unblanked c.loop.rest.now)
