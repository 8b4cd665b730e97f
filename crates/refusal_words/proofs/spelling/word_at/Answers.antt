use Rattle.std.proofs.Common.{ℕ, List, [], get_or, sym, ap, ◌∙◌}
use Rattle.line_protocol.specs.Words.{words}
use Rattle.refusal_words.proofs.LineWords.{word_of_index}
use Rattle.refusal_words.proofs.spelling.word_at.Goals as goal

pub returns-in-Some : goal.returns-in-Some
returns-in-Some c =
    sym (word_of_index (words c.args.line.now) _ c.args.index c.from_word.ensures.words
    ∙ ap (λ (left : List (List ℕ)). get_or left 0 []) c.in-Some.ensures.found)

pub returns-in-None : goal.returns-in-None
returns-in-None c =
    sym (word_of_index (words c.args.line.now) _ c.args.index c.from_word.ensures.words
    ∙ ap (λ (left : List (List ℕ)). get_or left 0 []) c.in-None.ensures.none)
