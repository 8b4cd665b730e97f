-- Worked rows of the definitions, computed.
use Rattle.std.proofs.Common.{◌≡◌, List, [], ◌∷◌, true, refl, codes}
use Rattle.std.specs.Fmt.{digits}
use Rattle.line_protocol.specs.Lines.{numbered, whole_lines}
use Rattle.line_protocol.specs.Words.{words, trimmed}
use Rattle.line_protocol.specs.Answers.{Answer, refusal, text_of, refusals, is_over}
use Rattle.line_protocol.specs.declared.answers.LineReply.TheVariants.{Answered, Ended}

-- one carriage return before a line feed is dropped, and none at the end of the input; empty lines and comments count
lines_cut : numbered (codes "a\r\n\n# c\nb\r\r\nc\r") ≡ (1, codes "a") ∷ (4, codes "b\r") ∷ (5, codes "c\r") ∷ []
lines_cut = refl

-- a line of blanks alone is answered, and one of a carriage return alone is empty
lines_blank : numbered (codes " \n\r\n\t#\n") ≡ (1, codes " ") ∷ (3, codes "\t#") ∷ []
lines_blank = refl

no_lines : numbered [] ≡ []
no_lines = refl

-- the begun line is no whole one
ended_lines : whole_lines (codes "a\n\nbc\nde") ≡ codes "a\n\nbc\n"
ended_lines = refl

no_ended_line : whole_lines (codes "abc") ≡ []
no_ended_line = refl

words_cut : words (codes " \ta  bc\td \t") ≡ codes "a" ∷ codes "bc" ∷ codes "d" ∷ []
words_cut = refl

no_words : words (codes " \t ") ≡ []
no_words = refl

blanks_trimmed : trimmed (codes "\t a b \t") ≡ codes "a b"
blanks_trimmed = refl

only_blanks_trimmed : trimmed (codes " \t") ≡ []
only_blanks_trimmed = refl

refusal_written : refusal (codes "C6") 9 ≡ codes "refused C6 9\n"
unfolding digits
refusal_written = refl

-- two answers, the second of which ends the stream
two : List Answer
two = record { text = codes "a\n"; reply = Answered } ∷ record { text = codes "b\n"; reply = Ended } ∷ []

two_written : text_of two ≡ codes "a\nb\n"
unfolding two
two_written = refl

two_refused : refusals two ≡ 1
unfolding two
two_refused = refl

two_over : is_over two ≡ true
unfolding two
two_over = refl
