-- The answer to a line. This project's own choice.
use Rattle.std.specs.Prelude.{ℕ, Bool, true, false, List, [], ◌∷◌, ◌++◌, count_by, flat_map, codes, decimal}
use Rattle.std.specs.List.{list_any}
use Rattle.line_protocol.specs.declared.answers.LineReply.{LineReply}
use Rattle.line_protocol.specs.declared.answers.LineReply.TheVariants.{Answered, Refused, Ended}

-- the answer to one line: the bytes that are written, and whether the line was refused or ended the stream
pub record Answer : Type 0 where
  pub text : List ℕ
  pub reply : LineReply

-- a reply that counts as a refusal
abbrev pub is_refusal : LineReply → Bool
is_refusal Answered = false
is_refusal Refused = true
is_refusal Ended = true

-- a reply after which nothing is answered
abbrev pub is_end : LineReply → Bool
is_end Answered = false
is_end Refused = false
is_end Ended = true

-- all that is written for these answers
abbrev pub text_of : List Answer → List ℕ
text_of given = flat_map (λ answer. answer.text) given

-- how many of these answers are refusals
abbrev pub refusals : List Answer → ℕ
refusals given = count_by (λ answer. is_refusal answer.reply) given

-- one of these answers ended the stream
abbrev pub is_over : List Answer → Bool
is_over given = list_any (λ answer. is_end answer.reply) given

-- a line that tells why something was refused: the word `refused`, a code and a place
abbrev pub refusal : List ℕ → ℕ → List ℕ
refusal code at = codes "refused " ++ code ++ 32 ∷ decimal at ++ 10 ∷ []
