-- A script that ends at its first refused line. (This project's own choice.)
use Rattle.std.specs.Prelude.{◌≡◌, ℕ, Bool, true, false, List}
use Rattle.line_protocol.specs.Answers.{Answer}
use Rattle.line_protocol.specs.declared.answers.LineReply.{LineReply}
use Rattle.line_protocol.specs.declared.answers.LineReply.TheVariants.{Answered, Refused, Ended}
use Rattle.router_script.specs.Naming.{AnswersPrepared, PreparedView}

-- what a reply means for the stream, where a refused line may be the last
abbrev pub reply_where : Bool → LineReply → LineReply
reply_where true Answered = Answered
reply_where true Refused = Ended
reply_where true Ended = Ended
reply_where false reply = reply

-- the same answer, with that reply
abbrev pub answer_where : Bool → Answer → Answer
answer_where stops answer = record { text = answer.text; reply = reply_where stops answer.reply }

-- A line is answered as any script with these filters answers it, and the answer ends the script where it is refused and `stops` says so.
abbrev pub AnswersStopping : Bool → PreparedView → ℕ → List ℕ → Answer → PreparedView → Type 0
AnswersStopping stops before number line answer after =
    (told : Answer) × AnswersPrepared before number line told after × (answer ≡ answer_where stops told)
