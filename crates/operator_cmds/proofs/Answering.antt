-- What is known of an answer that was added holds of the answer that was given.
use Rattle.std.proofs.Common.{◌≡◌, List, ℕ, Result, Ok, Err, IfOk, ap}
use Rattle.line_protocol.specs.Answers.{Answer}
use Rattle.line_protocol.specs.declared.answers.LineReply.{LineReply}
use Rattle.operator_cmds.specs.Replies.{Adds, Answers}

pub given : (reply : LineReply) (a : Answer) (P : Answer → Type 0) (old new : List ℕ) → ((answer : Answer) → answer ≡ a → P answer)
    → Adds a old new reply → Answers P old new reply
given reply a P old new f h = (a.text, h.0, f (record { text = a.text; reply = reply }) (ap (λ (x : LineReply). record { text = a.text; reply = x }) h.1))

pub added : {E : Type 0} (r : Result LineReply E) (a : Answer) (P : Answer → Type 0) (old new : List ℕ)
    → ((answer : Answer) → answer ≡ a → P answer) → IfOk r (Adds a old new) → IfOk r (Answers P old new)
added (Ok reply) a P old new f h = given reply a P old new f h
added (Err e) a P old new f h = tt

-- of an answer more follows
pub answers : {E : Type 0} (r : Result LineReply E) (P Q : Answer → Type 0) (old new : List ℕ)
    → ((answer : Answer) → P answer → Q answer) → IfOk r (Answers P old new) → IfOk r (Answers Q old new)
answers (Ok reply) P Q old new f h = (h.0, h.1, f (record { text = h.0; reply = reply }) h.2)
answers (Err e) P Q old new f h = tt
