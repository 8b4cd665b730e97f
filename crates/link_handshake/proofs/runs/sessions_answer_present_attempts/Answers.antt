use Rattle.link_handshake.specs.Links.{turned}
use Rattle.link_handshake.proofs.Acting.{turned_orderly}
use Rattle.link_handshake.proofs.Reached.{answers_present, both_present, known_here, only_greetings, reached_orderly}
use Rattle.link_handshake.proofs.runs.sessions_answer_present_attempts.Goals as goal

pub returns : goal.returns
returns c = record {
  answer = answers_present;
  only = only_greetings;
  both = λ l r up there. both_present l (reached_orderly l r) up there;
  here = λ l r up. (known_here l (reached_orderly l r) up).all;
  there = λ l r up. (known_here (turned l) (turned_orderly l (reached_orderly l r)) up).all;
}
