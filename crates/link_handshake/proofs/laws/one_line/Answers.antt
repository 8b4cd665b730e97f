use Rattle.link_handshake.proofs.Greetings.{alive_said_exactly, greeting_apart, greeting_said_exactly, message_said_exactly}
use Rattle.link_handshake.proofs.laws.one_line.Goals as goal

pub returns : goal.returns
returns c = record { greeting = greeting_said_exactly; message = message_said_exactly; alive = alive_said_exactly; apart = greeting_apart }
