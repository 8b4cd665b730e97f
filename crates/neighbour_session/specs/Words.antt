-- Why a session is over, in words. (This project's own choice.)
use Rattle.std.specs.Prelude.{ℕ, Bool, true, false, not, Option, Some, None, List, ◌++◌, codes, decimal}
use Rattle.hex.specs.Hex.{encode_lower}
use Rattle.link_handshake.specs.declared.said.Said.{Said}
use Rattle.link_handshake.specs.declared.said.Said.TheVariants as said
use Rattle.message_streams.specs.Ends.{is_lasting}
use Rattle.message_streams.specs.declared.ends.StreamEnd.{StreamEnd}
use Rattle.message_streams.specs.declared.ends.StreamEnd.TheVariants as stream
use Rattle.neighbour_session.specs.declared.ends.GreetingFault.{GreetingFault}
use Rattle.neighbour_session.specs.declared.ends.GreetingFault.TheVariants as fault
use Rattle.neighbour_session.specs.declared.ends.SessionEnd.{SessionEnd}
use Rattle.neighbour_session.specs.declared.ends.SessionEnd.TheVariants as end

-- the digests of both domains
abbrev pub domain_words : List ℕ → List ℕ → List ℕ
domain_words said own = codes "the neighbour's domain has the digest " ++ encode_lower said ++ codes ", and this one " ++ encode_lower own

-- why a line is not the greeting that is expected
abbrev pub greeting_words : GreetingFault → List ℕ
greeting_words (fault.OtherSize size) = codes "the neighbour's domain has " ++ decimal size ++ codes " nodes"
greeting_words (fault.OtherNode node) = codes "the neighbour is node " ++ decimal node
greeting_words (fault.OtherDomain said own) = domain_words said own

-- why a stream ended, at a line
abbrev pub stream_words : StreamEnd → ℕ → List ℕ
stream_words stream.Ended line = codes "the neighbour ended its stream"
stream_words stream.Unfinished line = codes "the stream ended within line " ++ decimal line
stream_words stream.TooLong line = codes "line " ++ decimal line ++ codes " has more than 64 bytes"
stream_words stream.Read line = codes "line " ++ decimal line ++ codes " could not be read"

-- a line is not the greeting that is expected, for this reason
abbrev pub mistake_words : GreetingFault → ℕ → List ℕ
mistake_words why line = codes "line " ++ decimal line ++ codes " is not its greeting: " ++ greeting_words why

-- why a session is over
abbrev pub end_words : SessionEnd → List ℕ
end_words (end.Read why line) = stream_words why line
end_words (end.Greeted g) = codes "the neighbour began anew"
end_words (end.NoMessage line) = codes "line " ++ decimal line ++ codes " is no message"
end_words (end.Mistaken why line) = mistake_words why line
end_words end.Ungreeted = codes "the neighbour did not greet"
end_words (end.Silent hold) = codes "nothing heard for " ++ decimal hold ++ codes " s"
end_words end.Unwritten = codes "a line could not be written"
end_words end.NotStarted = codes "a thread was not started (X2)"
end_words end.Closed = codes "the session was ended"
end_words end.Refused = codes "the router refused the neighbour"
end_words end.Full = codes "the history is full (J1)"
end_words end.Memory = codes "out of memory (J2)"

-- a full history takes no session any more, unless that passes
abbrev pub can_be_opened_again : Bool → SessionEnd → Bool
can_be_opened_again passes end.Full = passes
can_be_opened_again passes _ = true

-- what the line says that ended a session, if a line did
abbrev pub last_line_of : StreamEnd → Option Said
last_line_of stream.TooLong = Some said.Nothing
last_line_of _ = None

abbrev pub last_line : SessionEnd → Option Said
last_line (end.Greeted g) = Some (said.Greeting g)
last_line (end.NoMessage line) = Some said.Nothing
last_line (end.Read why line) = last_line_of why
last_line _ = None

-- the streams of a session go on after it: where the neighbour ended it by a line, or somebody here did
abbrev pub goes_on : SessionEnd → Bool
goes_on (end.Greeted g) = true
goes_on (end.NoMessage line) = true
goes_on (end.Read why line) = not (is_lasting why)
goes_on (end.Silent hold) = true
goes_on end.Closed = true
goes_on _ = false
