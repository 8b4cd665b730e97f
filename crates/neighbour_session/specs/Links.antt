-- Links over the streams of one session: one that is read, and one that is written. (This project's own choice.)
use Rattle.std.specs.Prelude.{◌≡◌, ℕ, Bool, true, List, [], Option, None, Some, Result, Ok, Err}
use Rattle.std.specs.Io.KnownBytes.{Appends, Consumes}
use Rattle.line_protocol.specs.Runs.{AppendsFront}
use Rattle.message_streams.specs.Lines.{FitsMessage, line_of, message_line}
use Rattle.link_handshake.specs.Reading.{said_by as line_says}
use Rattle.link_handshake.specs.declared.said.Said.{Said}
use Rattle.link_handshake.specs.declared.said.Said.TheVariants as said
use Rattle.message_streams.specs.Ends.{ReadsLine, StopsAtLine}
use Rattle.message_streams.specs.Views.{ReaderView, WriterView}
use Rattle.netchange_core.specs.declared.message.Message.{Message}
use Rattle.route_session.specs.Telling.{known}
use Rattle.route_session.specs.declared.link.Got.{Got}
use Rattle.route_session.specs.declared.link.Got.TheVariants as got
use Rattle.route_session.specs.LinkTrace.{LinkTrace}
use Rattle.neighbour_session.specs.declared.ends.SessionEnd.{SessionEnd}
use Rattle.neighbour_session.specs.declared.ends.SessionEnd.TheVariants as end
use Rattle.neighbour_session.specs.Said.{AreLines, GaveLines, GotLines, said_by, said_to}

-- ---- reading

-- a line was read that says this
abbrev pub ReadsSaid : Said → Option (List ℕ) → Option (List ℕ) → Type 0
ReadsSaid said known left = (line : List ℕ) × ReadsLine line known left × (line_says line ≡ said)

-- a line was read that is this message, or an empty one
abbrev pub ReadsTold : Option Message → Option (List ℕ) → Option (List ℕ) → Type 0
ReadsTold None known left = Consumes known left (line_of None)
ReadsTold (Some m) known left = FitsMessage m × Consumes known left (line_of (Some m))

-- what a link answers to it
abbrev pub got_of : Option Message → Got
got_of None = got.Nothing
got_of (Some m) = got.Message m

-- What a line of this number means in session: a message, or that its writer is there. Any other ends the session.
abbrev pub in_session : Said → ℕ → Result (Option Message) SessionEnd
in_session (said.Message m) line = Ok (Some m)
in_session said.Alive line = Ok None
in_session (said.Greeting g) line = Err (end.Greeted g)
in_session said.Nothing line = Err (end.NoMessage line)

-- What a reader took of its stream after the last line of a message, or the last empty one, which left these bytes: nothing, or what ended the
-- session. That is a greeting, a line that says nothing, or no line.
abbrev pub TakesAfter : Option SessionEnd → Option (List ℕ) → ReaderView → Type 0
TakesAfter None known now = now.left ≡ known
TakesAfter (Some (end.Read why line)) known now = (line ≡ now.line) × StopsAtLine why known now.left
TakesAfter (Some (end.Greeted g)) known now = ReadsSaid (said.Greeting g) known now.left
TakesAfter (Some (end.NoMessage line)) known now = (line ≡ now.line) × ReadsSaid said.Nothing known now.left
TakesAfter (Some _) known now = ⊥

-- The lines that a stream had to give say these messages, each in its turn, or are empty, and then the reader took no more of it, or what ended
-- the session.
pub record ReadsLines (first : ReaderView) (handed : Option (List Message)) (over : Option SessionEnd) (now : ReaderView) : Type 0 where
  pub left : Option (List ℕ)
  pub lines : AreLines (Consumes first.left left) handed
  pub after : first.end ≡ None → TakesAfter over left now

-- a link over one stream that is read: what it tells, its reader, and why it hands out no more, if it does not
pub record InputView : Type 0 where
  pub told : LinkTrace
  pub reader : ReaderView
  pub over : Option SessionEnd

-- of the reader as it was given, as it was after the last line that is a message or empty, and as it is now; it does not tell how many lines
-- were empty
abbrev pub input_view : ReaderView → ReaderView → ReaderView → Option SessionEnd → Bool → ℕ → Bool → InputView
input_view first last now over has_ended failures is_closed = record {
  told = record {
    handed = said_by first.left last.left;
    given = Some [];
    first_refused = None;
    nothings = None;
    ended = Some has_ended;
    failures = known failures;
    closed = is_closed;
  };
  reader = now;
  over = over;
}

-- it moved on by lines of messages and empty ones, and by nothing else but what ended the session
pub record IsInput (first last now : ReaderView) (over : Option SessionEnd) : Type 0 where
  pub gave : GaveLines first.left last.left
  pub unended : over ≡ None → now ≡ last
  pub readable : over ≡ None → first.end ≡ None → now.end ≡ None
  pub after : first.end ≡ None → TakesAfter over last.left now

-- a reader that nobody has
abbrev pub nobodys_reader : ReaderView
nobodys_reader = record { left = None; line = 0; end = None }

-- ---- writing

-- what a stream got behind whole lines: a front of the line of the message that was not taken, which may be nothing of it; and nothing
-- where each was taken
abbrev pub TearsLine : Option Message → Option (List ℕ) → Option (List ℕ) → Type 0
TearsLine None held holds = holds ≡ held
TearsLine (Some message) held holds = FitsMessage message × AppendsFront held holds (message_line message)

-- A stream got the lines of what its link was given, each in its turn; and then a front of the line of the first message that the link did
-- not take, if there is one.
pub record GotLinesOf (first : WriterView) (told : LinkTrace) (now : WriterView) : Type 0 where
  pub held : Option (List ℕ)
  pub lines : AreLines (Appends first.held held) told.given
  pub torn : (refused : Option Message) → told.first_refused ≡ Some refused → TearsLine refused held now.held

-- a link over one stream that is written: what it tells, and its writer
pub record OutputView : Type 0 where
  pub told : LinkTrace
  pub writer : WriterView

-- of the writer as it was given, as it was after the message that was written last, and as it is now, and of the first message that was
-- not taken
abbrev pub output_view : WriterView → WriterView → WriterView → Option Message → Bool → ℕ → Bool → OutputView
output_view first last now first_refused has_ended failures is_closed = record {
  told = record {
    handed = Some [];
    given = said_to first.held last.held;
    first_refused = Some first_refused;
    nothings = Some 0;
    ended = Some has_ended;
    failures = known failures;
    closed = is_closed;
  };
  writer = now;
}

-- it grew by lines of messages and empty ones, and by nothing else but a front of the one at which it failed
pub record IsOutput (first last now : WriterView) (first_refused : Option Message) (failures : ℕ) : Type 0 where
  pub got : GotLines first.held last.held
  pub whole : failures ≡ 0 → (now ≡ last) × (first_refused ≡ None)
  pub torn : TearsLine first_refused last.held now.held

-- a writer that nobody has
abbrev pub nobodys_writer : WriterView
nobodys_writer = record { held = None; over = true }
