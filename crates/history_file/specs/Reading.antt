-- Reading the words of a line from the left: what they write, or nothing. What is read is spelled again afterwards and compared
-- with the line, so a position, zeros in front and further blanks are not looked at here. (This project's own choice.)
use Rattle.std.specs.Prelude.{◌≡◌, ℕ, Bool, List, [], ◌∷◌, Option, Some, None, Result, Ok, Err, ⊤}
use Rattle.filter_code.specs.CodeView.{CodeView}
use Rattle.code_file.specs.Reading.{file_of}
use Rattle.code_file.specs.declared.fault.FileFault.{FileFault}
use Rattle.hex.specs.Hex.{decode_of}
use Rattle.hex.specs.declared.error.FromHexError.{FromHexError}
use Rattle.filter_verifier.specs.FirstFault.{the_fault}
use Rattle.filter_verifier.specs.VerifiedView.{VerifiedView}
use Rattle.filter_verifier.specs.declared.fault.VerifyFault.{VerifyFault}
use Rattle.netchange_core.specs.declared.message.Message.{Message}
use Rattle.netchange_core.specs.declared.reply.Reply.{Reply}
use Rattle.netchange_core.specs.declared.reply.Reply.TheVariants as reply
use Rattle.netchange_core.specs.declared.reply.Via.{Via}
use Rattle.netchange_core.specs.declared.reply.Via.TheVariants as via
use Rattle.prefix_patterns.specs.Reading.{◌>>=◌, number_in, parts_at, prefix_in}
use Rattle.history_lines.specs.Fits.{largest_number, largest_session}
use Rattle.route_history.specs.Limits.{largest_limit}
use Rattle.history_lines.specs.Keywords.{keyword_in, refusal_in}
use Rattle.history_lines.specs.Views.{EventView, Up, Down, Receive, Take, SetImport, SetExport, Show, EntryView}
use Rattle.history_file.specs.declared.fault.HistoryLineFault.{HistoryLineFault}
use Rattle.history_file.specs.declared.fault.HistoryLineFault.TheVariants as fault
use Rattle.history_lines.specs.declared.keyword.HistoryKeyword.{HistoryKeyword}
use Rattle.history_lines.specs.declared.keyword.HistoryKeyword.TheVariants as word

-- what is read, and the words after it
abbrev pub Read : Type 0 → Type 0
Read A = Option (A × List (List ℕ))

-- the first word
abbrev pub first_word : List (List ℕ) → Read (List ℕ)
first_word [] = None
first_word (w ∷ ws) = Some (w, ws)

-- no more words
abbrev pub no_more : List (List ℕ) → Option ⊤
no_more [] = Some tt
no_more (w ∷ ws) = None

-- a number of at most a limit
unfoldable pub first_number : ℕ → List (List ℕ) → Read ℕ
first_number most ws = do
  w ← first_word ws
  n ← number_in most w.0
  Some (n, w.1)

-- a keyword
unfoldable pub first_keyword : List (List ℕ) → Read HistoryKeyword
first_keyword ws = do
  w ← first_word ws
  k ← keyword_in w.0
  Some (k, w.1)

-- code that the verifier accepts for domains of a size
abbrev pub unless_fault : Option VerifyFault → VerifiedView → Option VerifiedView
unless_fault None f = Some f
unless_fault (Some why) f = None

abbrev pub verified_code : ℕ → Option CodeView → Option VerifiedView
verified_code size (Some program) = unless_fault (the_fault program size) (record { program = program; size = size })
verified_code size None = None

-- the code of a code file, where bytes are one
abbrev pub code_if_file : Result CodeView FileFault → Option CodeView
code_if_file (Ok program) = Some program
code_if_file (Err why) = None

-- the code of a code file in hexadecimal
abbrev pub code_in_bytes : Result (List ℕ) FromHexError → Option CodeView
code_in_bytes (Ok bytes) = code_if_file (file_of bytes)
code_in_bytes (Err why) = None

abbrev pub code_in_hexadecimal : List ℕ → Option CodeView
code_in_hexadecimal digits = code_in_bytes (decode_of digits)

-- a filter
unfoldable pub first_filter : List (List ℕ) → Read VerifiedView
first_filter ws = do
  size ← first_number largest_number ws
  digits ← first_word size.1
  f ← verified_code size.0 (code_in_hexadecimal digits.0)
  Some (f, digits.1)

-- an event, by its keyword
unfoldable pub event_of : HistoryKeyword → List (List ℕ) → Read EventView
event_of word.Up ws = do
  node ← first_number largest_number ws
  Some (Up node.0, node.1)
event_of word.Down ws = do
  session ← first_number largest_session ws
  Some (Down session.0, session.1)
event_of word.Receive ws = do
  session ← first_number largest_session ws
  dest ← first_number largest_number session.1
  dist ← first_number largest_number dest.1
  Some (Receive session.0 dest.0 dist.0, dist.1)
event_of word.Take ws = do
  session ← first_number largest_session ws
  max ← first_number largest_number session.1
  Some (Take session.0 max.0, max.1)
event_of word.Import ws = do
  node ← first_number largest_number ws
  f ← first_filter node.1
  Some (SetImport node.0 f.0, f.1)
event_of word.Export ws = do
  node ← first_number largest_number ws
  f ← first_filter node.1
  Some (SetExport node.0 f.0, f.1)
event_of word.Show ws = do
  node ← first_number largest_number ws
  Some (Show node.0, node.1)
event_of _ ws = None

unfoldable pub first_event : List (List ℕ) → Read EventView
first_event ws = do
  k ← first_keyword ws
  event_of k.0 k.1

-- through whom a route goes, by its keyword, where nothing follows
unfoldable pub via_of : HistoryKeyword → List (List ℕ) → Option Via
via_of word.Local ws = do
  end ← no_more ws
  Some via.Local
via_of word.Via ws = do
  node ← first_number largest_number ws
  end ← no_more node.1
  Some (via.Node node.0)
via_of word.Nowhere ws = do
  end ← no_more ws
  Some via.Nowhere
via_of _ ws = None

unfoldable pub all_via : List (List ℕ) → Option Via
all_via ws = do
  k ← first_keyword ws
  via_of k.0 k.1

-- a message
unfoldable pub message_in : List ℕ → Option Message
message_in w = do
  parts ← parts_at 58 w
  dest ← number_in largest_number parts.0
  dist ← number_in largest_number parts.1
  Some (record { dest = dest; dist = dist })

-- each word a message
unfoldable pub all_messages : List (List ℕ) → Option (List Message)
all_messages [] = Some []
all_messages (w ∷ ws) = do
  m ← message_in w
  ms ← all_messages ws
  Some (m ∷ ms)

-- a reply, by its keyword, where nothing follows
unfoldable pub reply_of : HistoryKeyword → List (List ℕ) → Option Reply
reply_of word.Opened ws = do
  session ← first_number largest_session ws
  end ← no_more session.1
  Some (reply.Opened session.0)
reply_of word.Done ws = do
  changed ← first_number largest_number ws
  end ← no_more changed.1
  Some (reply.Done changed.0)
reply_of word.Messages ws = do
  messages ← all_messages ws
  Some (reply.Messages messages)
reply_of word.Route ws = do
  dist ← first_number largest_number ws
  through ← all_via dist.1
  Some (reply.Route dist.0 through)
reply_of word.Refused ws = do
  code ← first_word ws
  why ← refusal_in code.0
  end ← no_more code.1
  Some (reply.Refused why)
reply_of _ ws = None

unfoldable pub all_reply : List (List ℕ) → Option Reply
all_reply ws = do
  k ← first_keyword ws
  reply_of k.0 k.1

-- a position, an event and a reply
unfoldable pub entry_in : List (List ℕ) → Option EntryView
entry_in ws = do
  at ← first_word ws
  event ← first_event at.1
  reply ← all_reply event.1
  Some (record { event = event.0; reply = reply })

-- each word a prefix
unfoldable pub all_prefixes : List (List ℕ) → Option (List (List Bool))
all_prefixes [] = Some []
all_prefixes (w ∷ ws) = do
  p ← prefix_in w
  ps ← all_prefixes ws
  Some (p ∷ ps)

-- the parts of an opening's line, whether they are those of an opening or not
pub record OpeningParts : Type 0 where
  pub size : ℕ
  pub me : ℕ
  pub limit : ℕ
  pub prefixes : List (List Bool)

unfoldable pub opening_parts : List (List ℕ) → Option OpeningParts
opening_parts ws = do
  mark ← first_word ws
  size ← first_number largest_number mark.1
  me ← first_number largest_number size.1
  limit ← first_number largest_limit me.1
  prefixes ← all_prefixes limit.1
  Some (record { size = size.0; me = me.0; limit = limit.0; prefixes = prefixes })

-- What a reader gave, seen by view, is what the words write; a fault of the form says that they write nothing, and refused
-- memory says nothing of them.
abbrev pub IsRead : {X A : Type 0} → (X → A) → Option A → Result X HistoryLineFault → Type 0
IsRead view found (Ok x) = found ≡ Some (view x)
IsRead view found (Err fault.Form) = found ≡ None
IsRead view found (Err fault.Memory) = ⊤
