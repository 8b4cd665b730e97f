-- What a text can hold: numbers within the ranges of their types, and filters that the verifier accepts. Each entry of a router
-- is so. (This project's own choice.)
use Rattle.std.specs.Prelude.{◌≡◌, ℕ, ◌≤◌, length, None}
use Rattle.std.specs.List.{All}
use Rattle.code_file.specs.Spelling.{IsCode}
use Rattle.filter_code.specs.Limits.{largest_size}
use Rattle.filter_verifier.specs.FirstFault.{the_fault}
use Rattle.filter_verifier.specs.VerifiedView.{VerifiedView}
use Rattle.netchange_core.specs.OpeningView.{OpeningView, IsOpening}
use Rattle.netchange_core.specs.declared.message.Message.{Message}
use Rattle.netchange_core.specs.declared.reply.Reply.{Reply}
use Rattle.netchange_core.specs.declared.reply.Reply.TheVariants as reply
use Rattle.netchange_core.specs.declared.reply.Via.{Via}
use Rattle.netchange_core.specs.declared.reply.Via.TheVariants as via
use Rattle.prefix_patterns.specs.Bits.{address_length}
use Rattle.route_history.specs.Limits.{largest_limit}
use Rattle.history_lines.specs.Views.{EventView, Up, Down, Receive, Take, SetImport, SetExport, Show, EntryView, HistoryView}

-- the largest number of a node, a distance or a count, and of a session
abbrev pub largest_number : ℕ
largest_number = 65535

abbrev pub largest_session : ℕ
largest_session = 4294967295

pub record FitsMessage (m : Message) : Type 0 where
  pub dest : m.dest ≤ largest_number
  pub dist : m.dist ≤ largest_number

abbrev pub FitsVia : Via → Type 0
FitsVia (via.Node w) = w ≤ largest_number
FitsVia _ = Unit {0}

abbrev pub FitsReply : Reply → Type 0
FitsReply (reply.Opened session) = session ≤ largest_session
FitsReply (reply.Done changed) = changed ≤ largest_number
FitsReply (reply.Messages messages) = All FitsMessage messages
FitsReply (reply.Route dist through) = (dist ≤ largest_number) × FitsVia through
FitsReply (reply.Refused why) = Unit {0}

-- verified code that has a file
pub record FitsFilter (f : VerifiedView) : Type 0 where
  pub code : IsCode f.program
  pub faultless : the_fault f.program f.size ≡ None
  pub size : f.size ≤ largest_size

abbrev pub FitsEvent : EventView → Type 0
FitsEvent (Up node) = node ≤ largest_number
FitsEvent (Down session) = session ≤ largest_session
FitsEvent (Receive session dest dist) = (session ≤ largest_session) × (dest ≤ largest_number) × (dist ≤ largest_number)
FitsEvent (Take session max) = (session ≤ largest_session) × (max ≤ largest_number)
FitsEvent (SetImport node filter) = (node ≤ largest_number) × FitsFilter filter
FitsEvent (SetExport node filter) = (node ≤ largest_number) × FitsFilter filter
FitsEvent (Show node) = node ≤ largest_number

pub record FitsEntry (e : EntryView) : Type 0 where
  pub event : FitsEvent e.event
  pub reply : FitsReply e.reply

pub record FitsOpening (o : OpeningView) (limit : ℕ) : Type 0 where
  pub opening : IsOpening o
  pub prefixes : All (λ bits. length bits ≤ address_length) o.prefixes
  pub some : 1 ≤ limit
  pub few : limit ≤ largest_limit

-- a history that has a text: it is within its limit, and each part fits
pub record FitsHistory (h : HistoryView) : Type 0 where
  pub opening : FitsOpening h.opening h.limit
  pub room : length h.entries ≤ h.limit
  pub each : All FitsEntry h.entries
