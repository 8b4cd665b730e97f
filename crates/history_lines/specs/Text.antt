-- The text of a history: a line for its opening, and a line for each entry. (The form is this project's own choice.)
use Rattle.std.specs.Prelude.{ℕ, suc, List, [], ◌∷◌, ◌++◌, map, codes, decimal}
use Rattle.code_file.specs.Spelling.{spelling}
use Rattle.filter_verifier.specs.VerifiedView.{VerifiedView}
use Rattle.hex.specs.Hex.{encode_lower}
use Rattle.netchange_core.specs.Codes.{refusal_code}
use Rattle.netchange_core.specs.OpeningView.{OpeningView}
use Rattle.netchange_core.specs.declared.message.Message.{Message}
use Rattle.netchange_core.specs.declared.reply.Reply.{Reply}
use Rattle.netchange_core.specs.declared.reply.Reply.TheVariants as reply
use Rattle.netchange_core.specs.declared.reply.Via.{Via}
use Rattle.netchange_core.specs.declared.reply.Via.TheVariants as via
use Rattle.prefix_patterns.specs.Spelling.{prefix_text}
use Rattle.history_lines.specs.Keywords.{keyword_text}
use Rattle.history_lines.specs.Views.{EventView, Up, Down, Receive, Take, SetImport, SetExport, Show, EntryView, HistoryView}
use Rattle.history_lines.specs.declared.keyword.HistoryKeyword.TheVariants as word

-- words, each after a space
abbrev pub spaced : List (List ℕ) → List ℕ
spaced [] = []
spaced (w ∷ ws) = 32 ∷ w ++ spaced ws

-- a message: its destination, a colon and its distance
abbrev pub message_word : Message → List ℕ
message_word m = decimal m.dest ++ 58 ∷ decimal m.dist

-- through whom a route goes
abbrev pub via_words : Via → List (List ℕ)
via_words via.Local = keyword_text word.Local ∷ []
via_words (via.Node w) = keyword_text word.Via ∷ decimal w ∷ []
via_words via.Nowhere = keyword_text word.Nowhere ∷ []

-- a reply
abbrev pub reply_words : Reply → List (List ℕ)
reply_words (reply.Opened session) = keyword_text word.Opened ∷ decimal session ∷ []
reply_words (reply.Done changed) = keyword_text word.Done ∷ decimal changed ∷ []
reply_words (reply.Messages messages) = keyword_text word.Messages ∷ map message_word messages
reply_words (reply.Route dist through) = keyword_text word.Route ∷ decimal dist ∷ via_words through
reply_words (reply.Refused why) = keyword_text word.Refused ∷ refusal_code why ∷ []

-- a filter: the size that it was verified for, and the file of its code in hexadecimal
abbrev pub filter_words : VerifiedView → List (List ℕ)
filter_words f = decimal f.size ∷ encode_lower (spelling f.program) ∷ []

-- an event; sessions, nodes and distances are numbers
abbrev pub event_words : EventView → List (List ℕ)
event_words (Up node) = keyword_text word.Up ∷ decimal node ∷ []
event_words (Down session) = keyword_text word.Down ∷ decimal session ∷ []
event_words (Receive session dest dist) =
    keyword_text word.Receive ∷ decimal session ∷ decimal dest ∷ decimal dist ∷ []
event_words (Take session max) = keyword_text word.Take ∷ decimal session ∷ decimal max ∷ []
event_words (SetImport node filter) = keyword_text word.Import ∷ decimal node ∷ filter_words filter
event_words (SetExport node filter) = keyword_text word.Export ∷ decimal node ∷ filter_words filter
event_words (Show node) = keyword_text word.Show ∷ decimal node ∷ []

-- the line of an entry: its position, the event and the reply
abbrev pub entry_line : ℕ → EntryView → List ℕ
entry_line at e = decimal at ++ spaced (event_words e.event ++ reply_words e.reply)

-- the line of an opening: the form's mark, the size, the node, the limit of the history, and each node's prefix
abbrev pub opening_words : OpeningView → ℕ → List (List ℕ)
opening_words o limit = decimal o.size ∷ decimal o.me ∷ decimal limit ∷ map prefix_text o.prefixes

abbrev pub opening_line : OpeningView → ℕ → List ℕ
opening_line o limit = codes "NCH1" ++ spaced (opening_words o limit)

-- entries, a line each; the first has this position
abbrev pub entries_text : ℕ → List EntryView → List ℕ
entries_text at [] = []
entries_text at (e ∷ es) = entry_line at e ++ 10 ∷ entries_text (suc at) es

-- a whole history
abbrev pub history_text : HistoryView → List ℕ
history_text h = opening_line h.opening h.limit ++ 10 ∷ entries_text 0 h.entries
