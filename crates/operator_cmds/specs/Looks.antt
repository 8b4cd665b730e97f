-- What is told of a router to who looks at it. (This project's own choice.)
use Rattle.std.specs.Prelude.{ℕ, suc, zero, ◌+◌, ◌<◌, ◌==◌, nat_le, Bool, true, if◌then◌else◌, List, [], ◌∷◌, ◌++◌}
use Rattle.std.specs.Prelude.{map, take, drop, slice_index, codes, decimal, Option, Some, None, is_some}
use Rattle.history_lines.specs.Text.{entry_line}
use Rattle.history_lines.specs.Views.{EntryView, entry_view}
use Rattle.line_protocol.specs.Answers.{Answer}
use Rattle.netchange_core.specs.Best.{best, neighbour_distance}
use Rattle.netchange_core.specs.Calls.{session_of}
use Rattle.netchange_core.specs.World.{World, neighbour_at}
use Rattle.netchange_core.specs.declared.best_route.BestRoute.{BestRoute}
use Rattle.netchange_core.specs.declared.reply.Via.{Via}
use Rattle.netchange_core.specs.declared.reply.Via.TheVariants as via
use Rattle.route_history.specs.declared.entry.Entry.{Entry}
use Rattle.operator_cmds.specs.Limits.{history_count}
use Rattle.operator_cmds.specs.Replies.{answered, pair_text, refused}
use Rattle.operator_cmds.specs.declared.command.Look.{Look}
use Rattle.operator_cmds.specs.declared.command.Look.TheVariants.{Routes, Neighbours, Told}

-- the texts of all numbers below one, from 0 upwards
unfoldable pub texts_below : ℕ → (ℕ → List ℕ) → List ℕ
texts_below zero text = []
texts_below (suc n) text = texts_below n text ++ text n

-- ---- a node in the answer to a look at the tables

-- the next hop of a route, if it has one
abbrev pub hop_text : Via → List ℕ
hop_text via.Local = []
hop_text (via.Node w) = 58 ∷ decimal w
hop_text via.Nowhere = []

-- ` V:D:W`, or ` V:D` where there is no next hop
abbrev pub route_text : ℕ → BestRoute → List ℕ
route_text v route = pair_text v route.dist ++ hop_text route.via

-- ` W:S`, or nothing where the node has no session
abbrev pub session_text : ℕ → Option ℕ → List ℕ
session_text w None = []
session_text w (Some s) = pair_text w s

-- what the import filter made of a distance, where that is another
abbrev pub filtered_text : ℕ → ℕ → List ℕ
filtered_text advertised filtered = if advertised == filtered then [] else 62 ∷ decimal filtered

-- ` V:D>E`, or ` V:D` where the import filter leaves the distance as it was advertised
abbrev pub told_text : ℕ → ℕ → ℕ → List ℕ
told_text v advertised filtered = pair_text v advertised ++ filtered_text advertised filtered

abbrev pub node_text : World → Look → ℕ → List ℕ
node_text w Routes v = route_text v (best w v)
node_text w Neighbours v = session_text v (session_of w v)
node_text w (Told k) v =
    let n = neighbour_at w.neighbours k in
    told_text v (slice_index n.advertised v) (neighbour_distance w.opening v n)

-- ---- a look at the tables

abbrev pub look_word : Look → List ℕ
look_word Routes = codes "routes"
look_word Neighbours = codes "neighbours"
look_word (Told k) = codes "told"

-- all nodes
abbrev pub nodes_text : World → Look → List ℕ
nodes_text w look = texts_below w.opening.size (node_text w look)

abbrev pub look_text : World → Look → List ℕ
look_text w look = look_word look ++ nodes_text w look

-- only an up neighbour has told something
abbrev pub can_look : World → Look → Bool
can_look w Routes = true
can_look w Neighbours = true
can_look w (Told k) = is_some (session_of w k)

-- the node at which is looked is one of so many
abbrev pub IsLook : ℕ → Look → Type 0
IsLook size Routes = Unit {0}
IsLook size Neighbours = Unit {0}
IsLook size (Told k) = k < size

-- the answer to the line of this number
abbrev pub looked : World → ℕ → Look → Answer
looked w number look = if can_look w look then answered (look_text w look) else refused (codes "O2") number

-- ---- a look at the history

-- what stands before an entry: a bar, unless it is the first that is told
abbrev pub bar_before : ℕ → List ℕ
bar_before zero = codes " "
bar_before (suc told) = codes " | "

-- entries, from a position on; so many of them were told before these
abbrev pub entries_text : ℕ → ℕ → List EntryView → List ℕ
entries_text from told [] = []
entries_text from told (e ∷ es) = bar_before told ++ entry_line (from + told) e ++ entries_text from (suc told) es

-- the entries from a position on, as many as are told at once
abbrev pub told_entries : List Entry → ℕ → List Entry
told_entries entries from = take history_count (drop from entries)

abbrev pub history_text : List Entry → ℕ → List ℕ
history_text entries from = codes "history" ++ entries_text from 0 (map entry_view (told_entries entries from))

-- the answer to who looks at a history, of which so many entries are forgotten, from a position on: the first position that is not forgotten,
-- if that one is
abbrev pub history_looked : ℕ → List Entry → ℕ → Answer
history_looked first entries from = if nat_le first from then answered (history_text entries from) else refused (codes "O10") first
