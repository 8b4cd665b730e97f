-- The text of a segment: the state of the tables before its first entry, and a line for each entry. (The form is this project's
-- own choice.)
use Rattle.std.specs.Prelude.{◌≡◌, ℕ, suc, ◌<◌, ◌^◌, List, [], ◌∷◌, ◌++◌, Option, Some, None, length, map, slice_index_or, codes, decimal}
use Rattle.std.specs.List.{All}
use Rattle.filter_verifier.specs.VerifiedView.{VerifiedView}
use Rattle.netchange_core.specs.OpeningView.{OpeningView}
use Rattle.netchange_core.specs.World.{NeighbourView, World, neighbour_at}
use Rattle.netchange_core.specs.declared.message.Message.{Message}
use Rattle.history_lines.specs.Fits.{FitsFilter, FitsOpening}
use Rattle.history_lines.specs.Keywords.{keyword_text}
use Rattle.history_lines.specs.Text.{filter_words, message_word, opening_words, spaced}
use Rattle.history_lines.specs.declared.keyword.HistoryKeyword.TheVariants as word
use Rattle.history_file.specs.declared.numbering.Uses.{Uses}

-- the line of its opening: the form's mark, the size, the node, the room of the router, and each node's prefix
abbrev pub mark_line : OpeningView → ℕ → List ℕ
mark_line o room = codes "NCH2" ++ spaced (opening_words o room)

-- the line of its place: how many entries came before it, and how many sessions there were
abbrev pub place_words : ℕ → ℕ → List (List ℕ)
place_words at count = decimal at ∷ codes "sessions" ∷ decimal count ∷ []

abbrev pub place_line : ℕ → ℕ → List ℕ
place_line at count = codes "at" ++ spaced (place_words at count)

-- the line of a filter, by its number in the table of the filters in force
abbrev pub filter_line : ℕ → VerifiedView → List ℕ
filter_line k f = codes "filter" ++ spaced (decimal k ∷ filter_words f)

-- a table, a line for each filter; the first has this number
abbrev pub filters_text : ℕ → List VerifiedView → List ℕ
filters_text k [] = []
filters_text k (f ∷ fs) = filter_line k f ++ 10 ∷ filters_text (suc k) fs

-- the number of a filter after the word that says what it is for
abbrev pub use_words : List ℕ → Option ℕ → List (List ℕ)
use_words text None = []
use_words text (Some k) = text ∷ decimal k ∷ []

-- whether a node is up, and of one that is its session and the distance to each node that it advertised
abbrev pub link_words : Option ℕ → List ℕ → List (List ℕ)
link_words None advertised = keyword_text word.Down ∷ []
link_words (Some session) advertised = keyword_text word.Up ∷ decimal session ∷ map decimal advertised

-- the line of a node, by its number
abbrev pub node_words : ℕ → Uses → NeighbourView → List (List ℕ)
node_words k u n = decimal k ∷ (use_words (keyword_text word.Import) u.imports
    ++ (use_words (keyword_text word.Export) u.exports ++ link_words n.session n.advertised))

abbrev pub node_line : ℕ → Uses → NeighbourView → List ℕ
node_line k u n = codes "node" ++ spaced (node_words k u n)

-- the line of the messages that wait for an up node, where there are any
abbrev pub queue_line : List Message → List ℕ
queue_line ms = codes "queue" ++ spaced (map message_word ms)

abbrev pub queue_text : Option ℕ → List Message → List ℕ
queue_text None ms = []
queue_text (Some session) [] = []
queue_text (Some session) (m ∷ ms) = queue_line (m ∷ ms) ++ 10 ∷ []

-- all that is said of a node
abbrev pub node_text : ℕ → Uses → NeighbourView → List ℕ
node_text k u n = node_line k u n ++ 10 ∷ queue_text n.session n.queue

-- the nodes from this number on, each with the numbers of its filters
abbrev pub nodes_text : ℕ → List Uses → List NeighbourView → List ℕ
nodes_text k [] ns = []
nodes_text k (u ∷ us) ns = node_text k u (neighbour_at ns k) ++ nodes_text (suc k) us ns

-- the line that ends a state
abbrev pub end_text : List ℕ
end_text = 46 ∷ 10 ∷ []

-- a state, from the first line of its segment to the line that ends it
abbrev pub state_text : ℕ → ℕ → World → List VerifiedView → List Uses → List ℕ
state_text room at w table uses =
    mark_line w.opening room ++ 10 ∷ (place_line at w.sessions ++ 10 ∷ (filters_text 0 table ++ (nodes_text 0 uses w.neighbours ++ end_text)))

-- a filter has this number in the table
abbrev pub IsUse : List VerifiedView → Option VerifiedView → Option ℕ → Type 0
IsUse table None None = Unit {0}
IsUse table (Some f) (Some k) = (k < length table) × (slice_index_or table k f ≡ f)
IsUse table None (Some k) = ⊥
IsUse table (Some f) None = ⊥

-- the filters of a node have these numbers
pub record AreUses (table : List VerifiedView) (n : NeighbourView) (u : Uses) : Type 0 where
  pub imports : IsUse table n.imports u.imports
  pub exports : IsUse table n.exports u.exports

abbrev pub uses_at : List Uses → ℕ → Uses
uses_at us k = slice_index_or us k (record { imports = None; exports = None })

-- each filter of the table can be written, and stands there once
pub record IsTable (table : List VerifiedView) : Type 0 where
  pub fits : All FitsFilter table
  pub once : (j k : ℕ) (d : VerifiedView) → j < k → k < length table → slice_index_or table j d ≡ slice_index_or table k d → ⊥

-- The text of a state at a position, where each filter in force has its line, by which the nodes name it. A node that is down has
-- advertised nothing and nothing waits for it, as in each world that is reached, so neither is written.
pub record IsStateText (room at : ℕ) (w : World) (text : List ℕ) : Type 0 where
  pub table : List VerifiedView
  pub uses : List Uses
  pub opening : FitsOpening w.opening room
  pub filters : IsTable table
  pub few : length table < 2 ^ 64
  pub one_a_node : length uses ≡ w.opening.size
  pub each : (k : ℕ) → k < w.opening.size → AreUses table (neighbour_at w.neighbours k) (uses_at uses k)
  pub text_is : text ≡ state_text room at w table uses

-- the text of a state was added
pub record AddsState (room at : ℕ) (w : World) (old new : List ℕ) : Type 0 where
  pub text : List ℕ
  pub added : new ≡ old ++ text
  pub is_text : IsStateText room at w text

-- what is alike in two texts that begin with states: the room, the position, the state, and what follows
pub record IsOneState (r s a b : ℕ) (w v : World) (x y : List ℕ) : Type 0 where
  pub room : r ≡ s
  pub place : a ≡ b
  pub state : w ≡ v
  pub later : x ≡ y
