-- What a feed has told of a router's history. (This project's own choice.)
use Rattle.std.specs.Prelude.{◌≡◌, ℕ, ◌≤◌, Bool, true, false, All, Option, Some, None, List, [], ◌∷◌, ◌++◌, length, take, ⊤}
use Rattle.std.specs.Io.KnownBytes.{Appends}
use Rattle.netchange_core.specs.FilteredDistance.{prefix_of}
use Rattle.netchange_core.specs.OpeningView.{OpeningView}
use Rattle.route_feed.specs.declared.hop.Hop.{Hop}
use Rattle.route_feed.specs.Lines.{Block, block_text, feed_text, gathered}
use Rattle.route_feed.specs.Table.{AreHops, is_had_below, table}
use Rattle.route_history.specs.History.{world_of}
use Rattle.route_history.specs.JournalView.{JournalView}
use Rattle.slot_lock.specs.Passes.{PassView, RouterView}

-- A feed: what its router was opened with; what its stream held at first and what it holds now, where that is known; after how many entries it
-- told the table last, if it did; where packets for the prefix of each node go, as it told; and whether a write failed.
pub record FeedView : Type 0 where
  pub opening : OpeningView
  pub first : Option (List ℕ)
  pub held : Option (List ℕ)
  pub at : Option ℕ
  pub hops : List (Option Hop)
  pub is_broken : Bool

-- the journal of a router, as far as a pass has seen it
abbrev pub seen_by : RouterView → PassView → JournalView
seen_by r p = record { opening = r.opening; limit = r.limit; entries = p.fragment.seen }

-- where packets for a prefix go after the first so many entries of a history
abbrev pub table_after : JournalView → ℕ → List Bool → Option Hop
table_after j n p = table (world_of j.opening (take n j.entries)) p

-- whether no block comes before
abbrev pub is_none_before : List Block → Bool
is_none_before [] = true
is_none_before (b ∷ bs) = false

-- A block behind others, of which the newest comes first: it is of no later moment than this one, and who gathers all of them has the table of
-- its moment. Each of its lines tells something new, and none is for the router's own prefix. Only the first block says that it is the whole table.
pub record IsMoment (j : JournalView) (upto : ℕ) (b : Block) (bs : List Block) : Type 0 where
  pub at : b.at ≤ upto
  pub table : (p : List Bool) → gathered (b ∷ bs) p ≡ table_after j b.at p
  pub new : All (λ c. gathered bs c.prefix ≡ c.hop → ⊥) b.changes
  pub foreign : All (λ c. c.prefix ≡ prefix_of j.opening j.opening.me → ⊥) b.changes
  pub whole : b.is_whole ≡ is_none_before bs

-- each block is of a moment of the history, none later than the next
abbrev pub AreMoments : JournalView → ℕ → List Block → Type 0
AreMoments j upto [] = ⊤
AreMoments j upto (b ∷ bs) = IsMoment j upto b bs × AreMoments j b.at bs

-- the table of this moment is told
pub record IsTold (j : JournalView) (n : ℕ) (bs : List Block) : Type 0 where
  pub within : n ≤ length j.entries
  pub begun : bs ≡ [] → ⊥
  pub moments : AreMoments j n bs
  pub now : (p : List Bool) → gathered bs p ≡ table_after j n p

abbrev pub Tells : JournalView → Option ℕ → List Block → Type 0
Tells j None bs = bs ≡ []
Tells j (Some n) bs = IsTold j n bs

-- A write failed: behind the blocks stands a part of another one, cut at any byte.
pub record IsCut (j : JournalView) (bs : List Block) (first held : Option (List ℕ)) : Type 0 where
  pub block : Block
  pub moment : IsMoment j (length j.entries) block bs
  pub front : List ℕ
  pub back : List ℕ
  pub text : block_text block ≡ front ++ back
  pub got : Appends first held (feed_text bs ++ front)

abbrev pub Got : Bool → JournalView → List Block → Option (List ℕ) → Option (List ℕ) → Type 0
Got false j bs first held = Appends first held (feed_text bs)
Got true j bs first held = IsCut j bs first held

-- A stream got blocks that tell the table of the router at moments of this history; what it told last is that of the feed's own moment. No
-- prefix is told that no node has.
pub record HasFed (f : FeedView) (j : JournalView) : Type 0 where
  pub blocks : List Block
  pub tells : Tells j f.at blocks
  pub hops : AreHops f.opening.size (prefix_of f.opening) (gathered blocks) f.hops
  pub others : (p : List Bool) → is_had_below (prefix_of f.opening) p f.opening.size ≡ false → gathered blocks p ≡ None
  pub got : Got f.is_broken j blocks f.first f.held

-- a block was told, and nothing beside it: it is of the moment after so many entries
pub record IsSpoken (n : ℕ) (old new : FeedView) : Type 0 where
  pub block : Block
  pub at : block.at ≡ n
  pub appends : Appends old.held new.held (block_text block)
