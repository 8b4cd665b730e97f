-- The lines of a feed, and what a reader gathers from them. (This project's own choice.)
use Rattle.std.specs.Prelude.{ℕ, if◌then◌else◌, Bool, true, false, Option, Some, None, List, [], ◌∷◌, ◌++◌, codes, decimal, flat_map}
use Rattle.std.specs.Bool.{beq}
use Rattle.std.specs.Cmp.Lexicographic.{pointwise}
use Rattle.prefix_patterns.specs.Spelling.{prefix_text}
use Rattle.route_feed.specs.declared.hop.Hop.{Hop}

-- a line: packets for this prefix go there, or nowhere any more
pub record Change : Type 0 where
  pub prefix : List Bool
  pub hop : Option Hop

-- the lines between a `begin` and its `end`, after so many entries of the history: the whole table, or what is another way than in the blocks before
pub record Block : Type 0 where
  pub at : ℕ
  pub is_whole : Bool
  pub changes : List Change

abbrev pub line_text : List Bool → Option Hop → List ℕ
line_text p None = codes "unreachable " ++ prefix_text p ++ 10 ∷ []
line_text p (Some hop) = codes "route " ++ prefix_text p ++ codes " via " ++ decimal hop.node ++ codes " metric " ++ decimal hop.dist ++ 10 ∷ []

abbrev pub change_text : Change → List ℕ
change_text c = line_text c.prefix c.hop

abbrev pub changes_text : List Change → List ℕ
changes_text cs = flat_map change_text cs

abbrev pub begin_text : ℕ → Bool → List ℕ
begin_text at true = codes "begin " ++ decimal at ++ codes " whole" ++ 10 ∷ []
begin_text at false = codes "begin " ++ decimal at ++ 10 ∷ []

abbrev pub end_text : ℕ → List ℕ
end_text at = codes "end " ++ decimal at ++ 10 ∷ []

abbrev pub block_text : Block → List ℕ
block_text b = begin_text b.at b.is_whole ++ changes_text b.changes ++ end_text b.at

-- the text of a feed, of which the newest block comes first here
abbrev pub feed_text : List Block → List ℕ
feed_text [] = []
feed_text (b ∷ bs) = feed_text bs ++ block_text b

-- a table after a line, and after several
abbrev pub with_change : (List Bool → Option Hop) → Change → List Bool → Option Hop
with_change table c p = if pointwise beq c.prefix p then c.hop else table p

abbrev pub with_changes : (List Bool → Option Hop) → List Change → List Bool → Option Hop
with_changes table [] = table
with_changes table (c ∷ cs) = with_changes (with_change table c) cs

-- what is gathered from a feed: at first there is no route
abbrev pub gathered : List Block → List Bool → Option Hop
gathered [] p = None
gathered (b ∷ bs) p = with_changes (gathered bs) b.changes p
