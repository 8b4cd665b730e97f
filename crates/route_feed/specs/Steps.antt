-- What the steps of a feed do. (This project's own choice.)
use Rattle.std.specs.Prelude.{◌≡◌, ℕ, ◌<◌, true, is_none, IsSome, Option, Some, None, List, length}
use Rattle.std.specs.Io.KnownBytes.{Appends}
use Rattle.line_protocol.specs.Runs.{AppendsFront}
use Rattle.route_feed.specs.declared.fault.FeedFault.{FeedFault}
use Rattle.route_feed.specs.declared.fault.FeedFault.TheVariants as fault
use Rattle.route_feed.specs.declared.hop.Hop.{Hop}
use Rattle.netchange_core.specs.FilteredDistance.{prefix_of}
use Rattle.route_feed.specs.Changes.{are_same_below, changes_below}
use Rattle.route_feed.specs.Feeding.{FeedView}
use Rattle.route_feed.specs.Lines.{Block}
use Rattle.route_feed.specs.Table.{hop_at}

-- no packets go anywhere
pub record AreNowhere (size : ℕ) (hops : List (Option Hop)) : Type 0 where
  pub one_a_node : length hops ≡ size
  pub each : (v : ℕ) → v < size → hop_at hops v ≡ None

-- a text was written, which tells these
pub record IsWritten (text : List ℕ) (hops : List (Option Hop)) (end : ℕ) (old new : FeedView) : Type 0 where
  pub appends : Appends old.held new.held text
  pub is : new ≡ record old { held = new.held; at = Some end; hops = hops }

-- or a front of it, and nothing more will be
pub record IsUnwritten (text : List ℕ) (old new : FeedView) : Type 0 where
  pub front : AppendsFront old.held new.held text
  pub is : new ≡ record old { held = new.held; is_broken = true }

-- the block that tells where packets go now, after so many entries: what of it is another way than it was told
abbrev pub news_block : FeedView → List (Option Hop) → ℕ → Block
news_block f hops end = record {
  at = end;
  is_whole = is_none f.at;
  changes = changes_below (prefix_of f.opening) (hop_at f.hops) (hop_at hops) f.opening.size;
}

-- where memory was refused nothing is written of a text, and where a write failed a front of it
abbrev pub IsUntold : FeedFault → List ℕ → FeedView → FeedView → Type 0
IsUntold fault.Memory text old new = new ≡ old
IsUntold fault.Write text old new = IsUnwritten text old new

-- the table was told, and nothing of it is another way
pub record IsStill (f : FeedView) (hops : List (Option Hop)) : Type 0 where
  pub told : IsSome f.at
  pub same : are_same_below (hop_at f.hops) (hop_at hops) (length hops) ≡ true

-- where memory was refused nothing is changed; where a write failed nothing more is written
abbrev pub Fails : FeedFault → FeedView → FeedView → Type 0
Fails fault.Memory old new = new ≡ old
Fails fault.Write old new = new.is_broken ≡ true
