use Rattle.std.proofs.Common.{◌-◌, length}
use Rattle.std.specs.Io.KnownBytes.{Consumes}
use Rattle.message_streams.specs.Ends.{IsOpen}
use Rattle.message_streams.proofs.line.read_line.Given as goal

-- these bytes of the line were read, and none is a line feed
abbrev pub invariant-bytes : goal.invariant-bytes
invariant-bytes g l = record {
  unended : IsOpen l.line.items;
  consumed : Consumes (g.R.Read.remaining l.initial.reader) (g.R.Read.remaining l.reader) l.line.items;
}

abbrev pub decreases-bytes : goal.decreases-bytes
decreases-bytes g l = 64 - length l.line.items
