-- The streams of the program. (This project's own choice.)
use Rattle.std.specs.Prelude.{◌≡◌, ℕ, List, Option}
use Rattle.std.specs.Io.KnownBytes.{Appends}
use Rattle.filter_reports.specs.Cuts.{IsCut}
use Rattle.line_protocol.specs.Runs.{AppendsFront}
use Rattle.line_protocol.specs.declared.faults.StreamFault.{StreamFault}

-- what the input has left, what the output holds, and what standard error holds
pub record Streams : Type 0 where
  pub reads : Option (List ℕ)
  pub holds : Option (List ℕ)
  pub tells : Option (List ℕ)

-- A text was written, and that is all.
pub record Writes (text : List ℕ) (before after : Streams) : Type 0 where
  pub written : Appends before.holds after.holds text
  pub reads : after.reads ≡ before.reads
  pub tells : after.tells ≡ before.tells

-- A fault cut it.
pub record CutsWriting (fault : StreamFault) (text : List ℕ) (before after : Streams) : Type 0 where
  pub written : IsCut fault before.holds after.holds text
  pub reads : after.reads ≡ before.reads
  pub tells : after.tells ≡ before.tells

-- A text was told, and that is all.
pub record Tells (text : List ℕ) (before after : Streams) : Type 0 where
  pub told : Appends before.tells after.tells text
  pub reads : after.reads ≡ before.reads
  pub holds : after.holds ≡ before.holds

-- A front of it was.
pub record TellsFront (text : List ℕ) (before after : Streams) : Type 0 where
  pub told : AppendsFront before.tells after.tells text
  pub reads : after.reads ≡ before.reads
  pub holds : after.holds ≡ before.holds

-- A fault cut it.
pub record CutsTelling (fault : StreamFault) (text : List ℕ) (before after : Streams) : Type 0 where
  pub told : IsCut fault before.tells after.tells text
  pub reads : after.reads ≡ before.reads
  pub holds : after.holds ≡ before.holds
