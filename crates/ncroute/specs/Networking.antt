-- What the program does for `net`, and its exit status. (This project's own choice.)
use Rattle.std.specs.Prelude.{◌≡◌, ◌⊎◌, ℕ, List, [], ◌∷◌, ◌++◌, codes}
use Rattle.std.specs.Io.KnownBytes.{Appends}
use Rattle.line_protocol.specs.Runs.{AppendsFront}
use Rattle.ring_network.specs.declared.fault.NetworkFault.{NetworkFault}
use Rattle.program_console.specs.Streaming.{Streams, Writes}
use Rattle.ring_network.specs.Network.{LeavesOff, network_code, replayed_lines}

-- the line that tells of a fault
abbrev pub network_line : NetworkFault → List ℕ
network_line fault = codes "ncroute: " ++ network_code fault ++ 10 ∷ []

-- A fault ended it, which standard error was told.
pub record LeavesNetwork (before after : Streams) : Type 0 where
  pub fault : NetworkFault
  pub left_off : LeavesOff fault before.holds after.holds
  pub told : Appends before.tells after.tells (network_line fault)
  pub reads : after.reads ≡ before.reads

-- The lines were written, and nothing was said on standard error; or a fault ended it, and the status is 1.
abbrev pub ServesNetwork : Streams → Streams → ℕ → Type 0
ServesNetwork before after status =
    (Writes replayed_lines before after × (status ≡ 0)) ⊎ (LeavesNetwork before after × (status ≡ 1))

-- A fault ended it, and standard error did not take the whole line.
pub record FailsToReportNetwork (before after : Streams) : Type 0 where
  pub fault : NetworkFault
  pub left_off : LeavesOff fault before.holds after.holds
  pub told : AppendsFront before.tells after.tells (network_line fault)
  pub reads : after.reads ≡ before.reads
