-- What was written of a text where a fault ended the run (this project's own choice).
use Rattle.std.specs.Prelude.{ℕ, List, [], Option}
use Rattle.std.specs.Io.KnownBytes.{Appends}
use Rattle.line_protocol.specs.Runs.{AppendsFront}
use Rattle.line_protocol.specs.declared.faults.StreamFault.{StreamFault}
use Rattle.line_protocol.specs.declared.faults.StreamFault.TheVariants.{Read, Write, Memory, TooLong}

-- How far one text came that a fault kept from being written: where memory is refused it is not begun.
abbrev pub IsCut : StreamFault → Option (List ℕ) → Option (List ℕ) → List ℕ → Type 0
IsCut Read held holds text = ⊥
IsCut Write held holds text = AppendsFront held holds text
IsCut Memory held holds text = Appends held holds []
IsCut TooLong held holds text = ⊥
