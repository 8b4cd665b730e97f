-- What standard error holds where memory is refused before a line is made.
use Rattle.std.proofs.Common.{◌≡◌, ℕ, List, [], ◌++◌, Option, Some, None, rules}
use Rattle.std.specs.Io.KnownBytes.{Appends}
use Rattle.filter_reports.specs.Cuts.{IsCut}
use Rattle.line_protocol.specs.declared.faults.StreamFault.TheVariants.{Memory}
use Rattle.program_console.specs.Reading.{notice_line}

pub none_appended : (tells : Option (List ℕ)) → Appends tells tells []
none_appended None = tt
none_appended (Some bytes) = let same : bytes ≡ bytes ++ [] = search rules in same

pub nothing_told : (name code : List ℕ) (tells : Option (List ℕ)) → (words : List ℕ) × IsCut Memory tells tells (notice_line name words code)
nothing_told name code tells = ([], none_appended tells)
