-- What a survey says of code. (This project's own choice.)
use Rattle.std.specs.Prelude.{◌≡◌, ℕ, Some, None, Result, Ok, Err}
use Rattle.filter_code.specs.CodeView.{CodeView}
use Rattle.filter_verifier.specs.declared.fault.Unverified.{Unverified}
use Rattle.filter_verifier.specs.declared.survey.RunBounds.{RunBounds}
use Rattle.filter_verifier.specs.Bounds.{cost, peak}
use Rattle.filter_verifier.specs.FirstFault.{the_fault}
use Rattle.filter_verifier.specs.Surveys.{refused_range}

-- its cost and its peak, or the first thing that is not known of it with the range that is refused
abbrev pub IsVerdict : CodeView → ℕ → Result RunBounds Unverified → Type 0
IsVerdict program size (Ok bounds) =
    (the_fault program size ≡ None) × (bounds.budget ≡ cost program.instrs 0) × (bounds.depth ≡ peak program.instrs 0 0)
IsVerdict program size (Err found) =
    (the_fault program size ≡ Some found.fault) × (found.range ≡ refused_range program size found.fault)
