-- How a script whose history is saved goes and ends. (This project's own choice.)
use Rattle.std.specs.Prelude.{◌≡◌, ℕ, Bool, true, List, Option, ⊤}
use Rattle.std.specs.Io.KnownBytes.{Appends}
use Rattle.line_protocol.specs.Limits.{input_limit}
use Rattle.line_protocol.specs.Runs.{Finishes, Stops}
use Rattle.line_protocol.specs.declared.faults.StreamFault.{StreamFault}
use Rattle.line_protocol.specs.declared.faults.StreamFault.TheVariants.{Read, Write, Memory, TooLong}
use Rattle.router_script.specs.Naming.{PreparedView, fresh_with}
use Rattle.router_script.specs.Saved.{saved_text, whole_text}
use Rattle.router_script.specs.Stopping.{AnswersStopping}
use Rattle.router_script.specs.declared.filter_naming.NamedFilter.{NamedFilter}
use Rattle.router_script.specs.declared.filter_naming.Unfit.{Unfit}

-- A script that was started with filters was answered to its end, or to the refused line that ended it, or to the line that set up a domain
-- for which one of the filters is refused; `unfit` is that filter. Where the history is saved, what its saver got is the text of the whole of it,
-- which has an opening once a domain is set up.
-- `input` is all that the reader had, `left` what it has now; `held` and `holds` are what the writer held before and holds now, `kept`
-- and `keeps` the same of the saver; `refused` is the number that was returned.
pub record IsSaved (saves stops : Bool) (filters : List NamedFilter) (input : List ℕ) (left held holds : Option (List ℕ)) (refused : ℕ)
    (kept keeps : Option (List ℕ)) (unfit : Option Unfit) : Type 0 where
  pub after : PreparedView
  pub finishes : Finishes (AnswersStopping stops) input_limit (fresh_with filters) after input left held holds refused
  pub saved : saves ≡ true → Appends kept keeps (whole_text after.script.stage)
  pub unfit_is : after.unfit ≡ unfit

-- What a saver got of a text where a fault ended the script: all of it where the input could not be read or is too long. Of what it
-- got where a write failed or memory was refused nothing is said.
abbrev pub IsSavedUntil : StreamFault → Option (List ℕ) → Option (List ℕ) → List ℕ → Type 0
IsSavedUntil Read kept keeps text = Appends kept keeps text
IsSavedUntil TooLong kept keeps text = Appends kept keeps text
IsSavedUntil Write kept keeps text = ⊤
IsSavedUntil Memory kept keeps text = ⊤

-- A fault ended a script: its first lines are answered, and the history that their events made is saved, if it is at all. The names are those of
-- `IsSaved`.
pub record IsSavedInPart (fault : StreamFault) (saves stops : Bool) (filters : List NamedFilter) (input : List ℕ)
    (left held holds kept keeps : Option (List ℕ)) : Type 0 where
  pub after : PreparedView
  pub broken_off : Stops (AnswersStopping stops) (λ _ _. ⊤) input_limit fault (fresh_with filters) after input left held holds
  pub saved : saves ≡ true → IsSavedUntil fault kept keeps (saved_text after.script.stage)
