-- Domains that scripts leave behind, and what the change of one to another does. (This project's own choice.)
use Rattle.std.specs.Prelude.{◌≡◌, ◌⊎◌, ◌∷◌, ◌++◌, [], ℕ, nat_lt, Bool, true, List, Option, Some, None}
use Rattle.std.specs.Io.KnownBytes.{Appends}
use Rattle.line_protocol.specs.Answers.{Answer, refusals}
use Rattle.line_protocol.specs.Lines.{numbered}
use Rattle.line_protocol.specs.Runs.{AppendsFront, Runs}
use Rattle.line_protocol.specs.declared.faults.StreamFault.{StreamFault}
use Rattle.line_protocol.specs.declared.faults.StreamFault.TheVariants.{Memory, Write}
use Rattle.report_formats.specs.declared.format.Format.{Format}
use Rattle.report_formats.specs.declared.format.Format.TheVariants as formats
use Rattle.domain_reports.specs.Reports.{comparison_line}
use Rattle.domain_routes.specs.PlanView.{PlanView}
use Rattle.domain_cmds.specs.Comparing.{ComparisonView, IsComparison, loses_something}
use Rattle.domain_cmds.specs.ComparisonTexts.{comparison_text}
use Rattle.domain_cmds.specs.Said.{comparison_report}
use Rattle.domain_cmds.specs.Script.{AnswersLine}
use Rattle.domain_cmds.specs.State.{PlanningView}
use Rattle.domain_cmds.specs.declared.left.Left.{Left}
use Rattle.domain_cmds.specs.declared.left.Left.TheVariants as left

-- what a script leaves behind that got that far, and of which so many lines were refused
abbrev pub IsLeft : Option PlanningView → ℕ → Left → Type 0
IsLeft planning refused (left.Domain domain) = (p : PlanningView) × (planning ≡ Some p) × (domain ≡ p.plan) × (refused ≡ 0)
IsLeft planning refused left.Nothing = (planning ≡ None) × (refused ≡ 0)
IsLeft planning refused left.Refused = nat_lt 0 refused ≡ true

-- All lines of a script were answered, one after another, and this is what it leaves behind.
pub record Leaves (script : List ℕ) (left : Left) : Type 0 where
  pub given : List Answer
  pub planning : Option PlanningView
  pub run : Runs AnswersLine None (numbered script) given planning
  pub is_left : IsLeft planning (refusals given) left

-- what a change does, as it is written
abbrev pub text_of : Format → ComparisonView → List ℕ
text_of formats.Text found = comparison_text found ++ 10 ∷ []
text_of formats.Json found = comparison_line (comparison_report found)

-- what is told of a change: how it is written, and whether something is lost
abbrev pub IsAnswer : Format → PlanView → PlanView → List ℕ → Bool → Type 0
IsAnswer format old new text is_lost =
    (found : ComparisonView) × IsComparison old new found × (text ≡ text_of format found) × (is_lost ≡ loses_something found)

-- What the change of one domain to another does was written, and it was said whether something is lost.
pub record Compares (format : Format) (old new : PlanView) (held holds : Option (List ℕ)) (is_lost : Bool) : Type 0 where
  pub found : ComparisonView
  pub compared : IsComparison old new found
  pub written : Appends held holds (text_of format found)
  pub lost : is_lost ≡ loses_something found

-- A fault ended it: of a text that says what the change does, a writer that failed got a front, and otherwise nothing was written.
abbrev pub ComparesOff : StreamFault → Format → PlanView → PlanView → Option (List ℕ) → Option (List ℕ) → Type 0
ComparesOff fault format old new held holds = ((fault ≡ Memory) × Appends held holds [])
    ⊎ ((found : ComparisonView) × IsComparison old new found × (fault ≡ Write) × AppendsFront held holds (text_of format found))
