-- The page of the domain that a script leaves behind. (This project's own choice.)
use Rattle.std.specs.Prelude.{◌≡◌, ℕ, Bool, true, false, List, [], ◌++◌, Option, Some, None}
use Rattle.std.specs.Io.KnownBytes.{Appends}
use Rattle.line_protocol.specs.Limits.{input_limit}
use Rattle.line_protocol.specs.Runs.{AppendsFront, Finishes}
use Rattle.domain_reports.specs.Pages.{page_text}
use Rattle.domain_reports.specs.Views.{DomainView}
use Rattle.domain_reports.specs.declared.page.Shell.{Shell}
use Rattle.domain_routes.specs.PlanView.{PlanView}
use Rattle.domain_cmds.specs.Origins.{AreOriginsOf, OriginsView}
use Rattle.domain_cmds.specs.Said.{IsSaid}
use Rattle.domain_cmds.specs.Script.{AnswersLine}
use Rattle.domain_cmds.specs.State.{PlanningView}
use Rattle.domain_cmds.specs.declared.paged.Paged.{Paged}

-- the page of a domain, whose script has this name
abbrev pub IsPage : Shell → List ℕ → PlanView → List ℕ → Type 0
IsPage shell name plan page =
    (origins : OriginsView) × AreOriginsOf plan origins × (domain : DomainView) × IsSaid plan origins domain × (page ≡ page_text shell name domain)

abbrev pub AddsPage : Shell → List ℕ → PlanView → List ℕ → List ℕ → Type 0
AddsPage shell name plan old new = (page : List ℕ) × IsPage shell name plan page × (new ≡ old ++ page)

-- The page of what a script left behind was written to its end, or a front of it; of a script that set no domain up nothing is.
abbrev pub IsPaged : Shell → List ℕ → Option PlanningView → Option (List ℕ) → Option (List ℕ) → Bool → Type 0
IsPaged shell name None held holds is_written = (is_written ≡ true) × Appends held holds []
IsPaged shell name (Some p) held holds true = (page : List ℕ) × IsPage shell name p.plan page × Appends held holds page
IsPaged shell name (Some p) held holds false = (page : List ℕ) × IsPage shell name p.plan page × AppendsFront held holds page

-- A script was answered to its end, with as many refused lines as are said, and then its page was written. The names are those of `Finishes`; `kept`
-- and `keeps` are what the page's writer held before and holds now.
pub record PagesDomain (name input : List ℕ) (left held holds kept keeps : Option (List ℕ)) (paged : Paged) : Type 0 where
  pub after : Option PlanningView
  pub finishes : Finishes AnswersLine input_limit None after input left held holds paged.refused
  pub to_end : left ≡ Some []
  pub shell : Shell
  pub is_paged : IsPaged shell name after kept keeps paged.is_written
