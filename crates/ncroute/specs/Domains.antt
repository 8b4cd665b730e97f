-- What the program does with two domains that are compared. (This project's own choice.)
use Rattle.std.specs.Prelude.{◌≡◌, ◌≢◌, ◌⊎◌, ℕ, Bool, List, [], ◌∷◌, Option, Some, None, Result, codes}
use Rattle.std.specs.Io.KnownBytes.{Appends}
use Rattle.std.specs.declared.io.Error.{Error}
use Rattle.line_protocol.specs.Runs.{AppendsFront}
use Rattle.report_formats.specs.declared.format.Format.{Format}
use Rattle.domain_routes.specs.PlanView.{PlanView}
use Rattle.domain_cmds.specs.Comparing.{ComparisonView, IsComparison}
use Rattle.domain_cmds.specs.Left.{Compares, Leaves, text_of}
use Rattle.domain_cmds.specs.declared.left.Left.{Left}
use Rattle.domain_cmds.specs.declared.left.Left.TheVariants as left
use Rattle.program_words.specs.declared.source.Source.{Source}
use Rattle.filter_reports.specs.Reports.{status_of_found}
use Rattle.program_console.specs.Reading.{name_of, notice_line}
use Rattle.ncroute.specs.DomainLoading.{ReadsScript, SkipsScript}
use Rattle.ncroute.specs.Scripts.{IsQuiet}
use Rattle.program_console.specs.Streaming.{Streams, Tells}

-- what is told of a script that leaves no domain behind, of two scripts whose domains cannot be compared
unfoldable pub nothing_words : List ℕ
nothing_words = codes "this script sets up no domain"

unfoldable pub refused_words : List ℕ
refused_words = codes "a line of this script is refused, so nothing is compared"

unfoldable pub unlike_words : List ℕ
unlike_words = codes "this domain has not as many nodes as the one before it"

-- The domain that a script left behind, or none, which standard error is told. `stderr_before` is what it held, `stderr_after` what it holds now.
abbrev pub IsDomainOf : List ℕ → Left → Option (List ℕ) → Option (List ℕ) → Option PlanView → Type 0
IsDomainOf name (left.Domain domain) stderr_before stderr_after plan = (plan ≡ Some domain) × (stderr_after ≡ stderr_before)
IsDomainOf name left.Nothing stderr_before stderr_after plan = (plan ≡ None) × Appends stderr_before stderr_after (notice_line name nothing_words (10 ∷ []))
IsDomainOf name left.Refused stderr_before stderr_after plan = (plan ≡ None) × Appends stderr_before stderr_after (notice_line name refused_words (10 ∷ []))

-- A script was carried out, and left this domain behind, or none. What is told of its refused lines is left open, where words are wanted.
pub record LeavesPlan (name script : List ℕ) (is_explained : Bool) (before after : Streams) (plan : Option PlanView) : Type 0 where
  pub left : Left
  pub leaves : Leaves script left
  pub mid : Option (List ℕ)
  pub quiet : IsQuiet is_explained before.tells mid
  pub domain : IsDomainOf name left mid after.tells plan
  pub reads : after.reads ≡ before.reads
  pub holds : after.holds ≡ before.holds

-- What the change of one domain to another does was written, and the exit status says whether something is lost; or they are not alike in size.
pub record WritesChange (format : Format) (old new : PlanView) (before after : Streams) (status : ℕ) : Type 0 where
  pub sizes : new.size ≡ old.size
  pub is_lost : Bool
  pub compared : Compares format old new before.holds after.holds is_lost
  pub ends : status ≡ status_of_found is_lost
  pub reads : after.reads ≡ before.reads
  pub tells : after.tells ≡ before.tells

unfoldable pub ComparesPlans : Format → PlanView → List ℕ → PlanView → Streams → Streams → ℕ → Type 0
ComparesPlans format old name new before after status = WritesChange format old new before after status
    ⊎ ((new.size ≢ old.size) × Tells (notice_line name unlike_words (10 ∷ [])) before after × (status ≡ 3))

-- `opens name` says what may come of opening a file of this name.
module _ (opens : List ℕ → Result (Option (List ℕ)) Error → Type 0) where
  -- A script was read and carried out; or it was not read, and leaves no domain behind.
  unfoldable pub LeftBy : Source → Bool → Streams → Streams → Option PlanView → Type 0
  LeftBy source is_explained before after plan =
      ((script : List ℕ) × (mid : Streams) × ReadsScript opens source script before mid
      × LeavesPlan (name_of source) script is_explained mid after plan)
      ⊎ (SkipsScript opens source before after × (plan ≡ None))

  -- The domain after a change was set up, and that before it compared with it; or it is not there.
  unfoldable pub ComparesNewer : Format → PlanView → Source → Bool → Streams → Streams → ℕ → Type 0
  ComparesNewer format old source is_explained before after status =
      ((new : PlanView) × (mid : Streams) × LeftBy source is_explained before mid (Some new)
      × ComparesPlans format old (name_of source) new mid after status)
      ⊎ (LeftBy source is_explained before after None × (status ≡ 3))

  -- The domain before a change was set up, then that after it, and the two were compared; or one of them is not there.
  unfoldable pub ComparesDomains : Format → Source → Source → Bool → Streams → Streams → ℕ → Type 0
  ComparesDomains format old new is_explained before after status =
      ((plan : PlanView) × (mid : Streams) × LeftBy old is_explained before mid (Some plan)
      × ComparesNewer format plan new is_explained mid after status)
      ⊎ (LeftBy old is_explained before after None × (status ≡ 3))

-- A fault ended it: what was written is a front of what a change does, of which nothing may have come. `held` is what the output held, `holds` what
-- it holds now.
unfoldable pub StopsDomains : Format → Option (List ℕ) → Option (List ℕ) → Type 0
StopsDomains format held holds = AppendsFront held holds []
    ⊎ ((old : PlanView) × (new : PlanView) × (found : ComparisonView) × IsComparison old new found × AppendsFront held holds (text_of format found))
