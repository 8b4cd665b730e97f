-- What the program does for `router --domain`, and its exit status. (This project's own choice.)
use Rattle.std.specs.Prelude.{◌≡◌, ◌⊎◌, ℕ, true, false, List, Option, Some, None, Result, MatchOption, string_bytes}
use Rattle.std.specs.Io.KnownBytes.{Appends}
use Rattle.std.specs.declared.io.Error.{Error}
use Rattle.command_line.specs.declared.router_words.RouterWords.{RouterWords}
use Rattle.domain_files.specs.FileView.{FileView}
use Rattle.domain_files.specs.Nodes.{IsAtNode}
use Rattle.domain_files.specs.PlanTexts.{digest_of}
use Rattle.domain_files.specs.declared.node.NodeFile.{NodeFile}
use Rattle.filter_reports.specs.Cuts.{IsCut}
use Rattle.filter_reports.specs.Faults.{stream_fault}
use Rattle.filter_reports.specs.declared.fault.ProgramFault.{ProgramFault}
use Rattle.filter_reports.specs.declared.fault.ProgramFault.TheVariants.{Stream}
use Rattle.history_saver.specs.Folders.{FolderView}
use Rattle.line_protocol.specs.declared.faults.StreamFault.{StreamFault}
use Rattle.program_console.specs.Ending.{fault_line}
use Rattle.program_console.specs.Streaming.{Streams}
use Rattle.program_console.specs.declared.ending.Program.TheVariants.{Ncroute}
use Rattle.line_protocol.specs.declared.faults.StreamFault.TheVariants.{Memory}
use Rattle.router_files.specs.declared.options.RouterOption.{RouterOption}
use Rattle.router_files.specs.declared.options.RouterOption.TheVariants as option
use Rattle.router_operator.specs.OperatorView.{Names}
use Rattle.router_options.specs.PlanView.{PlanView}
use Rattle.router_words.specs.Stated.{OriginView}
use Rattle.ncroute.specs.Checked.{CutsWords, ServesWords}
use Rattle.ncroute.specs.DomainLines.{domain_line}
use Rattle.ncroute.specs.DomainLoading.{CutsDomain, LoadsDomain}
use Rattle.ncroute.specs.DomainWords.{SaysDomain, said_beside, unfit_of}
use Rattle.ncroute.specs.Planning.{IsPlanOf, LacksPlan, is_memory}
use Rattle.ncroute.specs.Routing as routing
use Rattle.ncroute.specs.Routing.{CutsSave, LacksSave, MakesSave, setup_line}
use Rattle.ncroute.specs.declared.domain_loading.DomainRead.TheVariants as read
use Rattle.ncroute.specs.declared.domain_words.DomainFault.{DomainFault}
use Rattle.ncroute.specs.declared.domain_words.DomainFault.TheVariants.{Beside}
use Rattle.ncroute.specs.declared.domain_router.BesideFault.{BesideFault}
use Rattle.ncroute.specs.declared.domain_router.BesideFault.TheVariants.{Said, NoNode}
use Rattle.ncroute.specs.declared.planning.PlanFault.{PlanFault}
use Rattle.ncroute.specs.declared.planning.PlanFault.TheVariants.{Missing}
use Rattle.ncroute.specs.declared.routing.SetupFault.TheVariants.{Words}

-- `TellsLine stderr_before stderr_after line` says in all of this what standard error was told of the line with which a run ends: all of it, or a
-- front.
abbrev pub Telling : Type 1
Telling = Option (List ℕ) → Option (List ℕ) → List ℕ → Type 0

-- a fault of the program ended a run
abbrev pub EndsByProgram : Telling → ProgramFault → Option (List ℕ) → Option (List ℕ) → ℕ → Type 0
EndsByProgram TellsLine fault stderr_before stderr_after status = TellsLine stderr_before stderr_after (fault_line Ncroute fault) × (status ≡ 1)

-- words that are no plan did, or memory was refused
abbrev pub EndsByPlan : Telling → OriginView → PlanFault → Option (List ℕ) → Option (List ℕ) → ℕ → Type 0
EndsByPlan TellsLine origin why stderr_before stderr_after status =
    ((is_memory why ≡ true) × EndsByProgram TellsLine (Stream Memory) stderr_before stderr_after status)
    ⊎ ((is_memory why ≡ false) × TellsLine stderr_before stderr_after (setup_line origin (Words why)) × (status ≡ 2))

-- a run ended by a line, and nothing else was done
abbrev pub EndsBy : Telling → List ℕ → ℕ → Streams → Streams → ℕ → Type 0
EndsBy TellsLine line wanted before after status =
    TellsLine before.tells after.tells line × (after.reads ≡ before.reads) × (after.holds ≡ before.holds) × (status ≡ wanted)

-- by one of a fault of the program
abbrev pub EndsByFault : Telling → Streams → Streams → ℕ → Type 0
EndsByFault TellsLine before after status = (fault : ProgramFault) × EndsBy TellsLine (fault_line Ncroute fault) 1 before after status

-- the plan with the mark of the domain that a file sets up
abbrev pub marked : PlanView → FileView → RouterWords → PlanView
marked plan file words =
    record plan { domain = Some (record { digest = digest_of file.planning.plan; allows_other = words.allows_other }) }

-- `makes name` says what may come of making a folder of this name.
module _ (makes : List ℕ → Result (Option FolderView) Error → Type 0) where
  -- The folder of the history was made, if one is named; or it was not, which standard error was told; or a fault cut that.
  abbrev pub MakesFolder : RouterWords → Option (Option FolderView) → Streams → Streams → Type 0
  MakesFolder words kept before after = MakesSave makes words.save kept × (after.reads ≡ before.reads) × (after.holds ≡ before.holds)
      × (after.tells ≡ before.tells)

  abbrev pub LacksFolder : RouterWords → Streams → Streams → Type 0
  LacksFolder words before after = LacksSave makes words.save before.tells after.tells × (after.reads ≡ before.reads) × (after.holds ≡ before.holds)

  abbrev pub CutsFolder : StreamFault → RouterWords → Streams → Streams → Type 0
  CutsFolder fault words before after =
      CutsSave makes fault words.save before.tells after.tells × (after.reads ≡ before.reads) × (after.holds ≡ before.holds)

  -- That folder was made, and then the router of a plan ran so: `Ran kept before after`. Or a fault of the program ended it before.
  abbrev pub FolderRan : (Option (Option FolderView) → Streams → Streams → Type 0) → Telling → RouterWords → Streams → Streams → ℕ → Type 0
  FolderRan Ran TellsLine words before after status =
      ((kept : Option (Option FolderView)) × (mid : Streams) × MakesFolder words kept before mid × Ran kept mid after)
      ⊎ ((fault : ProgramFault) × (mid : Streams) × CutsFolder (stream_fault fault) words before mid
      × EndsBy TellsLine (fault_line Ncroute fault) 1 mid after status)

  -- The router of a plan was run with the filters of the file. `keeps name` says what a folder of this name held when it was left.
  unfoldable pub RunsMarked : (List ℕ → Option FolderView → Type 0) → Names → RouterWords → PlanView → Streams → Streams → ℕ → Type 0
  RunsMarked keeps names words plan before after status =
      FolderRan (λ kept mid end. routing.RunsPlan keeps words.save plan names kept mid end status) Appends words before after status
      ⊎ (LacksFolder words before after × (status ≡ 1))

  -- ... and a fault cut the line with which it ended.
  unfoldable pub CutsMarked : StreamFault → Names → RouterWords → PlanView → Streams → Streams → ℕ → Type 0
  CutsMarked cut names words plan before after status =
      FolderRan (λ kept mid end. routing.CutsPlan cut plan names mid end status) (IsCut cut) words before after status

  -- It was, with the mark of the file; or only looked at; or a fault of the program ended it.
  unfoldable pub RunsPlan : (List ℕ → Option FolderView → Type 0) → FileView → RouterWords → PlanView → Streams → Streams → ℕ → Type 0
  RunsPlan keeps file words plan before after status = ((words.checks ≡ true) × (after ≡ before) × (status ≡ 0))
      ⊎ (((words.checks ≡ false) × RunsMarked keeps file.planning.filters words (marked plan file words) before after status)
      ⊎ EndsByFault Appends before after status)

  unfoldable pub CutsPlan : StreamFault → FileView → RouterWords → PlanView → Streams → Streams → ℕ → Type 0
  CutsPlan cut file words plan before after status =
      ((words.checks ≡ false) × CutsMarked cut file.planning.filters words (marked plan file words) before after status)
      ⊎ EndsByFault (IsCut cut) before after status

-- ---- what is done by a plan, and what the words and the file say together to a node

-- `Does words plan before after status` says in all of this what was done by a plan whose links are those of the node.
module _ (Does : RouterWords → PlanView → Streams → Streams → ℕ → Type 0) (TellsLine : Telling) (node : Option NodeFile) (words : RouterWords)
    (origin : OriginView) where
  -- its links lead to all neighbours of the node and to none else; or one is too many or missing, which was told
  unfoldable pub DoesPlan : PlanView → Streams → Streams → ℕ → Type 0
  DoesPlan plan before after status = ((unfit_of plan.links node ≡ None) × Does words plan before after status)
      ⊎ ((why : DomainFault) × (unfit_of plan.links node ≡ Some why) × EndsBy TellsLine (domain_line origin why) 2 before after status)

  -- all that is said is a plan; or it is none, which was told
  unfoldable pub DoesSaid : Streams → Streams → ℕ → Type 0
  DoesSaid before after status = ((plan : PlanView) × IsPlanOf words plan × DoesPlan plan before after status)
      ⊎ ((why : PlanFault) × LacksPlan words why × EndsByPlan TellsLine origin why before.tells after.tells status
      × (after.reads ≡ before.reads) × (after.holds ≡ before.holds))

-- The file and the words say this together to the node, and that was done; or a fault of the program ended it.
unfoldable pub DoesNode : (RouterWords → PlanView → Streams → Streams → ℕ → Type 0) → Telling → FileView → ℕ → RouterWords → OriginView
    → Streams → Streams → ℕ → Type 0
DoesNode Does TellsLine file me words origin before after status = ((node : Option NodeFile) × (all : RouterWords) × IsAtNode file me node
    × SaysDomain words file node all × DoesSaid Does TellsLine node all origin before after status)
    ⊎ EndsByFault TellsLine before after status

module _ (makes : List ℕ → Result (Option FolderView) Error → Type 0) where
  abbrev pub ServesPlan : (List ℕ → Option FolderView → Type 0) → FileView → Option NodeFile → RouterWords → PlanView → OriginView
      → Streams → Streams → ℕ → Type 0
  ServesPlan keeps file node words plan origin before after status =
      DoesPlan (RunsPlan makes keeps file) Appends node words origin plan before after status

  abbrev pub CutsServedPlan : StreamFault → FileView → Option NodeFile → RouterWords → PlanView → OriginView → Streams → Streams → ℕ → Type 0
  CutsServedPlan cut file node words plan origin before after status =
      DoesPlan (CutsPlan makes cut file) (IsCut cut) node words origin plan before after status

  abbrev pub ServesSaid : (List ℕ → Option FolderView → Type 0) → FileView → Option NodeFile → RouterWords → OriginView
      → Streams → Streams → ℕ → Type 0
  ServesSaid keeps file node words origin before after status =
      DoesSaid (RunsPlan makes keeps file) Appends node words origin before after status

  abbrev pub CutsSaid : StreamFault → FileView → Option NodeFile → RouterWords → OriginView → Streams → Streams → ℕ → Type 0
  CutsSaid cut file node words origin before after status =
      DoesSaid (CutsPlan makes cut file) (IsCut cut) node words origin before after status

  abbrev pub ServesNode : (List ℕ → Option FolderView → Type 0) → FileView → ℕ → RouterWords → OriginView → Streams → Streams → ℕ → Type 0
  ServesNode keeps file me words origin before after status =
      DoesNode (RunsPlan makes keeps file) Appends file me words origin before after status

  abbrev pub CutsNode : StreamFault → FileView → ℕ → RouterWords → OriginView → Streams → Streams → ℕ → Type 0
  CutsNode cut file me words origin before after status =
      DoesNode (CutsPlan makes cut file) (IsCut cut) file me words origin before after status

-- ---- the file of a domain, and what may be said beside it

-- something is said beside it that it says; or no word says the node
abbrev pub IsBesideFault : RouterWords → BesideFault → Type 0
IsBesideFault words (Said option) = said_beside words ≡ Some option
IsBesideFault words NoNode = (said_beside words ≡ None) × (words.node ≡ None)

abbrev pub beside_line : OriginView → BesideFault → List ℕ
beside_line origin (Said option) = domain_line origin (Beside option)
beside_line origin NoNode = setup_line origin (Words (Missing option.Node))

-- Nothing that the file says is said beside it, and the node is. Or one of these is not so, which standard error was told.
unfoldable pub DoesBeside : (ℕ → Streams → Streams → ℕ → Type 0) → Telling → RouterWords → OriginView → Streams → Streams → ℕ → Type 0
DoesBeside Does TellsLine words origin before after status =
    ((me : ℕ) × (said_beside words ≡ None) × (words.node ≡ Some me) × Does me before after status)
    ⊎ ((why : BesideFault) × IsBesideFault words why × EndsBy TellsLine (beside_line origin why) 2 before after status)

-- `opens name` says what may come of opening a file of this name.
module _ (opens : List ℕ → Result (Option (List ℕ)) Error → Type 0) where
  -- The file was read and sets a domain up, and its node was served; or a fault of the program ended it.
  abbrev pub DoesFile : (FileView → Streams → Streams → ℕ → Type 0) → Telling → List ℕ → Streams → Streams → ℕ → Type 0
  DoesFile Does TellsLine name before after status = ((file : FileView) × (mid : Streams) × LoadsDomain opens name before mid (read.File file)
      × Does file mid after status)
      ⊎ ((fault : ProgramFault) × (mid : Streams) × CutsDomain opens (stream_fault fault) name before mid
      × EndsBy TellsLine (fault_line Ncroute fault) 1 mid after status)

  -- ... or it is not there or wrong, which was told.
  abbrev pub LacksFile : List ℕ → Streams → Streams → ℕ → Type 0
  LacksFile name before after status = (LoadsDomain opens name before after read.Unread × (status ≡ 1))
      ⊎ (LoadsDomain opens name before after read.Wrong × (status ≡ 2))

module _ (opens : List ℕ → Result (Option (List ℕ)) Error → Type 0) (makes : List ℕ → Result (Option FolderView) Error → Type 0) where
  unfoldable pub ServesFile : (List ℕ → Option FolderView → Type 0) → List ℕ → ℕ → RouterWords → OriginView → Streams → Streams → ℕ → Type 0
  ServesFile keeps name me words origin before after status =
      DoesFile opens (λ file. ServesNode makes keeps file me words origin) Appends name before after status
      ⊎ LacksFile opens name before after status

  unfoldable pub CutsFile : StreamFault → List ℕ → ℕ → RouterWords → OriginView → Streams → Streams → ℕ → Type 0
  CutsFile cut name me words origin before after status =
      DoesFile opens (λ file. CutsNode makes cut file me words origin) (IsCut cut) name before after status

  unfoldable pub ServesBeside : (List ℕ → Option FolderView → Type 0) → List ℕ → RouterWords → OriginView → Streams → Streams → ℕ → Type 0
  ServesBeside keeps name words origin before after status =
      DoesBeside (λ me. ServesFile keeps name me words origin) Appends words origin before after status

  unfoldable pub CutsBeside : StreamFault → List ℕ → RouterWords → OriginView → Streams → Streams → ℕ → Type 0
  CutsBeside cut name words origin before after status =
      DoesBeside (λ me. CutsFile cut name me words origin) (IsCut cut) words origin before after status

  -- The words name the file of a domain, or none.
  abbrev pub ServesInDomain : (List ℕ → Option FolderView → Type 0) → OriginView → RouterWords → Streams → Streams → ℕ → Type 0
  ServesInDomain keeps origin words before after status = MatchOption words.domain
      (ServesWords opens makes keeps origin words before after status)
      (λ name. ServesBeside keeps (string_bytes name) words origin before after status)

  abbrev pub CutsInDomain : (List ℕ → Option FolderView → Type 0) → StreamFault → OriginView → RouterWords → Streams → Streams → ℕ → Type 0
  CutsInDomain keeps cut origin words before after status = MatchOption words.domain
      (CutsWords opens makes keeps cut origin words before after status)
      (λ name. CutsBeside cut (string_bytes name) words origin before after status)
