-- What the script of a domain answers to each of its lines, and what becomes of it. (This project's own choice.)
use Rattle.std.specs.Prelude.{◌≡◌, ◌⊎◌, ℕ, ◌≤◌, ◌==◌, nat_lt, Bool, true, false, not, ◌&&◌, MatchBool, List, [], Option, Some, None, Ok, Err, codes}
use Rattle.std.specs.Option.{option_map}
use Rattle.filter_code.specs.CodeView.{CodeView}
use Rattle.filter_source.specs.Sources.{IsRefusedText}
use Rattle.filter_source.specs.declared.refusal.Refusal.{Refusal}
use Rattle.filter_verifier.specs.VerifiedView.{VerifiedView}
use Rattle.line_protocol.specs.Answers.{Answer}
use Rattle.line_protocol.specs.declared.answers.LineReply.TheVariants.{Answered}
use Rattle.netchange_core.specs.Openings.{default_prefixes}
use Rattle.operator_cmds.specs.Faults.{fault_code}
use Rattle.operator_cmds.specs.Replies.{answered, refused}
use Rattle.operator_cmds.specs.Script.{AnswersSource, GivesFile, GivesText, IsRefusedFile}
use Rattle.operator_cmds.specs.declared.event.Direction.{Direction}
use Rattle.operator_cmds.specs.declared.event.Direction.TheVariants as direction
use Rattle.domain_reports.specs.Reports.{domain_line}
use Rattle.domain_reports.specs.Views.{DomainView}
use Rattle.domain_routes.specs.Edits.{exporting, importing, linking, unlinked, with_prefix}
use Rattle.domain_routes.specs.PlanView.{PlanView, is_linked}
use Rattle.domain_routes.specs.Routes.{AreRoutes}
use Rattle.domain_routes.specs.Still.{BetweenView, after_anew, after_filter, after_link, unchanged}
use Rattle.domain_routes.specs.Topology.{topology}
use Rattle.domain_routes.specs.declared.best.Best.{Best}
use Rattle.domain_cmds.specs.CommandView.{CommandView, Domain, Prefix, Load, Code, Link, Use, Anew, Mark, Json, Ask}
use Rattle.domain_cmds.specs.Commands.{Read, command_in}
use Rattle.domain_cmds.specs.Failures.{AreFailures, all_links, all_nodes}
use Rattle.domain_cmds.specs.FailureTexts.{failures_text}
use Rattle.domain_cmds.specs.Faults.{state_code}
use Rattle.domain_cmds.specs.Origins.{AreOriginsOf, OriginsView}
use Rattle.domain_cmds.specs.Rests.{AreAllRoutes, AreRestsBetween, RestsView}
use Rattle.domain_cmds.specs.Said.{IsSaid}
use Rattle.domain_cmds.specs.State.{PlanningView, filter_named}
use Rattle.domain_cmds.specs.Texts.{IsPathText, changes_text, draw_text, felt_text, reach_text, route_in, route_text, settled_text, table_text}
use Rattle.domain_cmds.specs.declared.command.Question.{Question}
use Rattle.domain_cmds.specs.declared.command.Question.TheVariants as question
use Rattle.domain_cmds.specs.declared.failure.Failing.{Failing}
use Rattle.domain_cmds.specs.declared.failure.FailureEffect.{FailureEffect}
use Rattle.domain_cmds.specs.declared.fault.DomainStateFault.{DomainStateFault}
use Rattle.domain_cmds.specs.declared.fault.DomainStateFault.TheVariants as fault

-- a domain that was just set up
abbrev pub new_planning : ℕ → PlanningView
new_planning size = record {
  plan = unlinked (default_prefixes size);
  filters = [];
  begun = false;
  marked = None;
  since = None;
}

-- prefixes stay from now on
abbrev pub begin : PlanningView → PlanningView
begin p = record p { begun = true }

-- another plan, with those between which it stayed since the last `mark`, and prefixes stay
abbrev pub planned : Option BetweenView → PlanView → PlanningView → PlanningView
planned since plan p = record p { plan = plan; begun = true; since = since }

-- ---- what may be answered, and what becomes of the domain

abbrev pub Refuses : List ℕ → ℕ → PlanningView → Answer → PlanningView → Type 0
Refuses code at later answer after = (answer ≡ refused code at) × (after ≡ later)

abbrev pub Tells : List ℕ → PlanningView → Answer → PlanningView → Type 0
Tells words later answer after = (answer ≡ answered words) × (after ≡ later)

abbrev pub Confirms : PlanningView → Answer → PlanningView → Type 0
Confirms later answer after = Tells (codes "ok") later answer after

-- ---- `prefix`

abbrev pub AnswersPrefix : PlanningView → ℕ → ℕ → List Bool → Answer → PlanningView → Type 0
AnswersPrefix p number node bits answer after = MatchBool p.begun
    (Refuses (codes "O5") number p answer after)
    (MatchBool (nat_lt node p.plan.size)
    (Confirms (record p { plan = with_prefix node bits p.plan }) answer after)
    (Refuses (codes "O2") number p answer after))

-- ---- `load` and `code`

-- a source is answered as by the script of a router, and nothing changes but the filters of names
abbrev pub AnswersLoad : (CodeView → Type 0) → (Refusal → Type 0) → PlanningView → ℕ → List ℕ → Answer → PlanningView → Type 0
AnswersLoad Gives Lacks p number name answer after =
    AnswersSource Gives Lacks p.plan.size number name (filter_named p.filters) answer (filter_named after.filters)
    × (after ≡ record p { filters = after.filters })

-- ---- links and filters

-- two nodes of the domain, and not the same
abbrev pub are_a_pair : ℕ → ℕ → ℕ → Bool
are_a_pair size u w = nat_lt u size && nat_lt w size && not (u == w)

-- why two nodes that have a link, or none, are not to have one, or none: so it is already
abbrev pub link_fault : Bool → Bool → Option DomainStateFault
link_fault true true = Some fault.Linked
link_fault false false = Some fault.Apart
link_fault true false = None
link_fault false true = None

-- another plan, unless a fault refuses it
abbrev pub PlansUnless : Option DomainStateFault → Option BetweenView → PlanView → PlanningView → ℕ → Answer → PlanningView → Type 0
PlansUnless None since plan p number answer after = Confirms (planned since plan p) answer after
PlansUnless (Some why) since plan p number answer after = Refuses (state_code why) number (begin p) answer after

-- `link` and `cut`: whether there is a link between two nodes
abbrev pub AnswersLink : Bool → PlanningView → ℕ → ℕ → ℕ → Answer → PlanningView → Type 0
AnswersLink linked p number u w answer after = MatchBool (are_a_pair p.plan.size u w)
    (PlansUnless (link_fault (is_linked p.plan u w) linked) (option_map (after_link u w) p.since) (linking linked u w p.plan) p number answer after)
    (Refuses (codes "D1") number (begin p) answer after)

-- a plan where what the first node receives from the second, or tells it, passes a filter
abbrev pub filtering : Direction → VerifiedView → ℕ → ℕ → PlanView → PlanView
filtering direction.Import filter u w plan = importing filter u w plan
filtering direction.Export filter u w plan = exporting filter u w plan

-- the plans between which the plan stayed then
abbrev pub filtered_between : Direction → ℕ → ℕ → BetweenView → BetweenView
filtered_between direction.Import u w between = after_filter u w between
filtered_between direction.Export u w between = after_filter w u between

-- a command with the filter of a name: an unknown name counts first, and begins nothing
abbrev pub AnswersUse : Option VerifiedView → Direction → PlanningView → ℕ → ℕ → ℕ → Answer → PlanningView → Type 0
AnswersUse None way p number u w answer after = Refuses (codes "O6") number p answer after
AnswersUse (Some filter) way p number u w answer after = MatchBool (are_a_pair p.plan.size u w)
    (Confirms (planned (option_map (filtered_between way u w) p.since) (filtering way filter u w p.plan) p) answer after)
    (Refuses (codes "D1") number (begin p) answer after)

-- `anew`: all links of a node are cut and made again, so that it and its neighbours forget what they heard over them; the plan stays as it is
abbrev pub AnswersAnew : PlanningView → ℕ → ℕ → Answer → PlanningView → Type 0
AnswersAnew p number u answer after = MatchBool (nat_lt u p.plan.size)
    (Confirms (planned (option_map (after_anew p.plan u) p.since) p.plan p) answer after)
    (Refuses (codes "D1") number (begin p) answer after)

-- ---- questions about rest

-- a question changes nothing but that prefixes stay
abbrev pub Asks : (Answer → Type 0) → PlanningView → Answer → PlanningView → Type 0
Asks IsAnswer p answer after = IsAnswer answer × (after ≡ begin p)

-- a question about two nodes, of which the second is the destination: what is told of the routes to it at rest
abbrev pub IsAnswerOfRoutes : PlanView → ℕ → ℕ → ℕ → (List Best → Answer → Type 0) → Answer → Type 0
IsAnswerOfRoutes plan number u v IsAnswer answer = MatchBool (nat_lt u plan.size && nat_lt v plan.size)
    ((routes : List Best) × AreRoutes (topology plan v) v routes × IsAnswer routes answer)
    (answer ≡ refused (codes "D1") number)

abbrev pub TellsRoute : ℕ → ℕ → List Best → Answer → Type 0
TellsRoute size u routes answer = answer ≡ answered (route_text (route_in size routes u))

abbrev pub TellsPath : ℕ → ℕ → List Best → Answer → Type 0
TellsPath size u routes answer = (words : List ℕ) × IsPathText size routes u words × (answer ≡ answered words)

abbrev pub IsRouteAnswer : PlanView → ℕ → ℕ → ℕ → Answer → Type 0
IsRouteAnswer plan number u v answer = IsAnswerOfRoutes plan number u v (TellsRoute plan.size u) answer

abbrev pub IsPathAnswer : PlanView → ℕ → ℕ → ℕ → Answer → Type 0
IsPathAnswer plan number u v answer = IsAnswerOfRoutes plan number u v (TellsPath plan.size u) answer

abbrev pub IsTableAnswer : PlanView → ℕ → ℕ → Answer → Type 0
IsTableAnswer plan number u answer = MatchBool (nat_lt u plan.size)
    ((all : List (List Best)) × AreAllRoutes plan all × (answer ≡ answered (table_text plan.size all u)))
    (answer ≡ refused (codes "D1") number)

abbrev pub IsDrawingAnswer : PlanView → ℕ → ℕ → Answer → Type 0
IsDrawingAnswer plan number v answer = MatchBool (nat_lt v plan.size)
    ((routes : List Best) × AreRoutes (topology plan v) v routes × (answer ≡ answered (draw_text plan routes)))
    (answer ≡ refused (codes "D1") number)

abbrev pub IsReachAnswer : PlanView → Answer → Type 0
IsReachAnswer plan answer = (all : List (List Best)) × AreAllRoutes plan all × (answer ≡ answered (reach_text plan.size all))

-- ---- `mark` and `changes`

-- all routes are noted, and that nothing was done to the plan yet
abbrev pub marking : List (List Best) → PlanningView → PlanningView
marking all p = record p { begun = true; marked = Some all; since = Some (unchanged p.plan) }

abbrev pub AnswersMark : PlanningView → Answer → PlanningView → Type 0
AnswersMark p answer after =
    (all : List (List Best)) × AreAllRoutes p.plan all × Confirms (marking all p) answer after

-- all routes at the last `mark`; before any, those of the domain without links
abbrev pub AreMarks : PlanView → Option (List (List Best)) → List (List Best) → Type 0
AreMarks plan (Some marked) marks = marks ≡ marked
AreMarks plan None marks = AreAllRoutes (unlinked plan.prefixes) marks

abbrev pub IsChangesAnswer : PlanView → Option (List (List Best)) → Option BetweenView → Answer → Type 0
IsChangesAnswer plan marked since answer =
    (marks : List (List Best)) × AreMarks plan marked marks × (all : List (List Best)) × AreAllRoutes plan all
    × (rests : Option RestsView) × AreRestsBetween since rests × (answer ≡ answered (changes_text plan.size rests marks all))

-- a picture of the routes to a node, and of which nodes may feel what was done since the last `mark`
abbrev pub IsFeltAnswer : PlanView → Option BetweenView → ℕ → ℕ → Answer → Type 0
IsFeltAnswer plan since number v answer = MatchBool (nat_lt v plan.size)
    ((all : List (List Best)) × AreAllRoutes plan all × (rests : Option RestsView) × AreRestsBetween since rests
    × (routes : List Best) × AreRoutes (topology plan v) v routes × (answer ≡ answered (felt_text plan rests all v routes)))
    (answer ≡ refused (codes "D1") number)

-- ---- `failures`

-- what the failure of each of these changes by itself, where all others stay as they are
abbrev pub IsFailuresAnswer : PlanView → List Failing → Answer → Type 0
IsFailuresAnswer plan whats answer =
    (before : List (List Best)) × AreAllRoutes plan before × (all : List FailureEffect) × AreFailures plan before whats all
    × (answer ≡ answered (failures_text all))

-- ---- `settle`

-- Each round has a message; how many of both it takes is the routers' affair: only tested. They may have no session left.
abbrev pub IsSettledAnswer : ℕ → Answer → Type 0
IsSettledAnswer number answer =
    ((rounds : ℕ) × (messages : ℕ) × (rounds ≤ messages) × (answer ≡ answered (settled_text rounds messages)))
    ⊎ (answer ≡ refused (codes "D4") number)

-- what is told of a plan, of all routes at the last `mark`, and of the plans between which it stayed since
abbrev pub AnswersQuestion : Question → PlanView → Option (List (List Best)) → Option BetweenView → ℕ → Answer → Type 0
AnswersQuestion (question.Route u v) plan marked since number answer = IsRouteAnswer plan number u v answer
AnswersQuestion (question.Path u v) plan marked since number answer = IsPathAnswer plan number u v answer
AnswersQuestion (question.Table u) plan marked since number answer = IsTableAnswer plan number u answer
AnswersQuestion (question.Draw v) plan marked since number answer = IsDrawingAnswer plan number v answer
AnswersQuestion (question.DrawChanges v) plan marked since number answer = IsFeltAnswer plan since number v answer
AnswersQuestion question.Reach plan marked since number answer = IsReachAnswer plan answer
AnswersQuestion question.Changes plan marked since number answer = IsChangesAnswer plan marked since answer
AnswersQuestion question.Failures plan marked since number answer = IsFailuresAnswer plan (all_links plan) answer
AnswersQuestion question.NodeFailures plan marked since number answer = IsFailuresAnswer plan (all_nodes plan) answer
AnswersQuestion question.Settle plan marked since number answer = IsSettledAnswer number answer

-- ---- `json`

-- The whole domain is told on a line, with filters whose texts give the code that the plan has where they are said to be used. Which names and
-- lines they had is only tested.
abbrev pub IsToldDomain : PlanView → Answer → Type 0
IsToldDomain plan answer = (origins : OriginsView) × AreOriginsOf plan origins × (domain : DomainView) × IsSaid plan origins domain
    × (answer ≡ record { text = domain_line domain; reply = Answered })

-- ---- a line

abbrev pub AnswersPlanned : PlanningView → ℕ → CommandView → Answer → PlanningView → Type 0
AnswersPlanned p number (Domain size) answer after = Refuses (codes "O5") number p answer after
AnswersPlanned p number (Prefix node bits) answer after = AnswersPrefix p number node bits answer after
AnswersPlanned p number (Load name text) answer after = AnswersLoad (GivesText text) (IsRefusedText text) p number name answer after
AnswersPlanned p number (Code name bytes) answer after = AnswersLoad (GivesFile bytes) (IsRefusedFile bytes) p number name answer after
AnswersPlanned p number (Link linked u w) answer after = AnswersLink linked p number u w answer after
AnswersPlanned p number (Use way u w name) answer after =
    AnswersUse (filter_named p.filters name) way p number u w answer after
AnswersPlanned p number (Anew u) answer after = AnswersAnew p number u answer after
AnswersPlanned p number Mark answer after = AnswersMark p answer after
AnswersPlanned p number Json answer after = Asks (IsToldDomain p.plan) p answer after
AnswersPlanned p number (Ask asked) answer after = Asks (AnswersQuestion asked p.plan p.marked p.since number) p answer after

-- before there is a domain, only `domain` is carried out
abbrev pub AnswersFirst : ℕ → CommandView → Answer → Option PlanningView → Type 0
AnswersFirst number (Domain size) answer after = (answer ≡ answered (codes "ok")) × (after ≡ Some (new_planning size))
AnswersFirst number command answer after = (answer ≡ refused (codes "O4") number) × (after ≡ None)

abbrev pub AnswersCommand : Option PlanningView → ℕ → CommandView → Answer → Option PlanningView → Type 0
AnswersCommand None number command answer after = AnswersFirst number command answer after
AnswersCommand (Some p) number command answer after =
    (later : PlanningView) × AnswersPlanned p number command answer later × (after ≡ Some later)

abbrev pub AnswersRead : Option PlanningView → ℕ → Read → Answer → Option PlanningView → Type 0
AnswersRead before number (Ok command) answer after = AnswersCommand before number command answer after
AnswersRead before number (Err why) answer after = (answer ≡ refused (fault_code why) number) × (after ≡ before)

-- the script may give this answer to the line of this number, and is then the later script
abbrev pub AnswersLine : Option PlanningView → ℕ → List ℕ → Answer → Option PlanningView → Type 0
AnswersLine before number line answer after = AnswersRead before number (command_in line) answer after
