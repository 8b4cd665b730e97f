-- The routes at the last `mark` are those of the plan as it was, whatever lines a script has.
use Rattle.std.proofs.Common.{◌≡◌, ◌≢◌, ℕ, ◌<◌, nat_lt, Bool, true, false, List, Option, Some, None, Ok, Err, IfSome}
use Rattle.std.proofs.Common.{length-set, refl, subst, sym, ◌∙◌, arith}
use Rattle.std.specs.Option.{option_map}
use Rattle.std.specs.Prelude.{MatchBool}
use Rattle.std.proofs.lemmas.Bool.Decides.{nat_tests}
use Rattle.filter_code.specs.CodeView.{CodeView}
use Rattle.filter_source.specs.Sources.{IsRefusedText}
use Rattle.filter_source.specs.declared.refusal.Refusal.{Refusal}
use Rattle.filter_verifier.specs.VerifiedView.{VerifiedView}
use Rattle.line_protocol.specs.Answers.{Answer}
use Rattle.netchange_core.specs.Openings.{default_prefixes}
use Rattle.operator_cmds.specs.Script.{GivesFile, GivesText, IsRefusedFile}
use Rattle.operator_cmds.specs.declared.event.Direction.{Direction}
use Rattle.operator_cmds.specs.declared.event.Direction.TheVariants as direction
use Rattle.domain_routes.specs.Edits.{linking, with_prefix}
use Rattle.domain_routes.specs.PlanView.{IsPlan, PlanView, is_linked}
use Rattle.domain_routes.specs.Still.{BetweenView, StaysBetween, after_anew, after_link}
use Rattle.domain_routes.specs.declared.best.Best.{Best}
use Rattle.domain_routes.proofs.Filtering.{exporting_plan, importing_plan}
use Rattle.domain_routes.proofs.Linking.{IsLink, linking_plan}
use Rattle.domain_routes.proofs.Still.{anew_stays, begins_between, export_stays, import_stays, link_stays}
use Rattle.domain_routes.proofs.Unlinked.{unlinked_plan}
use Rattle.domain_cmds.specs.CommandView.{CommandView, Domain, Prefix, Load, Code, Link, Use, Anew, Mark, Json, Ask}
use Rattle.domain_cmds.specs.Commands.{Read, command_in}
use Rattle.domain_cmds.specs.Marks.{AreNoted, IsMarked}
use Rattle.domain_cmds.specs.Rests.{AreAllRoutes}
use Rattle.domain_cmds.specs.Script
use Rattle.domain_cmds.specs.Script.{AnswersLine, new_planning}
use Rattle.domain_cmds.specs.Sizes.{is_size}
use Rattle.domain_cmds.specs.State.{PlanningView, filter_named}
use Rattle.domain_cmds.specs.declared.fault.DomainStateFault.{DomainStateFault}
use Rattle.domain_cmds.proofs.Filling.{answered_fit}
use Rattle.domain_cmds.proofs.Setting.{fits_size}

never : {A : Type 0} → true ≡ false → A
never h = absurd (let no : true ≡ false = h in cc)

-- one of two, by a test
pick : {R : Type 0} (b : Bool) (P Q : Type 0) → (b ≡ true → P → R) → (b ≡ false → Q → R) → MatchBool b P Q → R
pick true P Q f g h = f refl h
pick false P Q f g h = g refl h

is_short : (u size : ℕ) → nat_lt u size ≡ true → u < size
is_short u size h = grind (arith, nat_tests)

-- two nodes that could be neighbours
module _ (size u w : ℕ) (pair : Script.are_a_pair size u w ≡ true) where
  from_is : u < size
  from_is = grind (arith, nat_tests)

  to_is : w < size
  to_is = grind (arith, nat_tests)

  apart_is : u ≢ w
  apart_is same = grind (arith, nat_tests)

-- what is noted of a plan, once something was done to it
noted : (marked : Option (List (List Best))) (since : Option BetweenView) (change : BetweenView → BetweenView) (plan later : PlanView)
    → ((b : BetweenView) (before : PlanView) → StaysBetween b before plan → StaysBetween (change b) before later)
    → AreNoted marked since plan → AreNoted marked (option_map change since) later
noted None None change plan later f h = tt
noted None (Some b) change plan later f h = h
noted (Some all) None change plan later f h = h
noted (Some all) (Some b) change plan later f h = record { before = h.before; routes = h.routes; stays = f b h.before h.stays }

-- where nothing is noted, nothing is said of the plan
unnoted : (marked : Option (List (List Best))) (since : Option BetweenView) (plan later : PlanView) → marked ≡ None → AreNoted marked since plan
    → AreNoted marked since later
unnoted None None plan later none h = tt
unnoted None (Some b) plan later none h = h
unnoted (Some all) since plan later none h = absurd (let no : Some all ≡ None = none in cc)

prefix_plan : (p : PlanView) (v : ℕ) (bits : List Bool) → IsPlan p → IsPlan (with_prefix v bits p)
prefix_plan p v bits plan = record {
  size = plan.size;
  one_a_node = length-set p.prefixes v bits ∙ plan.one_a_node;
  places = record { rows = plan.places.rows; places = plan.places.places };
  apart = plan.apart;
  both_ways = plan.both_ways;
  imports = plan.imports;
  exports = plan.exports;
}

module _ (p : PlanningView) (m : IsMarked p) where
  begun : IsMarked (Script.begin p)
  begun = record { plan = m.plan; filters = m.filters; unbegun = λ h. never h; marks = m.marks }

  prefixed : (v : ℕ) (bits : List Bool) → p.begun ≡ false → IsMarked (record p { plan = with_prefix v bits p.plan })
  prefixed v bits waits = record {
    plan = prefix_plan p.plan v bits m.plan;
    filters = m.filters;
    unbegun = m.unbegun;
    marks = unnoted p.marked p.since p.plan (with_prefix v bits p.plan) (m.unbegun waits) m.marks;
  }

  -- another plan, or the same, of the same size
  changed : (change : BetweenView → BetweenView) (later : PlanView) → IsPlan later → later.size ≡ p.plan.size
      → ((b : BetweenView) (before : PlanView) → StaysBetween b before p.plan → StaysBetween (change b) before later)
      → IsMarked (Script.planned (option_map change p.since) later p)
  changed change later is same stays = record {
    plan = is;
    filters = subst (λ (n : ℕ). (name : List ℕ) → IfSome (filter_named p.filters name) (λ f. f.size ≡ n)) (sym same) m.filters;
    unbegun = λ h. never h;
    marks = noted p.marked p.since change p.plan later stays m.marks;
  }

  linked : (wanted : Bool) (u w : ℕ) → IsLink p.plan u w
      → IsMarked (Script.planned (option_map (after_link u w) p.since) (linking wanted u w p.plan) p)
  linked wanted u w l = changed (after_link u w) (linking wanted u w p.plan) (linking_plan p.plan u w wanted l) refl
      (λ b before s. link_stays b before p.plan s u w l.from l.to l.apart wanted l.plan)

  anew : (u : ℕ) → u < p.plan.size → IsMarked (Script.planned (option_map (after_anew p.plan u) p.since) p.plan p)
  anew u from = changed (after_anew p.plan u) p.plan m.plan refl (λ b before s. anew_stays before p.plan m.plan u from b s)

  marked : (all : List (List Best)) → AreAllRoutes p.plan all → IsMarked (Script.marking all p)
  marked all routes = record {
    plan = m.plan;
    filters = m.filters;
    unbegun = λ h. never h;
    marks = record { before = p.plan; routes = routes; stays = begins_between p.plan m.plan };
  }

  loaded : (Gives : CodeView → Type 0) (Lacks : Refusal → Type 0) (number : ℕ) (name : List ℕ) (answer : Answer) (after : PlanningView)
      → Script.AnswersLoad Gives Lacks p number name answer after → IsMarked after
  loaded Gives Lacks number name answer after h =
      subst IsMarked (sym h.1) (record {
        plan = m.plan;
        filters = answered_fit Gives Lacks p.plan.size number name p.filters after.filters m.filters answer h.0;
        unbegun = m.unbegun;
        marks = m.marks;
      })

  fitting : (way : Direction) (f : VerifiedView) (u w : ℕ) → u < p.plan.size → w < p.plan.size → u ≢ w → f.size ≡ p.plan.size
      → IsMarked (Script.planned (option_map (Script.filtered_between way u w) p.since) (Script.filtering way f u w p.plan) p)
  fitting direction.Import f u w from to apart fits =
      changed (Script.filtered_between direction.Import u w) (Script.filtering direction.Import f u w p.plan)
      (importing_plan p.plan f u w m.plan from to fits) refl
      (λ b before s. import_stays b before p.plan s u w from to apart f m.plan)
  fitting direction.Export f u w from to apart fits =
      changed (Script.filtered_between direction.Export u w) (Script.filtering direction.Export f u w p.plan)
      (exporting_plan p.plan f u w m.plan from to fits) refl
      (λ b before s. export_stays b before p.plan s w u to from (λ same. apart (sym same)) f m.plan)

  used : (found : Option VerifiedView) (way : Direction) (number u w : ℕ) (answer : Answer) (after : PlanningView)
      → IfSome found (λ f. f.size ≡ p.plan.size) → Script.AnswersUse found way p number u w answer after → IsMarked after
  used None way number u w answer after fits h = subst IsMarked (sym h.1) m
  used (Some f) way number u w answer after fits h = pick (Script.are_a_pair p.plan.size u w) _ _
      (λ pair q. subst IsMarked (sym q.1)
      (fitting way f u w (from_is p.plan.size u w pair) (to_is p.plan.size u w pair) (apart_is p.plan.size u w pair) fits))
      (λ _ q. subst IsMarked (sym q.1) begun) h

  unless : (why : Option DomainStateFault) (wanted : Bool) (number u w : ℕ) (answer : Answer) (after : PlanningView) → IsLink p.plan u w
      → Script.PlansUnless why (option_map (after_link u w) p.since) (linking wanted u w p.plan) p number answer after → IsMarked after
  unless None wanted number u w answer after l h = subst IsMarked (sym h.1) (linked wanted u w l)
  unless (Some why) wanted number u w answer after l h = subst IsMarked (sym h.1) begun

  planned : (number : ℕ) (c : CommandView) (answer : Answer) (after : PlanningView) → Script.AnswersPlanned p number c answer after → IsMarked after
  planned number (Domain size) answer after h = subst IsMarked (sym h.1) m
  planned number (Prefix node bits) answer after h = pick p.begun _ _
      (λ _ q. subst IsMarked (sym q.1) m)
      (λ waits q. pick (nat_lt node p.plan.size) _ _
      (λ _ r. subst IsMarked (sym r.1) (prefixed node bits waits)) (λ _ r. subst IsMarked (sym r.1) m) q) h
  planned number (Load name text) answer after h = loaded (GivesText text) (IsRefusedText text) number name answer after h
  planned number (Code name bytes) answer after h = loaded (GivesFile bytes) (IsRefusedFile bytes) number name answer after h
  planned number (Link wanted u w) answer after h = pick (Script.are_a_pair p.plan.size u w) _ _
      (λ pair q. unless (Script.link_fault (is_linked p.plan u w) wanted) wanted number u w answer after
      (record { plan = m.plan; from = from_is p.plan.size u w pair; to = to_is p.plan.size u w pair; apart = apart_is p.plan.size u w pair }) q)
      (λ _ q. subst IsMarked (sym q.1) begun) h
  planned number (Use way u w name) answer after h = used (filter_named p.filters name) way number u w answer after (m.filters name) h
  planned number (Anew u) answer after h = pick (nat_lt u p.plan.size) _ _
      (λ short q. subst IsMarked (sym q.1) (anew u (is_short u p.plan.size short)))
      (λ _ q. subst IsMarked (sym q.1) begun) h
  planned number Mark answer after h = subst IsMarked (sym h.2.1) (marked h.0 h.1)
  planned number Json answer after h = subst IsMarked (sym h.1) begun
  planned number (Ask asked) answer after h = subst IsMarked (sym h.1) begun

same_planning : (a b : PlanningView) → Some a ≡ Some b → a ≡ b
same_planning a b e = cc

read_marked : (p : PlanningView) → IsMarked p → (number : ℕ) (r : Read) (answer : Answer) (after : PlanningView)
    → Script.AnswersRead (Some p) number r answer (Some after) → IsMarked after
read_marked p m number (Ok c) answer after h =
    subst IsMarked (sym (same_planning after h.0 h.2)) (planned p m number c answer h.0 h.1)
read_marked p m number (Err why) answer after h = subst IsMarked (sym (same_planning after p h.1)) m

pub line_marked : (p : PlanningView) → IsMarked p → (number : ℕ) (line : List ℕ) (answer : Answer) (after : PlanningView)
    → AnswersLine (Some p) number line answer (Some after) → IsMarked after
line_marked p m number line answer after h = read_marked p m number (command_in line) answer after h

-- a domain that was just set up
pub new_marked : (size : ℕ) → is_size size ≡ true → IsMarked (new_planning size)
new_marked size fits = record {
  plan = unlinked_plan (default_prefixes size) (fits_size size (default_prefixes size) fits refl);
  filters = λ name. tt;
  unbegun = λ h. refl;
  marks = tt;
}
