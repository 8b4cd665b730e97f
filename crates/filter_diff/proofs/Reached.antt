-- What the runs on the routes of a class come to.
use Rattle.std.proofs.Common.{◌≡◌, ◌⊎◌, inl, inr, ℕ, ◌+◌, ◌<◌, ◌≤◌, Bool, true, false, Option, Some, None}
use Rattle.std.proofs.Common.{List, [], replicate, refl, sym, ◌∙◌, ap, subst, arith, below_more}
use Rattle.std.specs.Prelude.{nat_lt, slice_get}
use Rattle.std.proofs.lemmas.Bool.Decides.{nat_tests}
use Rattle.filter_code.specs.declared.instruction.Instr.{Instr}
use Rattle.filter_code.specs.declared.instruction.Instr.TheVariants as instr
use Rattle.filter_code.specs.declared.outcome.Outcome.{Outcome}
use Rattle.filter_code.specs.CodeView.{CodeView}
use Rattle.filter_code.specs.RouteView.{RouteView}
use Rattle.filter_code.specs.Machine.{Config, State, Ended, Going, after}
use Rattle.filter_code.proofs.Runs.{ReachesIn, carried_on, carried_over, reached}
use Rattle.filter_diff.specs.Classes.{Always, IsKnown, IsOf, IsOfSize, IsUpTo}
use Rattle.filter_diff.specs.Marking.{AreAllMarked, AreMarked, AreSound, Extend, IsAdded, IsMarked, IsNoted, Shows, extent_of, joined}
use Rattle.filter_diff.specs.Parts.{Has, IsIn}
use Rattle.filter_diff.specs.Reaching.{AreOnTop, Comes, IsCondition, IsMax, IsOnTop, IsSound, has_truth}
use Rattle.filter_diff.specs.Exploring.{AreExplored, IsExplored}
use Rattle.filter_diff.specs.Symbols.{config_at}
use Rattle.filter_diff.specs.Turns.{Parts, Takes}
use Rattle.filter_diff.specs.declared.class.Class.{Class}
use Rattle.filter_diff.specs.declared.mark.Mark.{Mark}
use Rattle.filter_diff.specs.declared.route_part.PartFinding.TheVariants as finding
use Rattle.filter_diff.specs.declared.route_part.RoutePart.{RoutePart}
use Rattle.filter_diff.specs.declared.symbol.SymbolicValue.{SymbolicValue}
use Rattle.filter_diff.specs.declared.ending.RunEnding.{RunEnding}
use Rattle.filter_diff.specs.declared.turn.Turn.{Turn}
use Rattle.filter_diff.specs.declared.turn.Turn.TheVariants as turn
use Rattle.filter_diff.proofs.Marking.{added_more, extend_further, marked_here, marked_more, or_either, set_from, top_ints, top_value, truth_either}
use Rattle.filter_diff.proofs.Explored.{explored_more}
use Rattle.filter_diff.proofs.Steps.{begun}
use Rattle.filter_diff.proofs.Witness.{has_route}

-- what a run came to in fewer steps is marked
abbrev pub AreMarkedBefore : CodeView → List Mark → RouteView → ℕ → Type 0
AreMarkedBefore program marks route n = (k : ℕ) → k < n → (c : Config) → after program route k ≡ Going c → IsMarked program marks c

-- the runs of a class come to a configuration, and what they came to before is marked
abbrev pub ComeMarked : CodeView → Class → List Mark → ℕ → List SymbolicValue → List (Option SymbolicValue) → Option ℕ → Type 0
ComeMarked program class marks pc stack locals metric = Always class (λ (route : RouteView).
    (n : ℕ) × ReachesIn program route n (config_at route pc stack locals metric) × AreMarkedBefore program marks route n)

pub none_before : (program : CodeView) (marks : List Mark) (route : RouteView) → AreMarkedBefore program marks route 0
none_before program marks route k h c going = absurd (omega arith)

-- they begin with nothing
pub begin_marked : (program : CodeView) (class : Class) (marks : List Mark) (stack : List SymbolicValue) (locals : List (Option SymbolicValue)) →
    stack ≡ [] → locals ≡ replicate program.locals None → ComeMarked program class marks 0 stack locals class.metric
begin_marked program class marks stack locals none e route of =
    (0, begun program class stack locals none e route of, none_before program marks route)

-- one more
same_going : (state : State) (c d : Config) → state ≡ Going c → state ≡ Going d → c ≡ d
same_going state c d e f = cc

pub marked_next : (program : CodeView) (marks : List Mark) (route : RouteView) (n : ℕ) (c : Config) → after program route n ≡ Going c →
    IsMarked program marks c → AreMarkedBefore program marks route n → AreMarkedBefore program marks route (n + 1)
marked_next program marks route n c at marked so_far =
    below_more (λ k. (d : Config) → after program route k ≡ Going d → IsMarked program marks d) n so_far
    (λ d going. subst (IsMarked program marks) (same_going (after program route n) c d at going) marked)

-- what the instruction shows is marked, with what was marked before
pub marked_now : (program : CodeView) (class : Class) (i : Instr) (mark : Mark) (pc : ℕ) (stack : List SymbolicValue)
    (locals : List (Option SymbolicValue)) (metric : Option ℕ) (before after : List Mark) →
    ComeMarked program class before pc stack locals metric → slice_get program.instrs pc ≡ Some i → Shows i stack mark →
    IsAdded mark pc before after → Always class (λ (route : RouteView).
    (n : ℕ) × ReachesIn program route n (config_at route pc stack locals metric) × AreMarkedBefore program after route (n + 1))
marked_now program class i mark pc stack locals metric before after come here shows added route of =
    let r = come route of in
    let more = added_more mark pc before after added in (
      r.0,
      r.1,
      marked_next program after route r.0 _ r.1.is_there
          (marked_here program route i mark pc stack locals metric before after here shows added)
          (λ k h c going. marked_more program before after c more (r.2 k h c going)),
    )

-- an instruction takes them on
pub go_on_marked : (program : CodeView) (class : Class) (i : Instr) (mark : Mark) (from to : Parts) (before after : List Mark) →
    ComeMarked program class before from.pc from.stack from.locals from.metric → slice_get program.instrs from.pc ≡ Some i →
    Shows i from.stack mark → IsAdded mark from.pc before after → Takes program class i from to turn.On →
    ComeMarked program class after (to.pc + 1) to.stack to.locals to.metric
go_on_marked program class i mark from to before after come here shows added takes route of =
    let r = marked_now program class i mark from.pc from.stack from.locals from.metric before after come here shows added route of in
    (r.0 + 1, carried_on program route r.0 _ i _ r.1 here (takes route of), r.2)

-- a run that has ended comes to nothing more
ended_going : {A : Type 0} (state : State) (end : Outcome) (c : Config) → state ≡ Ended end → state ≡ Going c → A
ended_going state end c e f = let no : ⊥ = cc in absurd no

past_end : {A : Type 0} (program : CodeView) (route : RouteView) (n k : ℕ) (end : Outcome) (c : Config) → after program route n ≡ Ended end →
    after program route k ≡ Going c → n ≤ k → (last : Bool) → nat_lt n k ≡ last → A
past_end program route n k end c ended going h true e =
    let earlier = (reached program route k c going).earlier n (grind (arith, nat_tests)) in
    ended_going (after program route n) end earlier.0 ended earlier.1
past_end program route n k end c ended going h false e =
    let same : k ≡ n = grind (arith, nat_tests) in
    ended_going (after program route n) end c ended (subst (λ (m : ℕ). after program route m ≡ Going c) same going)

all_by : (program : CodeView) (marks : List Mark) (route : RouteView) (n : ℕ) (end : Outcome) → after program route n ≡ Ended end →
    AreMarkedBefore program marks route n → (k : ℕ) (c : Config) → after program route k ≡ Going c → (before : Bool) → nat_lt k n ≡ before →
    IsMarked program marks c
all_by program marks route n end ended so_far k c going true e = so_far k (grind (arith, nat_tests)) c going
all_by program marks route n end ended so_far k c going false e =
    past_end program route n k end c ended going (grind (arith, nat_tests)) (nat_lt n k) refl

pub all_marked : (program : CodeView) (marks : List Mark) (route : RouteView) (n : ℕ) (end : Outcome) → after program route n ≡ Ended end →
    AreMarkedBefore program marks route n → AreAllMarked program marks route
all_marked program marks route n end ended so_far k c going =
    all_by program marks route n end ended so_far k c going (nat_lt k n) refl

-- an instruction ends them
pub end_marked : (program : CodeView) (class : Class) (i : Instr) (mark : Mark) (from to : Parts) (end : RunEnding) (before after : List Mark) →
    ComeMarked program class before from.pc from.stack from.locals from.metric → slice_get program.instrs from.pc ≡ Some i →
    Shows i from.stack mark → IsAdded mark from.pc before after → Takes program class i from to (turn.Ended end) →
    Always class (λ (route : RouteView). AreAllMarked program after route)
end_marked program class i mark from to end before after come here shows added takes route of =
    let r = marked_now program class i mark from.pc from.stack from.locals from.metric before after come here shows added route of in
    let ends = carried_over program route r.0 _ i _ r.1 here (takes route of) in
    all_marked program after route (r.0 + 1) _ ends.ended r.2

-- or they come to a place from which on all is marked
explored_by : (program : CodeView) (marks : List Mark) (route : RouteView) (n : ℕ) (c : Config) → after program route n ≡ Going c →
    IsExplored program marks c.pc → AreMarkedBefore program marks route n → (k : ℕ) (d : Config) → after program route k ≡ Going d →
    (before : Bool) → nat_lt k n ≡ before → IsMarked program marks d
explored_by program marks route n c at explored so_far k d going true e = so_far k (grind (arith, nat_tests)) d going
explored_by program marks route n c at explored so_far k d going false e =
    explored route n c at refl k d (grind (arith, nat_tests)) going

pub come_explored : (program : CodeView) (class : Class) (before marks : List Mark) (explored : List Bool) (pc : ℕ) (stack : List SymbolicValue)
    (locals : List (Option SymbolicValue)) (metric : Option ℕ) → Extend before marks → AreExplored program before explored →
    ComeMarked program class marks pc stack locals metric → slice_get explored pc ≡ Some true →
    Always class (λ (route : RouteView). AreAllMarked program marks route)
come_explored program class before marks explored pc stack locals metric more are come here route of k d going =
    let r = come route of in
    explored_by program marks route r.0 _ r.1.is_there (explored_more program before marks pc more (are pc here)) r.2 k d going (nat_lt k r.0) refl

-- a class has a route
pub record HasOne (class : Class) : Type 0 where
  pub route : RouteView
  pub is_in : IsIn class.size route
  pub of : IsOf class route

abbrev part_with : Class → ℕ → ℕ → RoutePart
part_with class least greatest = record {
  prefix = class.known;
  shortest = class.len;
  longest = class.len;
  least = least;
  greatest = greatest;
  finding = finding.Undecided;
}

one_of_part : (class : Class) (least greatest : ℕ) → IsOfSize class.size class → least ≤ greatest → greatest ≤ class.size →
    ((route : RouteView) → Has (part_with class least greatest) route → IsKnown class.metric route.metric) → HasOne class
one_of_part class least greatest real metrics reachable received =
    let found = has_route class.size (part_with class least greatest)
    (record { pattern = real.bits; lengths = omega arith; fits = real.fits; metrics = metrics; reachable = reachable }) in
    record {
      route = found.route;
      is_in = found.is_in;
      of = record {
        begins = found.has.within;
        long = omega (arith, found.has.shortest, found.has.longest);
        fits = found.is_in.fits;
        received = received found.route found.has;
        size = found.is_in.domain;
      };
    }

one_by : (class : Class) (metric : Option ℕ) → class.metric ≡ metric → IsOfSize class.size class → HasOne class
one_by class None e real =
    one_of_part class 0 class.size real (omega arith) (omega arith)
    (λ route has. subst (λ (m : Option ℕ). IsKnown m route.metric) (sym e) tt)
one_by class (Some m) e real =
    let most : m ≤ class.size = subst (λ (o : Option ℕ). IsUpTo class.size o) e real.reachable in
    one_of_part class m m real (omega arith) most
    (λ route has. let is : route.metric ≡ m = omega (arith, has.least, has.greatest) in
    subst (λ (o : Option ℕ). IsKnown o route.metric) (sym e) is)

pub has_one : (class : Class) → IsOfSize class.size class → HasOne class
has_one class real = one_by class class.metric refl real

-- what is marked is so on that route
sound_either : (program : CodeView) (size pc : ℕ) (i : Instr) (mark had : Mark) (route : RouteView) (stack : List SymbolicValue)
    (locals : List (Option SymbolicValue)) (metric : Option ℕ) (truth : Bool) → IsSound program size pc had →
    slice_get program.instrs pc ≡ Some i → Shows i stack mark → Comes program size pc (config_at route pc stack locals metric) →
    (has_truth truth had ≡ true) ⊎ (has_truth truth mark ≡ true) →
    IsCondition program pc × (c : Config) × Comes program size pc c × IsOnTop truth c
sound_either program size pc i mark had route stack locals metric truth sound here shows comes (inl e) = sound.condition truth e
sound_either program size pc i mark had route stack locals metric truth sound here shows comes (inr e) =
    let shown = shows.real truth e in
    let is : slice_get program.instrs pc ≡ Some (instr.JumpIfNot shown.0.0) = here ∙ ap Some shown.0.1 in
    (record { skipped = shown.0.0; instruction = is }, config_at route pc stack locals metric, comes, top_value route stack truth shown.1)

raised_either : (program : CodeView) (size pc : ℕ) (i : Instr) (mark had : Mark) (route : RouteView) (stack : List SymbolicValue)
    (locals : List (Option SymbolicValue)) (metric : Option ℕ) → IsSound program size pc had → slice_get program.instrs pc ≡ Some i →
    Shows i stack mark → Comes program size pc (config_at route pc stack locals metric) →
    (had.is_raised ≡ true) ⊎ (mark.is_raised ≡ true) → IsMax program pc × (c : Config) × Comes program size pc c × AreOnTop true c
raised_either program size pc i mark had route stack locals metric sound here shows comes (inl e) = sound.raised e
raised_either program size pc i mark had route stack locals metric sound here shows comes (inr e) =
    let shown = shows.really_raised e in (
      here ∙ ap Some shown.0,
      config_at route pc stack locals metric,
      comes,
      top_ints route pc stack locals metric true shown.1,
    )

sound_here : (program : CodeView) (size pc : ℕ) (i : Instr) (mark had : Mark) (route : RouteView) (stack : List SymbolicValue)
    (locals : List (Option SymbolicValue)) (metric : Option ℕ) → IsSound program size pc had → slice_get program.instrs pc ≡ Some i →
    Shows i stack mark → Comes program size pc (config_at route pc stack locals metric) → IsSound program size pc (joined had mark)
sound_here program size pc i mark had route stack locals metric sound here shows comes = record {
  reached = λ e. (_, comes);
  condition = λ truth e.
      sound_either program size pc i mark had route stack locals metric truth sound here shows comes (truth_either truth had mark e);
  raised = λ e. raised_either program size pc i mark had route stack locals metric sound here shows comes
      (or_either had.is_raised mark.is_raised e);
}

pub sound_at : (program : CodeView) (size pc : ℕ) (mark : Mark) (before after : List Mark) (added : IsAdded mark pc before after) →
    AreSound program size before → IsSound program size pc (joined added.had mark) → (place : ℕ) (now : Mark) →
    ((place ≡ pc) × (now ≡ joined added.had mark)) ⊎ (slice_get before place ≡ Some now) → IsSound program size place now
sound_at program size pc mark before after added sound here place now (inl e) =
    subst (λ (p : ℕ). IsSound program size p now) (sym e.0) (subst (IsSound program size pc) (sym e.1) here)
sound_at program size pc mark before after added sound here place now (inr there) = sound place now there

pub sound_added : (program : CodeView) (class : Class) (i : Instr) (mark : Mark) (pc : ℕ) (stack : List SymbolicValue)
    (locals : List (Option SymbolicValue)) (metric : Option ℕ) (before after : List Mark) → IsOfSize class.size class →
    ComeMarked program class before pc stack locals metric → slice_get program.instrs pc ≡ Some i → Shows i stack mark →
    IsAdded mark pc before after → AreSound program class.size before → AreSound program class.size after
sound_added program class i mark pc stack locals metric before after real come here shows added sound place now there =
    let one = has_one class real in
    let r = come one.route one.of in
    let comes : Comes program class.size pc (config_at one.route pc stack locals metric) =
    record { route = one.route; is_in = one.is_in; steps = r.0; going = r.1.is_there; here = refl } in
    sound_at program class.size pc mark before after added sound
    (sound_here program class.size pc i mark added.had one.route stack locals metric (sound pc added.had added.there) here shows comes)
    place now
    (set_from before pc (joined added.had mark) place now
    (subst (λ (marks : List Mark). slice_get marks place ≡ Some now) added.set there))

-- the same where what the instruction shows is added to the mark of its place
module _ (program : CodeView) (class : Class) (i : Instr) (stack : List SymbolicValue) (from to : Parts) (first before after : List Mark)
    (here : slice_get program.instrs from.pc ≡ Some i) (noted : IsNoted i from.pc stack from.stack before after true)
    (come : ComeMarked program class before from.pc stack from.locals from.metric) where
  shows : Shows i from.stack noted.0
  shows = subst (λ (s : List SymbolicValue). Shows i s noted.0) (sym noted.1) noted.2

  come_here : ComeMarked program class before from.pc from.stack from.locals from.metric
  come_here = subst (λ (s : List SymbolicValue). ComeMarked program class before from.pc s from.locals from.metric) (sym noted.1) come

  pub go_on_noted : Takes program class i from to turn.On → ComeMarked program class after (to.pc + 1) to.stack to.locals to.metric
  go_on_noted takes = go_on_marked program class i noted.0 from to before after come_here here shows noted.3 takes

  pub end_noted : (how : Turn) → Takes program class i from to how → AreMarked program class after (extent_of how)
  end_noted (turn.Ended end) takes = end_marked program class i noted.0 from to end before after come_here here shows noted.3 takes
  end_noted turn.On takes = tt
  end_noted turn.AsksBits takes = tt
  end_noted turn.AsksMetric takes = tt

  pub more_noted : Extend first before → Extend first after
  more_noted more = extend_further first before after more (added_more noted.0 from.pc before after noted.3)

  pub sound_noted : IsOfSize class.size class → (AreSound program class.size first → AreSound program class.size before) →
      AreSound program class.size first → AreSound program class.size after
  sound_noted real sound at_first =
      sound_added program class i noted.0 from.pc from.stack from.locals from.metric before after real come_here here shows noted.3
      (sound at_first)
